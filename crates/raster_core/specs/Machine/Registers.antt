-- The pixels in registers.
use Rattle.std.specs.Prelude.{ℕ, zero, suc, ◌+◌, ◌*◌, ◌≡◌, ◌-◌, ◌^◌, ◌≤◌, Bool, true, false, List}
use Rattle.raster_core.specs.Raster.{pixel_at}
use Rattle.raster_core.specs.Lines.{Lines}
use Rattle.raster_core.specs.declared.shape.Shape.{Shape}

abbrev pub bit : Bool → ℕ
bit true = 1
bit false = 0

-- the number with the k pixels before x in base 2, the nearest lowest; white left and right of the row
unfoldable pub before : List Bool → ℕ → ℕ → ℕ
before row x zero = 0
before row zero (suc k) = 0
before row (suc x) (suc k) = 2 * before row x k + bit (pixel_at row x)

-- whether an offset moves the adaptive pixel away from its nominal position
abbrev pub is_moved : ℕ → Bool
is_moved zero = false
is_moved (suc t) = true

-- the number of earlier pixels in a pixel's register: a moved adaptive pixel may be 127 pixels away
abbrev pub past_bits : ℕ → ℕ
past_bits zero = 64
past_bits (suc t) = 128

-- The registers of a pixel at x. That of the row two above has the pixels up to the first one after the pixel's byte, that of
-- the row above those up to the second one after it; both move along with the pixels of the byte by shifts to the left. That of
-- the row itself has the pixels before x.
pub record AreAt (lines : Lines) (offset second above past x : ℕ) : Type 0 where
  -- the number of pixels of the byte after it
  pub left : ℕ
  pub few : left ≤ 7
  pub second_is : second ≡ before lines.second (x + (left + 2)) 17 * 2 ^ (7 - left)
  pub above_is : above ≡ before lines.above (x + (left + 3)) 18 * 2 ^ (7 - left)
  pub past_is : past ≡ before lines.row x (past_bits offset)

-- the meaning of the registers and a byte of the row at the byte that begins at x
pub record ByteAt (lines : Lines) (second above byte x : ℕ) : Type 0 where
  pub second_is : second ≡ before lines.second (x + 16) 24
  pub above_is : above ≡ before lines.above (x + 16) 24
  pub byte_is : byte ≡ before lines.row (x + 8) 8

-- the template for which code was generated, and whether its adaptive pixel is moved
abbrev pub IsTemplate : Bool → Bool → Shape → ℕ → Type 0
IsTemplate two_line moved shape offset = (offset ≤ 127) × (two_line ≡ shape.two_line) × (moved ≡ is_moved offset)
