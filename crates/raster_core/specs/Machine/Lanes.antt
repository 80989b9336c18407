-- Contexts of four pixels at once, each in 16 bits of a number, the first lowest, with three lines.
use Rattle.std.specs.Prelude.{ℕ, ◌+◌, ◌*◌, ◌/◌, ◌%◌, ◌^◌, ◌<◌, ◌≤◌, ◌≡◌, Bool, true, false, List}
use Rattle.raster_core.specs.Raster.{pixel_left}
use Rattle.raster_core.specs.Lines.{Lines, context_at}
use Rattle.raster_core.specs.Machine.Registers.{bit, before, past_bits, ByteAt}

-- 16 bits of a number
abbrev pub lane : ℕ → ℕ → ℕ
lane lanes j = lanes / 2 ^ (16 * j) % 2 ^ 16

-- The part of the context of pixel j of a byte that the rows above determine, with the nominal adaptive pixel. The registers
-- are those of decoding.
abbrev pub around : ℕ → ℕ → ℕ → ℕ
around second above j = second / 2 ^ 7 * 2 ^ j / 2 ^ 7 % 8 * 128 + above / 2 ^ 6 * 2 ^ j / 2 ^ 7 % 32 * 4

-- a number has the moved adaptive pixels of a byte's eight pixels, the first highest
abbrev pub HasFar : ℕ → ℕ → ℕ → ℕ → Type 0
HasFar far offset past byte =
    (row : List Bool) (x j : ℕ) → past ≡ before row x 128 → byte ≡ before row (x + 8) 8 → j < 8 →
    far * 2 ^ j / 2 ^ 7 % 2 ≡ bit (pixel_left row (x + j) offset)

-- the part of the context of pixel j from the rows above and these adaptive pixels
abbrev pub moved_around : ℕ → ℕ → ℕ → ℕ → ℕ
moved_around second above far j =
    second / 2 ^ 7 * 2 ^ j / 2 ^ 7 % 8 * 128 + above / 2 ^ 6 * 2 ^ j / 2 ^ 8 % 16 * 8 + far * 2 ^ j / 2 ^ 7 % 2 * 4

-- the context of pixel j without the two pixels before it, whether or not the adaptive pixel is moved
abbrev pub near : Bool → ℕ → ℕ → ℕ → ℕ → ℕ
near false second above far j = around second above j
near true second above far j = moved_around second above far j

-- the two pixels before pixel j of a byte and the pixel, in a register of the byte and the one before it
abbrev pub own : ℕ → ℕ → ℕ
own row j = row * 2 ^ j / 2 ^ 7 % 8

-- lane j of a window: six pixels of the row two above, eight of the row above, six of the row
abbrev pub second_lane : ℕ → ℕ → ℕ
second_lane window j = window * 2 ^ j / 8 % 8 * 128

abbrev pub above_lane : ℕ → ℕ → ℕ
above_lane window j = window * 2 ^ j / 8 % 32 * 4

abbrev pub row_lane : ℕ → ℕ → ℕ
row_lane window j = window * 2 ^ j / 8 % 8

-- with a moved adaptive pixel: seven pixels of the row above, four adaptive pixels
abbrev pub moved_above_lane : ℕ → ℕ → ℕ
moved_above_lane window j = window * 2 ^ j / 8 % 16 * 8

abbrev pub far_lane : ℕ → ℕ → ℕ
far_lane window j = window * 2 ^ j / 8 % 2 * 4

-- `count` lanes have the parts from the rows above of the contexts of the pixels from `from` on
abbrev pub HasAround : ℕ → ℕ → ℕ → ℕ → ℕ → Type 0
HasAround lanes second above from count =
    (j : ℕ) → j < count → lane lanes j ≡ around second above (from + j)

-- `count` lanes have twice the contexts of the pixels from `from` on, with `beside` near them, plus the pixels
abbrev pub HasPixels : ℕ → (ℕ → ℕ) → ℕ → ℕ → ℕ → Type 0
HasPixels lanes beside row from count =
    (j : ℕ) → j < count → lane lanes j ≡ 2 * beside (from + j) + own row (from + j)

-- with three lines, the contexts of a byte's pixels without the two pixels before each
pub record AreBeside (beside : ℕ → ℕ) (offset second above byte past : ℕ) : Type 0 where
  pub small : (j : ℕ) → beside j ≤ 1020
  pub contexts : (typical : Bool) (lines : Lines) (x j : ℕ) → j < 8 → ByteAt lines second above byte x → past ≡ before lines.row x (past_bits offset) →
      beside j + own (past % 256 * 256 + byte) j / 2 ≡ context_at (record { two_line = false; typical = typical }) lines offset (x + j)
