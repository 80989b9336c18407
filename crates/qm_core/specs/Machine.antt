-- The meaning of the registers, the held bytes and the packed context states.
use Rattle.std.specs.Prelude.{ℕ, ◌+◌, ◌-◌, ◌*◌, ◌^◌, ◌≡◌, ◌≤◌, ◌<◌, List, length, Option, Some, None, [], ◌∷◌, ◌++◌, replicate, ◌/◌, ◌%◌, nat_eq, if◌then◌else◌}
use Rattle.qm_core.specs.Place.{Place, Estimate}
use Rattle.qm_core.specs.Code.{number}

-- The registers of a decoder at a place that has read these bytes: the size times 128, the bits read beyond the
-- doublings, and 128 times the distance of the bytes' value from the low end.
pub record Registers (code span bits : ℕ) (p : Place) (b : List ℕ) : Type 0 where
  pub size : span ≡ 128 * p.size
  pub count : bits + p.doublings ≡ 8 * length b
  pub value : code + 128 * p.low ≡ number b * 2 ^ (23 - bits)

abbrev pub option_bytes : Option ℕ → List ℕ
option_bytes None = []
option_bytes (Some b) = b ∷ []

-- zero bytes, an optional byte, and bytes 255
abbrev pub run_bytes : ℕ → Option ℕ → ℕ → List ℕ
run_bytes zeros byte ones = replicate zeros 0 ++ (option_bytes byte ++ replicate ones 255)

-- The registers of an encoder whose code has these digits so far: `low` is the remainder of the low end, times 128,
-- that the digits do not contain.
pub record Digits (low span bits : ℕ) (p : Place) (digits : List ℕ) : Type 0 where
  pub size : span ≡ 128 * p.size
  pub count : 8 * length digits + bits ≡ 16 + p.doublings
  pub value : 128 * p.low ≡ number digits * 2 ^ (bits + 7) + low

-- a size, times 128, that needs no doubling; and, below, one that does
abbrev pub IsLargeEnough : ℕ → Type 0
IsLargeEnough span = (4194304 ≤ span) × (span ≤ 8388608) × (span % 128 ≡ 0)

abbrev pub IsTooSmall : ℕ → Type 0
IsTooSmall span = (128 ≤ span) × (span < 4194304) × (span % 128 ≡ 0)

-- The upper end of the interval is at most 2^(bits + 8), or half of that if no byte is held back for a carry.
abbrev pub FitsIn : ℕ → ℕ → ℕ → Option ℕ → Type 0
FitsIn low span bits held = (low + span ≤ 2 ^ (bits + 8)) × (held ≡ None → low + span ≤ 2 ^ (bits + 7))

-- the digits after a byte was appended; a carry may make this byte exceed 255
pub record Appends (old new : List ℕ) (byte : ℕ) : Type 0 where
  pub value : number new ≡ number old * 256 + byte
  pub longer : length new ≡ length old + 1

-- the estimate in a cell, which is twice the row, plus one if black is more probable
abbrev pub estimate : ℕ → Estimate
estimate cell = record { row = cell / 2; pixel = nat_eq (cell % 2) 1 }

-- the cell of an estimate
abbrev pub cell_of : Estimate → ℕ
cell_of e = 2 * e.row + (if e.pixel then 1 else 0)
