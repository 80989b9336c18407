-- Pixels in words, the first one in the highest bit.
use Rattle.std.specs.Prelude.{ℕ, zero, suc, ◌+◌, ◌-◌, ◌*◌, ◌≡◌, ◌≤◌, slice_index, Bool, false, List, count_by, ◌&&◌, not, nat_lt, if◌then◌else◌}
use Rattle.std.specs.Int.{div_ceil}
use Rattle.raster_core.specs.Raster.{pixel_at}
use Rattle.raster_core.specs.Packed.{packed_row}
use Rattle.qm_core.specs.Place.{same}
use Rattle.raster_core.specs.Machine.Registers.{bit}
use Rattle.raster_core.specs.Lines.{Lines, adaptive, numbers_from}

-- n pixels from `first` on, as a number
unfoldable pub word : (ℕ → Bool) → ℕ → ℕ → ℕ
word p first zero = 0
word p first (suc n) = word p first n * 2 + bit (p (first + n))

-- a row with 128 white pixels before it
abbrev pub led : List Bool → ℕ → Bool
led row i = if nat_lt i 128 then false else pixel_at row (i - 128)

-- the positions left of this width
abbrev pub is_within : ℕ → ℕ → Bool
is_within width x = nat_lt x width

-- the pixels of a row, counted from a position
pub record PixelsFrom : Type 0 where
  pub pixels : ℕ → Bool
  pub first : ℕ

abbrev pub pixels_from : (ℕ → Bool) → ℕ → PixelsFrom
pixels_from pixels first = record { pixels = pixels; first = first }

-- the number of n positions, each counted from its own start, at which p and q have the same pixel and m holds
unfoldable pub agreed_from : (p q m : PixelsFrom) → (n : ℕ) → ℕ
agreed_from p q m n = count_by (λ i. m.pixels (m.first + i) && same (p.pixels (p.first + i)) (q.pixels (q.first + i))) (numbers_from 0 n)

-- the number of n positions from `first` on, left of `width`, at which the row equals the adaptive pixel
unfoldable pub part_agreement : Lines → (width offset first n : ℕ) → ℕ
part_agreement lines width offset first n =
    count_by (λ x. is_within width x && same (pixel_at lines.row x) (adaptive lines offset x)) (numbers_from first n)

-- the counts are those of the row in these bytes, at each of these lags
abbrev pub AgreesAt : List ℕ → ℕ → ℕ → ℕ → List ℕ → Type 0
AgreesAt bytes width least most counts =
    (lines : Lines) → bytes ≡ packed_row lines.row → (lag : ℕ) → least ≤ lag → lag ≤ most →
    slice_index counts lag ≡ part_agreement lines width lag 0 (64 * div_ceil width 64)

-- the number is that of the row in these bytes at the nominal position, if the row above has the same bytes
abbrev pub AgreesBelowItself : List ℕ → ℕ → ℕ → Type 0
AgreesBelowItself bytes width number =
    (lines : Lines) → bytes ≡ packed_row lines.row → bytes ≡ packed_row lines.above →
    number ≡ part_agreement lines width 0 0 (64 * div_ceil width 64)

-- the positions from one on, before another
abbrev pub is_between : ℕ → ℕ → ℕ → Bool
is_between first end x = nat_lt x end && not (nat_lt x first)

-- the number of n positions from `first` on, among those of the mask, at which the row equals the adaptive pixel
unfoldable pub part_among : (ℕ → Bool) → Lines → (offset first n : ℕ) → ℕ
part_among mask lines offset first n =
    count_by (λ x. mask x && same (pixel_at lines.row x) (adaptive lines offset x)) (numbers_from first n)
