-- White rows in bytes.
use Rattle.std.proofs.Common.{◌≡◌, ℕ, zero, suc, ◌+◌, ◌*◌, false, List, refl, sym, ◌∙◌, ap, replicate}
use Rattle.raster_core.specs.Raster.{pixel_at, white_row}
use Rattle.raster_core.specs.Packed.{packed_row, row_bytes, white_lines, HasLines}
use Rattle.raster_core.specs.Machine.Registers.{before}
use Rattle.raster_core.proofs.PixelNumbersSplit.{before_suc, before_none, before_zero}
use Rattle.raster_core.proofs.RegistersTakeBytes.{packed_is}
use Rattle.std.proofs.lemmas.List.{length-replicate}
use Rattle.raster_core.proofs.BestIsFound.{zeros}

white_at : (n x : ℕ) → pixel_at (replicate n false) x ≡ false
white_at zero x = refl
white_at (suc n) zero = refl
white_at (suc n) (suc x) = white_at n x

before_white_row : (n x k : ℕ) → before (replicate n false) x k ≡ 0
before_white_row n x zero = before_zero _ x
before_white_row n zero (suc k) = before_none _ (suc k)
before_white_row n (suc x) (suc k) = rw (before_suc (replicate n false) x k, before_white_row n x k, white_at n x) refl

-- zeros are a white row
pub packed-white : (width : ℕ) → replicate (row_bytes width) 0 ≡ packed_row (white_row width)
packed-white width =
    packed_is (white_row width) (replicate (row_bytes width) 0)
    (length-replicate {A = ℕ} (row_bytes width) 0 ∙ ap row_bytes (sym (length-replicate width false)))
    (λ k h. zeros (row_bytes width) k ∙ sym (before_white_row width (8 * k + 8) 8))

-- three rows of zeros are white lines
pub white_held : (width : ℕ) (current above second : List ℕ) → current ≡ replicate (row_bytes width) 0 → above ≡ replicate (row_bytes width) 0 → second ≡ replicate (row_bytes width) 0 →
    HasLines (record { width = width; current = current; above = above; second = second }) (white_lines width)
white_held width current above second c a s =
    record {
      row_is = c ∙ packed-white width;
      above_is = a ∙ packed-white width;
      second_is = s ∙ packed-white width;
      row_wide = length-replicate width false;
      above_wide = length-replicate width false;
      second_wide = length-replicate width false;
    }
