-- A window whose padding is made 0.
use Rattle.std.proofs.Common.{◌≡◌, ◌≤◌, ◌-◌, ◌<◌, ℕ, List, length, sym, ap, ◌∙◌, subst, slice_index, length-set}
use Rattle.pbm_core.specs.Pbm.{bytes_of_row, masked_row}
use Rattle.pbm_core.specs.Image.{pixels_of, MaskedIsPacked, PackedStays}
use Rattle.raster_core.specs.Packed.{Held, packed_row, with_current}
use Rattle.raster_core.specs.Window.{turned}
use Rattle.t85_core.specs.States.ByRow.{IsLined}
use Rattle.t85_core.proofs.ImagesEncode.RowIsGiven.{masked_is}
use Rattle.t85_core.proofs.ImagesEncode.EncoderTakesRow.{same_row, pixels_many}

-- a row down, to the row that is there with its padding made 0
abbrev pub next_cleared : ℕ → Held → Held
next_cleared width w = with_current (turned w) (masked_row width w.second)

abbrev cleared : ℕ → Held → Held
cleared width w = next_cleared width (next_cleared width (next_cleared width w))

abbrev AreSmall : List ℕ → Type 0
AreSmall bytes = (k : ℕ) → slice_index bytes k < 256

module _ {width : ℕ} {w1 w2 w3 : Held} (some : 1 ≤ width) (w0 : Held) (wide : w0.width ≡ width) (e1 : w1 ≡ next_cleared width w0) (e2 : w2 ≡ next_cleared width w1)
    (e3 : w3 ≡ next_cleared width w2) where
  third : w3 ≡ cleared width w0
  third = rw (e3, e2, e1)

  pub cleared_lined : MaskedIsPacked → length w0.second ≡ bytes_of_row width → length w1.second ≡ bytes_of_row width → length w2.second ≡ bytes_of_row width → AreSmall w1.current →
      AreSmall w2.current → AreSmall w3.current → IsLined w3
  cleared_lined packed long1 long2 long3 small1 small2 small3 = rw third (
    record { row = pixels_of width (masked_row width w0.current); above = pixels_of width (masked_row width w0.above); second = pixels_of width (masked_row width w0.second) },
    record {
      row_is = is w0.current (sym (ap (λ w. length w.second) (e2 ∙ ap (next_cleared width) e1)) ∙ long3) (subst (λ w. AreSmall w.current) third small3);
      above_is = is w0.above (sym (ap (λ w. length w.second) e1) ∙ long2) (subst (λ w. AreSmall w.current) (e2 ∙ ap (next_cleared width) e1) small2);
      second_is = is w0.second long1 (subst (λ w. AreSmall w.current) e1 small1);
      row_wide = pixels_many (masked_row width w0.current) ∙ sym wide;
      above_wide = pixels_many (masked_row width w0.above) ∙ sym wide;
      second_wide = pixels_many (masked_row width w0.second) ∙ sym wide;
    },
  ) where
    is : (row : List ℕ) → length row ≡ bytes_of_row width → AreSmall (masked_row width row) → masked_row width row ≡ packed_row (pixels_of width (masked_row width row))
    is row whole small =
        sym (packed width (masked_row width row) (length-set row (bytes_of_row width - 1) _ ∙ whole) (masked_is width row some whole) small) ∙ same_row (pixels_of width (masked_row width row))

  pub cleared_stays : PackedStays → IsLined w0 → w3 ≡ w0
  cleared_stays stays (lines, has) =
      rw (third, same w0.current lines.row has.row_is has.row_wide, same w0.above lines.above has.above_is has.above_wide, same w0.second lines.second has.second_is has.second_wide)
    where
      same : (bytes : List ℕ) (row : List Rattle.std.proofs.Common.Bool) → bytes ≡ packed_row row → length row ≡ w0.width → masked_row width bytes ≡ bytes
      same bytes row is long = rw (is, ← same_row, stays width row some (long ∙ wide), same_row, ← is)
