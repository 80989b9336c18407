-- A row that is given in bytes.
use Rattle.std.proofs.Common.{◌≡◌, ◌≤◌, ◌+◌, ◌-◌, ◌*◌, ◌<◌, ◌%◌, ◌^◌, ◌/◌, ℕ, zero, suc, List, length, map, refl, sym, ap, ◌∙◌, subst, arith, slice_index, get_or-set_same, length-set}
use Rattle.std.specs.Prelude.{◌==◌}
use Rattle.std.proofs.Math.Nat.{mul-mod_right}
use Rattle.std.proofs.lemmas.Nat.{pow_pos}
use Rattle.pbm_core.specs.Pbm.{bytes_of_row, padding_of, pixel, masked_row, IsMasked, MaskKeepsPixels}
use Rattle.pbm_core.specs.Image.{pixels_of, MaskedIsPacked}
use Rattle.pbm_core.specs.Image as pbm
use Rattle.raster_core.specs.Packed.{Held}
use Rattle.raster_core.specs.Window.{turned}
use Rattle.t85_core.specs.States.ByRow.{IsBelow}
use Rattle.t85_core.proofs.ImagesEncode.EncoderTakesRow.{same_row, pixels_many}

multiple : (n m : ℕ) → 0 < m → (n - n % m) % m ≡ 0
multiple n m some =
    let whole : n - n % m ≡ m * (n / m) = omega arith in
    ap (λ k. k % m) whole ∙ mul-mod_right m (n / m)

bytes_some : (width : ℕ) → 1 ≤ width → 1 ≤ bytes_of_row width
bytes_some width some = grind arith

pub masked_is : (width : ℕ) (bytes : List ℕ) → 1 ≤ width → length bytes ≡ bytes_of_row width → IsMasked width (masked_row width bytes)
masked_is width bytes some whole =
    let last : ℕ = bytes_of_row width - 1 in
    let within : last < length bytes = omega (arith, bytes_some width some) in
    ap (λ b. b % 2 ^ padding_of width) (get_or-set_same bytes last _ 0 within) ∙ multiple (slice_index bytes last) (2 ^ padding_of width) (pow_pos (padding_of width))

-- two functions that agree on numbers
same_map : {X : Type 0} (f h : ℕ → X) (k n : ℕ) → ((x : ℕ) → x < k + n → f x ≡ h x) → map f (pbm.numbers_from k n) ≡ map h (pbm.numbers_from k n)
same_map f h k zero same = refl
same_map f h k (suc n) same = rw (same k (omega arith), same_map f h (k + 1) n (λ x lt. same x (omega arith)))

-- a row down in the window, with these pixels
pub row_below : {width : ℕ} {mid : Held} {row : List ℕ} (bytes : List ℕ) (old : Held) → 1 ≤ width → length bytes ≡ bytes_of_row width → MaskKeepsPixels → MaskedIsPacked →
    row ≡ masked_row width bytes →
    ((k : ℕ) → slice_index row k < 256) → mid ≡ turned old → old.width ≡ width →
    IsBelow (pixels_of width bytes) old (record { width = mid.width; current = row; above = mid.above; second = mid.second })
row_below {width} {row} bytes old some whole keeps packed row_is small mid_is wide = λ lines has. record {
  row_is = packed_is ∙ same_row (pixels_of width bytes);
  above_is = ap (λ h. h.above) mid_is ∙ has.row_is;
  second_is = ap (λ h. h.second) mid_is ∙ has.above_is;
  row_wide = pixels_many bytes ∙ sym wide ∙ sym (ap (λ h. h.width) mid_is);
  above_wide = has.row_wide ∙ sym (ap (λ h. h.width) mid_is);
  second_wide = has.above_wide ∙ sym (ap (λ h. h.width) mid_is);
} where
  same_pixels : pixels_of width (masked_row width bytes) ≡ pixels_of width bytes
  same_pixels = same_map (λ x. pixel (masked_row width bytes) x == 1) (λ x. pixel bytes x == 1) 0 width (λ x lt. ap (λ b. b == 1) (keeps width bytes x whole (omega arith)))

  packed_is : row ≡ pbm.packed_row (pixels_of width bytes)
  packed_is =
      row_is
      ∙ sym (packed width (masked_row width bytes) (length-set bytes (bytes_of_row width - 1) _ ∙ whole) (masked_is width bytes some whole)
      (subst (λ r. (k : ℕ) → slice_index r k < 256) row_is small))
      ∙ ap pbm.packed_row same_pixels
