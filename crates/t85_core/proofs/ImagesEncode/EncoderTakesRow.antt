-- A row that an encoder takes.
use Rattle.std.proofs.Common.{◌≡◌, ◌+◌, ◌*◌, ℕ, zero, suc, Bool, List, [], length, Option, refl, sym, ap, ◌∙◌, append-nil}
use Rattle.std.specs.Prelude.{◌==◌}
use Rattle.std.specs.Int.{div_ceil}
use Rattle.std.specs.Io.KnownBytes.{Consumes}
use Rattle.std.proofs.lemmas.List.{length-map}
use Rattle.pbm_core.specs.declared.form.Form.{Form}
use Rattle.pbm_core.specs.declared.form.Form.TheVariants.{Raw, Plain}
use Rattle.pbm_core.specs.Pbm.{pixel}
use Rattle.pbm_core.specs.Image.{IsRow, IsRowOf, pixels_of}
use Rattle.pbm_core.specs.Image as pbm
use Rattle.raster_core.specs.Packed.{Held, packed_row, rows_at, with_current, with_part}
use Rattle.raster_core.specs.Window.{turned}
use Rattle.t85_core.specs.Private.EncodeRows.{RowTaken}

-- The current row of a window is written, with a given place and width.
pub put_current : {told place told_width width : ℕ} (start end : ℕ) (bytes row : List ℕ) → told ≡ place → told_width ≡ width → length bytes ≡ 3 * div_ceil width 8 →
    length row ≡ div_ceil width 8 →
    ((bytes row : List ℕ) → length bytes ≡ 3 * div_ceil told_width 8 → length row ≡ div_ceil told_width 8 →
    rows_at told told_width (with_part start end bytes row) ≡ with_current (rows_at told told_width bytes) row) →
    rows_at place width (with_part start end bytes row) ≡ with_current (rows_at place width bytes) row
put_current {told} {width} start end bytes row place_is width_is long wide put =
    rw (← place_is, ← width_is) (put bytes row (long ∙ ap (λ w. 3 * div_ceil w 8) (sym width_is)) (wide ∙ ap (λ w. div_ceil w 8) (sym width_is)))

-- a row in bytes is the same to both readers and writers
pub same_row : (row : List Bool) → pbm.packed_row row ≡ packed_row row
same_row row = refl

numbers_many : {n : ℕ} (k : ℕ) → length (pbm.numbers_from k n) ≡ n
numbers_many {n = zero} k = refl
numbers_many {n = (suc n)} k = ap suc (numbers_many (k + 1))

pub pixels_many : {width : ℕ} (bytes : List ℕ) → length (pixels_of width bytes) ≡ width
pixels_many {width} bytes = length-map (pbm.numbers_from 0 width) (λ x. pixel bytes x == 1) ∙ numbers_many 0

pub row_wide : {width : ℕ} (form : Form) (given : List ℕ) (row : List Bool) → IsRow form width given row → length row ≡ width
row_wide Raw given row p = rw p.1 (pixels_many given)
row_wide Plain given row p = p.0

pub row_taken : {form : Form} {width : ℕ} {mid old : Held} {given row : List ℕ} {known known' : Option (List ℕ)} → mid ≡ turned old → old.width ≡ width →
    IsRowOf form width given row →
    Consumes known known' given → RowTaken form width known known' old (record { width = mid.width; current = row; above = mid.above; second = mid.second })
row_taken {form} {width} {given} {row} mid_is wide is taken = record {
  row = is.pixels;
  read = record { given = given; taken = taken; are_rows = (given, [], sym (append-nil given), is.is_row, refl) };
  below = λ lines has. record {
    row_is = is.packed ∙ same_row is.pixels;
    above_is = ap (λ h. h.above) mid_is ∙ has.row_is;
    second_is = ap (λ h. h.second) mid_is ∙ has.above_is;
    row_wide = row_wide form given is.pixels is.is_row ∙ sym wide ∙ sym (ap (λ h. h.width) mid_is);
    above_wide = has.row_wide ∙ sym (ap (λ h. h.width) mid_is);
    second_wide = has.above_wide ∙ sym (ap (λ h. h.width) mid_is);
  };
}
