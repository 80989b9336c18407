-- The state of a row that is read from pieces, after one more pixel or byte.
use Rattle.std.proofs.Common.{cond, ◌≡◌, ◌≢◌, ◌≤◌, ◌<◌, ◌+◌, ◌*◌, ◌-◌, ◌%◌, ◌^◌, ℕ, Bool, List, [], ◌∷◌, ◌++◌, length, slice_index, slice_set, get_or, take, take_all, refl, sym, ap, ◌∙◌, subst, arith, append-nil, append_assoc, length-append, get_or-set_same, get_or-set_other, below_more, length-set}
use Rattle.std.proofs.lemmas.List.{length_push, length-take-le}
use Rattle.pbm_core.specs.declared.fault.PbmFault.TheVariants.{BadDigit, Truncated}
use Rattle.pbm_core.specs.declared.form.Form.{Form}
use Rattle.pbm_core.specs.declared.form.Form.TheVariants.{Raw, Plain}
use Rattle.pbm_core.specs.declared.row_reader.RowReader.{RowReader}
use Rattle.pbm_core.specs.Pbm.{bytes_of_row, IsWhite, masked_row, IsMasked}
use Rattle.pbm_core.specs.Image.{binary, packed_row, pixels_of, digit_of, EndsInPixels, RowFault, IsRowOf}
use Rattle.pbm_core.specs.RowPieces.{byte_at}
use Rattle.pbm_core.specs.RowPieces.{HasFilled, HoldsPixels, ScansPixels}
use borrow.Rule.Slice.PartMut.{put_mid}
use Rattle.std.proofs.lemmas.Grind.{common_steps}
use Rattle.pbm_core.proofs.ListsGrow.{All-push}
use Rattle.pbm_core.proofs.CallsConsume.{take-put_part}
use Rattle.pbm_core.proofs.RowsAreMasked.{masked_is, length-masked_row}
use Rattle.pbm_core.proofs.ExamplesHold.{pixels_of-masked}
use Rattle.pbm_core.proofs.BytesPackPixels.{masked_is_packed}
use Rattle.pbm_core.proofs.PixelsFillBytes.{binary_push, push_small, byte_shifted, byte_before, byte_behind, row_packed, plain_row}
use Rattle.pbm_core.proofs.PackedRowsAreRead.{binary_small}
use Rattle.pbm_core.proofs.BytesAreScanned.{Scans, scans-digit}

-- ---- one more pixel

pub made_grown : (part : List Bool) (black : Bool) (made from : ℕ) → made ≡ binary part → length part < 8 → from ≡ cond black 1 0 → made % 128 * 2 + from ≡ binary (part ++ black ∷ [])
made_grown part black made from is few weight =
    let small = push_small part 8 few (omega arith) in
    let same : made % 128 ≡ made = omega (arith, is, small) in
    omega (arith, same, is, weight, binary_push part black)

-- a byte is stored behind those that are complete
stored : (whole part : List Bool) (row : List ℕ) (bytes : ℕ) {value : ℕ} → length whole ≡ 8 * bytes → bytes < length row → value ≡ byte_at part 0 →
    ((k : ℕ) → k < bytes → get_or row k 0 ≡ byte_at whole k)
    → (k : ℕ) → k < bytes + 1 → get_or (slice_set row bytes value) k 0 ≡ byte_at (whole ++ part) k
stored whole part row bytes {value} many within is before =
    below_more _ _
    (λ k h. let other : k ≢ bytes = omega arith in get_or-set_other row bytes k value 0 other ∙ before k h ∙ sym (byte_before whole part k (omega (arith, many, h))))
    (get_or-set_same row bytes value 0 within ∙ is ∙ sym (byte_behind whole part bytes many))

-- eight pixels make a byte
pub eight_stored : (part : List Bool) (byte : ℕ) → byte ≡ binary part → length part ≡ 8 → byte ≡ byte_at part 0
eight_stored part byte is eight =
    let small : binary part < 2 ^ 8 = (let P : ℕ → Type 0 = λ n. binary part < 2 ^ n in subst P eight (binary_small part)) in
    let shifted = byte_shifted part byte 8 is eight (omega arith) in
    let none : (byte * 2 ^ (8 - 8)) % 256 ≡ byte = omega (arith, is, small) in
    sym none ∙ shifted

-- where the pixels stand
pub counts : {reader : RowReader} {width : ℕ} {row : List ℕ} {pixels : List Bool} (h : HoldsPixels reader width row pixels) → reader.filled ≡ 8 * h.bytes + length h.part
counts {pixels = pixels} h =
    let l = length-append h.whole h.part in
    let many = h.many in
    h.filled ∙ ap length h.pixels_are ∙ omega (arith, l, many)

pub grows : {reader : RowReader} {width : ℕ} {row : List ℕ} {pixels : List Bool} (h : HoldsPixels reader width row pixels) (black : Bool) → pixels ++ black ∷ [] ≡ h.whole ++ (h.part ++ black ∷ [])
grows h black = ap (λ z. z ++ black ∷ []) h.pixels_are ∙ append_assoc h.whole h.part (black ∷ [])

-- the same, at a place that is computed
pub stored_at : (whole part : List Bool) (row : List ℕ) {bytes i value : ℕ} → i ≡ bytes → length whole ≡ 8 * bytes → bytes < length row → value ≡ byte_at part 0 →
    ((k : ℕ) → k < bytes → get_or row k 0 ≡ byte_at whole k)
    → (k : ℕ) → k < bytes + 1 → get_or (slice_set row i value) k 0 ≡ byte_at (whole ++ part) k
stored_at whole part row {bytes} {i} {value} e many within is before k h =
    let P : ℕ → Type 0 = λ j. get_or (slice_set row j value) k 0 ≡ byte_at (whole ++ part) k in
    subst P (sym e) (stored whole part row bytes many within is before k h)

-- the byte that is next is in the row
pub row_has : (width : ℕ) {reader : RowReader} {held : List ℕ} {pixels : List Bool} (h : HoldsPixels reader width held pixels) (row : List ℕ) → length row ≡ bytes_of_row width → h.bytes < length row
row_has width h row whole =
    let n = counts h in
    let below = h.below in
    let filled = h.filled in
    rw whole (at_least width h.bytes (omega (arith, n, below, filled))) where
      at_least : (width bytes : ℕ) → 8 * bytes < width → bytes < bytes_of_row width
      at_least width bytes below = grind arith

-- the last pixel completes the row
pub whole_stored : (width : ℕ) {reader : RowReader} {pixels : List Bool} {row : List ℕ} (h : HoldsPixels reader width row pixels) (black : Bool) (i value : ℕ) → i ≡ h.bytes →
    length (pixels ++ black ∷ []) ≡ width → length row ≡ bytes_of_row width → value ≡ byte_at (h.part ++ black ∷ []) 0 → slice_set row i value ≡ packed_row (pixels ++ black ∷ [])
whole_stored width {reader} {pixels} {row} h black i value e wide whole is =
    let each = stored_at h.whole (h.part ++ black ∷ []) row e h.many (row_has width h row whole) is h.packed in
    let n = counts h in
    let few = h.few in
    let filled = h.filled in
    let last : bytes_of_row width ≤ h.bytes + 1 = at_most width h.bytes (omega (arith, length_push pixels black, wide, n, few, filled)) in
    let long : length (slice_set row i value) ≡ length row = length-set row i value in
    row_packed width (slice_set row i value) (pixels ++ black ∷ []) wide (long ∙ whole)
    (λ k less. each k (omega (arith, less, long, whole, last)) ∙ ap (λ z. byte_at z k) (sym (grows h black))) where
      at_most : (width bytes : ℕ) → width ≤ 8 * bytes + 8 → bytes_of_row width ≤ bytes + 1
      at_most width bytes fits = grind arith

-- ---- one more byte

pub white_more : {reader : RowReader} {width : ℕ} {row bytes : List ℕ} (b : ℕ) → ScansPixels reader width row bytes → IsWhite b → ScansPixels reader width row (bytes ++ b ∷ [])
white_more b s white = record {
  pixels = s.pixels;
  digits = s.digits;
  space = s.space ++ b ∷ [];
  bytes_are = ap (λ z. z ++ b ∷ []) s.bytes_are ∙ append_assoc s.digits s.space (b ∷ []);
  are_pixels = s.are_pixels;
  is_space = All-push IsWhite s.space b s.is_space white;
  holds = s.holds;
}

scans_of : {reader : RowReader} {width : ℕ} {row bytes : List ℕ} (s : ScansPixels reader width row bytes) → Scans bytes s.pixels
scans_of s = record { digits = s.digits; space = s.space; given_are = s.bytes_are; are_pixels = s.are_pixels; is_space = s.is_space }

pub digit_more : {reader new : RowReader} {width : ℕ} {row row' bytes : List ℕ} (b : ℕ) (black : Bool) → ScansPixels reader width row bytes → b ≡ digit_of black →
    ((pixels : List Bool) → HoldsPixels reader width row pixels → HoldsPixels new width row' (pixels ++ black ∷ []))
    → ScansPixels new width row' (bytes ++ b ∷ [])
digit_more {bytes = bytes} b black s is puts = record {
  pixels = s.pixels ++ black ∷ [];
  digits = bytes ++ b ∷ [];
  space = [];
  bytes_are = sym (append-nil (bytes ++ b ∷ []));
  are_pixels = scans-digit bytes s.pixels b black (scans_of s) is;
  is_space = tt;
  holds = puts s.pixels s.holds;
}

pub digit_last : {reader : RowReader} {width : ℕ} {row row' bytes : List ℕ} (b : ℕ) (black : Bool) → (s : ScansPixels reader width row bytes) → b ≡ digit_of black → 1 ≤ width →
    length (s.pixels ++ black ∷ []) ≡ width
    → row' ≡ packed_row (s.pixels ++ black ∷ []) → IsRowOf Plain width (bytes ++ b ∷ []) row'
digit_last {width = width} {row' = row'} {bytes = bytes} b black s is some wide packed =
    plain_row width (bytes ++ b ∷ []) (s.pixels ++ black ∷ []) row' some wide (scans-digit bytes s.pixels b black (scans_of s) is) packed

pub no_digit : {reader : RowReader} {width : ℕ} {row bytes : List ℕ} (b : ℕ) → ScansPixels reader width row bytes → ¬ IsWhite b → ((black : Bool) → b ≢ digit_of black) →
    EndsInPixels width (bytes ++ b ∷ []) BadDigit
no_digit b s white other = record {
  pixels = s.pixels;
  digits = s.digits;
  space = s.space;
  following = b ∷ [];
  bytes_are = ap (λ z. z ++ b ∷ []) s.bytes_are ∙ append_assoc s.digits s.space (b ∷ []);
  few = s.holds.below;
  are_pixels = s.are_pixels;
  is_space = s.is_space;
  has_fault = (white, other, refl);
}

-- ---- bytes of the raw form

pub length_mid : (at n : ℕ) (xs ys : List ℕ) → at + n ≤ length xs → length ys ≡ n → length (put_mid at (at + n - at) xs ys) ≡ length xs
length_mid at n xs ys h e = grind (arith, common_steps)

-- the bytes before the piece, and those of the piece, fill the row
pub filled_row : (before piece row ys : List ℕ) {at : ℕ} (n : ℕ) → at ≡ length before → before ≡ take (length before) row → at + n ≡ length row → ys ≡ take n piece → n ≤ length piece →
    before ++ take n piece ≡ put_mid at (at + n - at) row ys
filled_row before piece row ys {at} n is front whole same within =
    let long : length ys ≡ n = ap length same ∙ length-take-le n piece within in
    let mid : List ℕ = put_mid at (at + n - at) row ys in
    let all : take (at + n) mid ≡ mid = take_all (at + n) mid (omega (arith, length_mid at n row ys (omega (arith, whole)) long, whole)) in
    let parts : take (at + n) mid ≡ take at row ++ take n ys = take-put_part at (at + n - at) n row ys (omega (arith, whole)) (omega (arith, long)) in
    let first : before ≡ take at row = front ∙ ap (λ k. take k row) (sym is) in
    let second : take n ys ≡ take n piece = take_all n ys (omega (arith, long)) ∙ same in
    ap (λ z. z ++ take n piece) first ∙ ap (λ z. take at row ++ z) (sym second) ∙ sym parts ∙ all

-- a row of whole bytes, with its padding cleared
pub cleared_row : (width : ℕ) (given bytes row : List ℕ) → 1 ≤ width → length bytes ≡ bytes_of_row width → given ≡ bytes → row ≡ masked_row width bytes → ((k : ℕ) → slice_index row k < 256) →
    IsRowOf Raw width given row
cleared_row width given bytes row some whole same cleared small =
    let small' : (k : ℕ) → slice_index (masked_row width bytes) k < 256 = subst (λ z. (k : ℕ) → slice_index z k < 256) cleared small in
    subst (λ z. IsRowOf Raw width z row) (sym same) (record {
      pixels = pixels_of width bytes;
      is_row = (whole, refl);
      packed = cleared
          ∙ sym (masked_is_packed width (masked_row width bytes) (length-masked_row width bytes ∙ whole) (masked_is width bytes some whole) small')
          ∙ ap packed_row (pixels_of-masked width bytes whole);
      cleared = (λ _. cleared);
      masked = subst (IsMasked width) (sym cleared) (masked_is width bytes some whole);
    })

-- ---- the end

-- the bytes that a reader represents are truncated if no more follow
pub filled_cut : (form : Form) (reader : RowReader) (width : ℕ) (row bytes : List ℕ) → HasFilled form reader width row bytes → RowFault form width bytes Truncated
filled_cut Raw reader width row bytes is = (is.1, refl)
filled_cut Plain reader width row bytes is = record {
  pixels = is.pixels;
  digits = is.digits;
  space = is.space;
  following = [];
  bytes_are = is.bytes_are ∙ ap (λ z. is.digits ++ z) (sym (append-nil is.space));
  few = is.holds.below;
  are_pixels = is.are_pixels;
  is_space = is.is_space;
  has_fault = refl;
}
