-- From the decoder's effect on a consumer of rows to the rows in the caller's memory.
use Rattle.std.proofs.Common.{◌≡◌, ◌≤◌, ◌<◌, ◌+◌, ◌*◌, ◌/◌, ◌⊎◌, inl, inr, ℕ, zero, suc, Bool, true, false, List, [], ◌∷◌, ◌++◌, length, take, map, flat_map, Some, None, Result, refl, sym, ap, ◌∙◌, arith, append_assoc, append-nil, length-append, true≢false}
use Rattle.std.specs.Prelude.{is_some, option_to_list}
use Rattle.std.specs.List.{AllByRecursion}
use Rattle.std.specs.Int.{div_ceil}
use Rattle.std.proofs.lemmas.Bool.{cases_lt}
use Rattle.std.proofs.Math.Nat.{mul-div_cancel, mul-le-mul_right}
use Rattle.std.proofs.Math.Seq.{take-append_seam, take-append-add}
use Rattle.raster_core.specs.Lines.{numbers_from}
use Rattle.raster_core.specs.Packed.{packed_row, row_bytes}
use Rattle.t85_core.specs.declared.fault.Fault.{Fault}
use Rattle.t85_core.specs.DecodeRows.{PutsRows}
use Rattle.t85_core.specs.Header.{Fields}
use Rattle.t85_core.specs.Laws.{HasOutcome}
use Rattle.libt85.specs.DecodedRows.{HasTakenNothing, FitsRows, IsFullOfRows, DeliversRows, Placing}
use Rattle.libt85.specs.Delivered.{fault_status, answer_status, lined, outside, lending}
use Rattle.libt85.specs.LinedSink.{lined_state, lined_view, taken, taken_rows}
use Rattle.libt85.specs.declared.lined_sink.LinedSink.{LinedSink}
use Rattle.libt85.proofs.ConsumerTakesRows.{not_spilled, spilled_by}
use Rattle.libt85.proofs.TextIsDelivered.{all_put, none_failed, rows_are, some_put}
use Rattle.libt85.proofs.RowIsPlaced.{length_lined, length_outside}
use Rattle.libt85.proofs.BytesHoldRows.{same_front}

-- ---- packed rows

byte_count : (f : ℕ → ℕ) (k n : ℕ) → length (map f (numbers_from k n)) ≡ n
byte_count f k zero = refl
byte_count f k (suc n) = ap suc (byte_count f (k + 1) n)

module _ (width : ℕ) where
  abbrev row : ℕ
  row = div_ceil width 8

  packed_length : (pixels : List Bool) → length pixels ≡ width → length (packed_row pixels) ≡ row
  packed_length pixels wide = byte_count _ 0 (row_bytes (length pixels)) ∙ ap row_bytes wide

  pub length_rows : (rows : List (List Bool)) → AllByRecursion (λ r. length r ≡ width) rows → length (flat_map packed_row rows) ≡ length rows * row
  length_rows [] wide = (let e : 0 ≡ 0 * row = omega arith in e)
  length_rows (r ∷ rows) wide =
      let rest = length_rows rows wide.1 in
      let more : suc (length rows) * row ≡ row + length rows * row = omega arith in
      length-append (packed_row r) (flat_map packed_row rows) ∙ omega (arith, packed_length r wide.0, rest, more)

  first_rows : (k : ℕ) (rows : List (List Bool)) → AllByRecursion (λ r. length r ≡ width) rows → k ≤ length rows → take (k * row) (flat_map packed_row rows) ≡ flat_map packed_row (take k rows)
  first_rows zero rows wide few = (let none : 0 * row ≡ 0 = omega arith in ap (λ n. take n (flat_map packed_row rows)) none)
  first_rows (suc k) [] wide few = absurd (omega arith)
  first_rows (suc k) (r ∷ rows) wide few =
      let sum : suc k * row ≡ length (packed_row r) + k * row = omega (arith, packed_length r wide.0) in
      ap (λ n. take n (packed_row r ++ flat_map packed_row rows)) sum ∙ take-append-add (packed_row r) (flat_map packed_row rows) (k * row)
      ∙ ap (λ l. packed_row r ++ l) (first_rows k rows wide.1 (omega arith))

-- ---- what was taken

-- numbers in front of lists that are the same
same_fixed : {a b c d a' b' c' d' : ℕ} {l m : List ℕ} → a ∷ b ∷ c ∷ d ∷ l ≡ a' ∷ b' ∷ c' ∷ d' ∷ m → (a ≡ a') × (b ≡ b') × (c ≡ c') × (d ≡ d') × (l ≡ m)
same_fixed same = (cc, cc, cc, cc, cc)

-- where the rows are
abbrev placing : LinedSink → Placing
placing s = record { fit = s.fit; row = s.row; stride = s.stride }

module _ (width : ℕ) (s : LinedSink) (row_is : s.row ≡ div_ceil width 8) (rows : List (List Bool)) (wide : AllByRecursion (λ r. length r ≡ width) rows) where
  abbrev written : List ℕ
  written = lined s.y s.row s.stride s.bytes.now

  abbrev packed : List ℕ
  packed = flat_map packed_row rows

  written_rows : length written ≡ s.y * s.row
  written_rows = length_lined s.row s.stride s.y s.bytes.now (λ k less. s.rows_within k (omega (arith, less, s.not_too_many)))

  packed_rows : length packed ≡ length rows * s.row
  packed_rows = length_rows width rows wide ∙ ap (λ r. length rows * r) (sym row_is)

  pub fits_rows : (status answer : ℕ) → answer ≡ status → s.spilled ≡ None → taken_rows (lined_state s) ≡ packed → FitsRows rows status (placing s) s.bytes.now s.y answer
  fits_rows status answer told none same =
      let stood : written ≡ packed = sym (append-nil written) ∙ ap (λ z. written ++ option_to_list z) (sym none) ∙ same in
      let some : 0 < s.row = s.some in
      let count : s.y * s.row ≡ length rows * s.row = sym written_rows ∙ ap length stood ∙ packed_rows in
      let many : s.y ≡ length rows = sym (mul-div_cancel s.y some) ∙ ap (λ n. n / s.row) count ∙ mul-div_cancel (length rows) some in
      record {
        fits = omega (arith, many, s.not_too_many);
        written_is = many;
        stands = ap (λ n. lined n s.row s.stride s.bytes.now) (sym many) ∙ stood;
        answer_is = told;
      }

  pub full_of_rows : (b : ℕ) (rest : List ℕ) → s.spilled ≡ Some b → packed ≡ taken_rows (lined_state s) ++ rest → IsFullOfRows rows (placing s) s.bytes.now s.y 18
  full_of_rows b rest some same =
      let last : s.y ≡ s.fit = s.spilled_last (ap is_some some) in
      let stood : packed ≡ written ++ (b ∷ rest) = same ∙ ap (λ z. (written ++ option_to_list z) ++ rest) some ∙ append_assoc written (b ∷ []) rest in
      let count : length rows * s.row ≡ s.y * s.row + length (b ∷ rest) = sym packed_rows ∙ ap length stood ∙ length-append written (b ∷ rest) ∙ ap (λ n. n + length (b ∷ rest)) written_rows in
      let more : s.y < length rows = elim (cases_lt s.y
      (length rows)) [ inl less ↦ less | inr few ↦ let fewer = mul-le-mul_right {m = length rows} {n = s.y} s.row few in absurd (omega (arith, fewer, count)) ] in
      let front : take (length written) packed ≡ flat_map packed_row (take s.y rows) =
      ap (λ n. take n packed) (written_rows ∙ ap (λ r. s.y * r) row_is) ∙ first_rows width s.y rows wide (omega (arith, more)) in
      let stands : written ≡ flat_map packed_row (take s.y rows) = sym (ap (take (length written)) stood ∙ take-append_seam written (b ∷ rest)) ∙ front in
      record {
        more = omega (arith, more, last);
        written_is = last;
        stands = rw (← last) stands;
        answer_is = refl;
      }

module _ {h : Fields} {height : ℕ} {body : List ℕ} {old : LinedSink} {answer : Result (Unit {0}) Fault} (o : HasOutcome h height body)
    (none : HasTakenNothing h height old) (new : LinedSink) (d : PutsRows h height body (lined_view old) (lined_view new) answer) where
  begun : taken_rows (lined_state old) ≡ []
  begun = rw (none.no_row, none.unspilled) refl

  -- the layout is the one that it was, the bytes outside of the rows stay, and these were taken
  record Same (front : List ℕ) : Type 0 where
    row : new.row ≡ old.row
    stride : new.stride ≡ old.stride
    fit : new.fit ≡ old.fit
    stays : outside new.fit new.row new.stride new.bytes.now ≡ outside new.fit new.row new.stride old.bytes.now
    is : taken_rows (lined_state new) ≡ front

  same_layout : {front : List ℕ} → taken (lined_state new) ≡ taken (lined_state old) ++ front → Same front
  same_layout {front} e =
      let f = same_fixed e in
      let out = outside new.fit new.row new.stride old.bytes.now in
      let all : outside new.fit new.row new.stride new.bytes.now ++ taken_rows (lined_state new) ≡ out ++ front =
      f.4 ∙ rw (begun, append-nil (outside old.fit old.row old.stride old.bytes.now), f.1, f.2, f.3) in
      let both = same_front (outside new.fit new.row new.stride new.bytes.now) out (taken_rows (lined_state new)) front all
      (length_outside new.row new.stride new.fit new.bytes.now old.bytes.now f.0) in
      record { row = f.1; stride = f.2; fit = f.3; stays = both.0; is = both.1 }

  rows_put : {front : List ℕ} {status : ℕ} → Same front →
      FitsRows d.rows (fault_status o.fault) (placing new) new.bytes.now new.y status ⊎ IsFullOfRows d.rows (placing new) new.bytes.now new.y status →
      DeliversRows h height body old.stride (lending old.bytes.now new.bytes.now new.y status)
  rows_put s delivers =
      let row_is = s.row ∙ none.row in
      record {
        outcome = o;
        rows = d.rows;
        rows_are = rows_are o d;
        wide = d.wide;
        fit = new.fit;
        room = rw (s.fit, ← none.row) none.room;
        kept = rw (row_is, s.stride) at s.stays;
        delivers = rw (row_is, s.stride) at delivers;
      }

  pub rows_fit : is_some new.spilled ≡ false → DeliversRows h height body old.stride (lending old.bytes.now new.bytes.now new.y (answer_status answer))
  rows_fit left =
      let put = all_put o answer d none.fresh (none_failed new.failures (is_some new.spilled) left new.full) in
      let s = same_layout put.0 in
      rows_put s (inl (fits_rows h.xd new (s.row ∙ none.row) d.rows d.wide (fault_status o.fault) (answer_status answer) put.1 (not_spilled new.spilled (λ e. true≢false (sym e ∙ left))) s.is))

  pub rows_fill : is_some new.spilled ≡ true → DeliversRows h height body old.stride (lending old.bytes.now new.bytes.now new.y 18)
  rows_fill full =
      let spill = spilled_by new.spilled full in
      let cut = some_put o answer d in
      let s = same_layout cut.appends in
      rows_put s (inr (full_of_rows h.xd new (s.row ∙ none.row) d.rows d.wide spill.0 cut.rest spill.1 (cut.text_is ∙ ap (λ l. l ++ cut.rest) (sym s.is))))
