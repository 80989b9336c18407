-- The effect of calls that read a PBM from pieces.
use Rattle.std.proofs.Common.{◌≡◌, ◌⊎◌, ◌≤◌, ◌<◌, ◌+◌, ◌-◌, inl, inr, refl, sym, subst, ap, ◌∙◌, ℕ, Bool, List, [], ◌∷◌, ◌++◌, length, take, drop, take_all, length-take, append-nil, append_assoc, arith}
use Rattle.std.proofs.lemmas.List.{length_push, take-append-le}
use Rattle.pbm_core.specs.declared.fault.PbmFault.{PbmFault}
use Rattle.pbm_core.specs.declared.fault.PbmFault.TheVariants.{Truncated}
use Rattle.pbm_core.specs.declared.form.Form.{Form}
use Rattle.pbm_core.specs.declared.form.Form.TheVariants.{Raw, Plain}
use Rattle.pbm_core.specs.declared.row_reader.RowReader.{RowReader}
use Rattle.pbm_core.specs.declared.size.Size.{Size}
use Rattle.pbm_core.specs.Image.{AreRows, HasImageFault, HoldsRows, IsPbm, IsRow, RowFault}
use Rattle.pbm_core.specs.Outcome.{HasHeader}
use Rattle.pbm_core.specs.Pbm.{bytes_of_row, IsPbmHeader}
use Rattle.pbm_core.specs.RowPieces.{HasFilled}
use Rattle.libt85.specs.declared.pbm.T85Pbm.{T85Pbm}
use Rattle.pbm_core.specs.Fault.{pbm_fault_number}
use Rattle.pbm_core.specs.HeaderPieces.{HasScanned}
use Rattle.pbm_core.specs.Refusal.{HeaderFault}
use Rattle.libt85.specs.declared.pbm.PbmAnswer.{PbmAnswer}
use Rattle.libt85.specs.declared.pbm.PbmAnswer.TheVariants.{Row, More, Done, Broken, ShortRow}
use Rattle.libt85.specs.Pbm.{EndsPbm, InPbmRows, KeepsPbmHold, ReadsPbmRow, TellsPart, TellsRow, form_of, header_reader_of, pbm_call, pbm_hold, row_reader_of}

-- ---- the header

some_bytes : (width : ℕ) → 1 ≤ width → 0 < bytes_of_row width
some_bytes width some = grind arith

-- no byte of a row is read
pub none_filled : (form : Form) (reader : RowReader) (width : ℕ) (row : List ℕ) → 1 ≤ width → reader.filled ≡ 0 → reader.made ≡ 0 → HasFilled form reader width row []
none_filled Raw reader width row some filled made = (filled, some_bytes width some, refl)
none_filled Plain reader width row some filled made = record {
  pixels = [];
  digits = [];
  space = [];
  bytes_are = refl;
  are_pixels = refl;
  is_space = tt;
  holds = record {
    bytes = 0;
    whole = [];
    part = [];
    pixels_are = refl;
    many = refl;
    few = omega arith;
    filled = filled;
    below = some;
    made = made;
    packed = (λ k h. absurd (omega arith));
  };
}

pub enters : {new : T85Pbm} {row bytes : List ℕ} {form : Form} (size : Size) → IsPbmHeader bytes form size.width size.height → new.version ≡ 1 → new.next ≡ 1 → new.width ≡ size.width →
    new.height ≡ size.height → form_of new.is_plain ≡ form → new.rows_left ≡ size.height → new.filled ≡ 0 → new.made ≡ 0 → InPbmRows new row bytes []
enters {new} {row} {bytes} {form} size header version next width height form_is left filled made =
    let at : HasHeader bytes form size.width size.height [] = (record {
      front = bytes;
      bytes_are = sym (append-nil bytes);
      header = header;
      some_width = size.some_width;
      not_too_wide = size.not_too_wide;
      some_height = size.some_height;
      not_too_tall = size.not_too_tall;
    }) in
    record {
      version_is = version;
      next_is = next;
      body = [];
      part = [];
      header = rw (form_is, width, height) at;
      holds = record { front = []; bytes_are = refl; are_rows = refl };
      left_is = omega (arith, left, height);
      filled = none_filled (form_of new.is_plain) (row_reader_of new) new.width (take (bytes_of_row new.width) row) (let s = size.some_width in omega (arith, width, s)) filled made;
      done = (λ _. refl);
    }

-- ---- a row

-- the struct after a call that consumed bytes of a row
abbrev pub with_row : T85Pbm → RowReader → ℕ → T85Pbm
with_row p reader left = record p { rows_left = left; filled = reader.filled; made = reader.made }

header_more : {bytes rest : List ℕ} {form : Form} {width height : ℕ} (more : List ℕ) → HasHeader bytes form width height rest →
    HasHeader (bytes ++ more) form width height (rest ++ more)
header_more {rest = rest} more h = record {
  front = h.front;
  bytes_are = ap (λ z. z ++ more) h.bytes_are ∙ append_assoc h.front rest more;
  header = h.header;
  some_width = h.some_width;
  not_too_wide = h.not_too_wide;
  some_height = h.some_height;
  not_too_tall = h.not_too_tall;
}

holds_more : {form : Form} {body part : List ℕ} {width : ℕ} {rows : List (List Bool)} (more : List ℕ) → HoldsRows form body width rows part →
    HoldsRows form (body ++ more) width rows (part ++ more)
holds_more {part = part} more h = record { front = h.front; bytes_are = ap (λ z. z ++ more) h.bytes_are ∙ append_assoc h.front part more; are_rows = h.are_rows }

rows_push : (form : Form) (width : ℕ) (front given : List ℕ) (rows : List (List Bool)) (pixels : List Bool) → AreRows form width front rows → IsRow form width given pixels →
    AreRows form width (front ++ given) (rows ++ pixels ∷ [])
rows_push form width front given [] pixels are is = (given, [], ap (λ z. z ++ given) are ∙ sym (append-nil given), is, refl)
rows_push form width front given (row ∷ rows) pixels are is =
    (are.0, are.1 ++ given, ap (λ z. z ++ given) are.2 ∙ append_assoc are.0 are.1 given, are.3, rows_push form width are.1 given rows pixels are.4 is)

holds_row : {form : Form} {body part : List ℕ} {width : ℕ} {rows : List (List Bool)} (more : List ℕ) (pixels : List Bool) → HoldsRows form body width rows part →
    IsRow form width (part ++ more) pixels → HoldsRows form (body ++ more) width (rows ++ pixels ∷ []) []
holds_row {form} {part = part} {width} {rows} more pixels h is = record {
  front = h.front ++ (part ++ more);
  bytes_are = ap (λ z. z ++ more) h.bytes_are ∙ append_assoc h.front part more ∙ sym (append-nil (h.front ++ (part ++ more)));
  are_rows = rows_push form width h.front (part ++ more) rows pixels h.are_rows is;
}

-- the same where the row has exactly its bytes
pub filled_in : {form form' : Form} {width width' : ℕ} (reader : RowReader) (row part : List ℕ) → form' ≡ form → width ≡ width' → length row ≡ bytes_of_row width' →
    HasFilled form reader width (take (bytes_of_row width) row) part → HasFilled form' reader width' row part
filled_in {width' = width'} reader row part same wide whole is = rw same (rw (wide, take_all (bytes_of_row width') row (omega (arith, whole))) at is)

pub filled_out : {form form' : Form} {width width' : ℕ} (reader : RowReader) (row part : List ℕ) → form' ≡ form → width ≡ width' → length row ≡ bytes_of_row width' →
    HasFilled form' reader width' row part → HasFilled form reader width (take (bytes_of_row width) row) part
filled_out {width' = width'} reader row part same wide whole is = rw (wide, take_all (bytes_of_row width') row (omega (arith, whole)), ← same) is

pub row_goes_on : (p : T85Pbm) (reader : RowReader) {row before : List ℕ} {rows : List (List Bool)} (row' given : List ℕ) (is : InPbmRows p row before rows) → 1 ≤ p.rows_left →
    HasFilled (form_of p.is_plain) reader p.width (take (bytes_of_row p.width) row') (is.part ++ given) → InPbmRows (with_row p reader p.rows_left) row' (before ++ given) rows
row_goes_on p reader row' given is left filled = record {
  version_is = is.version_is;
  next_is = is.next_is;
  body = is.body ++ given;
  part = is.part ++ given;
  header = header_more given is.header;
  holds = holds_more given is.holds;
  left_is = is.left_is;
  filled = filled;
  done = (λ none. absurd (omega (arith, none, left)));
}

pub row_ends : (p : T85Pbm) (reader : RowReader) {row before : List ℕ} {rows : List (List Bool)} (row' given : List ℕ) (pixels : List Bool) (is : InPbmRows p row before rows) → 1 ≤ p.rows_left →
    IsRow (form_of p.is_plain) p.width (is.part ++ given) pixels → HasFilled (form_of p.is_plain) reader p.width (take (bytes_of_row p.width) row') [] →
    InPbmRows (with_row p reader (p.rows_left - 1)) row' (before ++ given) (rows ++ pixels ∷ [])
row_ends p reader {rows = rows} row' given pixels is left row_is filled = record {
  version_is = is.version_is;
  next_is = is.next_is;
  body = is.body ++ given;
  part = [];
  header = header_more given is.header;
  holds = holds_row given pixels is.holds row_is;
  left_is = (let l = is.left_is in omega (arith, length_push rows pixels, l, left));
  filled = filled;
  done = (λ _. refl);
}

-- the error of the next row
pub row_fault : (p : T85Pbm) {row before : List ℕ} {rows : List (List Bool)} (given : List ℕ) (fault : PbmFault) (is : InPbmRows p row before rows) → 1 ≤ p.rows_left →
    RowFault (form_of p.is_plain) p.width (is.part ++ given) fault → HasImageFault (before ++ given) fault
row_fault p {rows = rows} given fault is left shows = record {
  form = form_of p.is_plain;
  width = p.width;
  height = p.height;
  body = is.body ++ given;
  rows = rows;
  rest = is.part ++ given;
  header = header_more given is.header;
  holds = holds_more given is.holds;
  few = (let l = is.left_is in omega (arith, l, left));
  part = record { front = is.part ++ given; rest = []; bytes_are = sym (append-nil (is.part ++ given)); shows = shows; at_end = (λ _. refl) };
}

-- the same without another byte
pub row_cut : (p : T85Pbm) {row before : List ℕ} {rows : List (List Bool)} (fault : PbmFault) (is : InPbmRows p row before rows) → 1 ≤ p.rows_left →
    RowFault (form_of p.is_plain) p.width is.part fault → HasImageFault before fault
row_cut p {rows = rows} fault is left shows = record {
  form = form_of p.is_plain;
  width = p.width;
  height = p.height;
  body = is.body;
  rows = rows;
  rest = is.part;
  header = is.header;
  holds = is.holds;
  few = (let l = is.left_is in omega (arith, l, left));
  part = record { front = is.part; rest = []; bytes_are = sym (append-nil is.part); shows = shows; at_end = (λ _. refl) };
}

-- all rows are read
pub whole_image : (p : T85Pbm) {row before : List ℕ} {rows : List (List Bool)} → InPbmRows p row before rows → p.rows_left ≡ 0 → IsPbm before p.width rows []
whole_image p {row} {before} {rows} is none =
    let many : p.height ≡ length rows = (let l = is.left_is in omega (arith, l, none)) in
    record {
      form = form_of p.is_plain;
      body = is.body;
      header = rw many at is.header;
      holds = rw (is.done none) at is.holds;
    }

-- ---- a row within the caller's memory

-- another row with the same first bytes
row_as : {p : T85Pbm} {row row' before : List ℕ} {rows : List (List Bool)} → take (bytes_of_row p.width) row' ≡ take (bytes_of_row p.width) row → InPbmRows p row before rows →
    InPbmRows p row' before rows
row_as same is = record {
  version_is = is.version_is;
  next_is = is.next_is;
  body = is.body;
  part = is.part;
  header = is.header;
  holds = is.holds;
  left_is = is.left_is;
  filled = rw same is.filled;
  done = is.done;
}

-- the bytes of the row alone
row_of_call : {p : T85Pbm} {row before : List ℕ} {rows : List (List Bool)} {n : ℕ} → n ≡ bytes_of_row p.width → InPbmRows p row before rows → InPbmRows p (take n row) before rows
row_of_call {row = row} {n = n} is_n is = row_as (rw (← is_n) (take_all n (take n row) (omega (arith, length-take n row)))) is

-- and with the bytes behind it
row_to_call : {p : T85Pbm} {row before : List ℕ} {rows : List (List Bool)} (rest : List ℕ) → length row ≡ bytes_of_row p.width → InPbmRows p row before rows → InPbmRows p (row ++ rest) before rows
row_to_call {p} {row} rest whole is = row_as (take-append-le (bytes_of_row p.width) row rest (omega (arith, whole))) is

-- ---- the whole calls

pub row_in : {form form' : Form} {width width' : ℕ} (bytes : List ℕ) (pixels : List Bool) → form' ≡ form → width ≡ width' → IsRow form' width' bytes pixels → IsRow form width bytes pixels
row_in bytes pixels same wide is = rw (wide, ← same) is

pub fault_in : {form form' : Form} {width width' : ℕ} (bytes : List ℕ) (fault : PbmFault) → form' ≡ form → width ≡ width' → RowFault form' width' bytes fault → RowFault form width bytes fault
fault_in bytes fault same wide is = rw (wide, ← same) is

-- among the rows, a call has not ended and was begun
reads_rows : {p new : T85Pbm} {row row' piece : List ℕ} {taken : ℕ} {told : PbmAnswer} → p.version ≡ 1 → p.next ≡ 1 → new.is_plain ≡ p.is_plain → taken ≤ length piece →
    ((before : List ℕ) (rows : List (List Bool)) → InPbmRows p row before rows → TellsRow before rows (pbm_hold p row) (pbm_hold new row') (pbm_call piece taken) told) →
    (p.rows_left ≡ 0 → (told ≡ Done) × KeepsPbmHold (pbm_hold p row) (pbm_hold new row') (pbm_call piece taken)) →
    (1 ≤ p.rows_left → length row < bytes_of_row p.width → (told ≡ ShortRow) × KeepsPbmHold (pbm_hold p row) (pbm_hold new row') (pbm_call piece taken)) →
    ReadsPbmRow (pbm_hold p row) (pbm_hold new row') (pbm_call piece taken) told
reads_rows version next form within tells done short = record {
  within = within;
  tells = tells;
  done = (λ row before rows has many. done (let l = has.left_is in omega (arith, l, many)));
  short = (λ row before rows has few. short (let l = has.left_is in omega (arith, l, few)));
  same_form = form;
  ended = (λ status has. let n = has.next_is in absurd (omega (arith, n, next)));
  not_begun = (λ other. elim other [ inl a ↦ elim a [ inl v ↦ absurd (v version) | inr n ↦ absurd (n.1 next) ] | inr n ↦ absurd (omega (arith, n, next)) ]);
}

pub no_rows_left : {p : T85Pbm} {row piece : List ℕ} {taken : ℕ} {told : PbmAnswer} → p.version ≡ 1 → p.next ≡ 1 → p.rows_left ≡ 0 → told ≡ Done → taken ≡ 0 →
    ReadsPbmRow (pbm_hold p row) (pbm_hold p row) (pbm_call piece taken) told
no_rows_left {p} version next none is zero = reads_rows version next refl (omega (arith, zero)) (λ before rows has. rw is (whole_image p has none, (refl, zero)))
    (λ _. (is, (refl, zero))) (λ some. absurd (omega (arith, none, some)))

module _ (p new : T85Pbm) (row row' piece : List ℕ) (n taken : ℕ) where
  tells_within : (told : PbmAnswer) → length row' ≡ bytes_of_row new.width → (before : List ℕ) (rows : List (List Bool)) → TellsPart before rows (pbm_hold new row') (pbm_call piece taken) told →
      TellsRow before rows (pbm_hold p row) (pbm_hold new (row' ++ drop n row)) (pbm_call piece taken) told
  tells_within Row whole before rows t = record {
    pixels = t.pixels;
    reads = row_to_call (drop n row) whole t.reads;
    packed = take-append-le (bytes_of_row new.width) row' (drop n row) (omega (arith, whole)) ∙ t.packed;
  }
  tells_within More whole before rows t = (t.0, row_to_call (drop n row) whole t.1, t.2)
  tells_within (Broken fault) whole before rows t = t
  tells_within told whole before rows t = absurd t

pub row_reads : {p new : T85Pbm} {row piece : List ℕ} {n taken : ℕ} {told : PbmAnswer} (row' : List ℕ) → p.version ≡ 1 → p.next ≡ 1 → 1 ≤ p.rows_left → n ≡ bytes_of_row p.width → n ≤ length row →
    length row' ≡ n →
    new.width ≡ p.width → new.is_plain ≡ p.is_plain → taken ≤ length piece →
    ((before : List ℕ) (rows : List (List Bool)) → InPbmRows p (take n row) before rows → TellsPart before rows (pbm_hold new row') (pbm_call piece taken) told) →
    ReadsPbmRow (pbm_hold p row) (pbm_hold new (row' ++ drop n row)) (pbm_call piece taken) told
row_reads {p} {new} {row} {piece} {n} {taken} {told} row' version next left is_n enough long same form within tells = reads_rows version next form within
    (λ before rows has. tells_within p new row row' piece n taken told (long ∙ is_n ∙ ap bytes_of_row (sym same)) before rows (tells before rows (row_of_call is_n has)))
    (λ none. absurd (omega (arith, none, left))) (λ _ short. absurd (omega (arith, short, is_n, enough)))

-- ---- the end

pub ends_in_header : (p : T85Pbm) (fault : PbmFault) → p.version ≡ 1 → p.next ≡ 0 → fault ≡ Truncated →
    ((before : List ℕ) → HasScanned (header_reader_of p) before → HeaderFault before fault) →
    EndsPbm p (30 + pbm_fault_number fault)
ends_in_header p fault version next is ends = rw is (record {
  in_header = (λ before has. (refl, subst (λ f. HeaderFault before f) is (ends before has.scanned)));
  in_rows = (λ row before rows has. let n = has.next_is in absurd (omega (arith, n, next)));
  ended = (λ last has. let n = has.next_is in absurd (omega (arith, n, next)));
  not_begun = (λ other. elim other [ inl v ↦ absurd (v version) | inr n ↦ absurd (n.0 next) ]);
})

-- among the rows, the end says whether they are all
ends_rows : {p : T85Pbm} {status : ℕ} → p.version ≡ 1 → p.next ≡ 1 →
    ((row before : List ℕ) (rows : List (List Bool)) → InPbmRows p row before rows → ((status ≡ 0) × IsPbm before p.width rows []) ⊎ ((status ≡ 36) × HasImageFault before Truncated)) →
    EndsPbm p status
ends_rows version next tells = record {
  in_header = (λ before has. let n = has.next_is in absurd (omega (arith, n, next)));
  in_rows = tells;
  ended = (λ last has. let n = has.next_is in absurd (omega (arith, n, next)));
  not_begun = (λ other. elim other [ inl v ↦ absurd (v version) | inr n ↦ absurd (n.1 next) ]);
}

pub ends_whole : (p : T85Pbm) → p.version ≡ 1 → p.next ≡ 1 → p.rows_left ≡ 0 → EndsPbm p 0
ends_whole p version next none = ends_rows version next (λ row before rows has. inl (refl, whole_image p has none))

pub ends_in_rows : (p : T85Pbm) (fault : PbmFault) → p.version ≡ 1 → p.next ≡ 1 → 1 ≤ p.rows_left → fault ≡ Truncated →
    ((form : Form) (width : ℕ) (before row : List ℕ) → HasFilled form (row_reader_of p) width row before → RowFault form width before fault) →
    EndsPbm p (30 + pbm_fault_number fault)
ends_in_rows p fault version next left is ends = rw is (ends_rows version next (λ row before rows has. inr (
  refl,
  row_cut p Truncated has left
      (subst (λ f. RowFault (form_of p.is_plain) p.width has.part f) is (ends (form_of p.is_plain) p.width has.part (take (bytes_of_row p.width) row) has.filled)),
)))
