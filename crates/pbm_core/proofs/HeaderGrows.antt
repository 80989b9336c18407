-- The state of a header that is read from pieces, after one more byte.
use Rattle.std.proofs.Common.{◌≡◌, ◌≢◌, ◌≤◌, ◌⊎◌, inl, inr, refl, subst, ℕ, zero, suc, ◌+◌, ◌-◌, ◌*◌, min, List, [], ◌∷◌, ◌++◌, sym, ap, ◌∙◌, append_assoc, arith}
use Rattle.std.specs.List.{AllByRecursion, flat_map}
use Rattle.pbm_core.specs.declared.fault.PbmFault.{PbmFault}
use Rattle.pbm_core.specs.declared.fault.PbmFault.TheVariants.{BadNumber, TooWide, TooTall, Truncated, Read}
use Rattle.pbm_core.specs.declared.form.Form.{Form}
use Rattle.pbm_core.specs.declared.header_reader.HeaderReader.{HeaderReader}
use Rattle.pbm_core.specs.declared.header_reader.Place.{Place}
use Rattle.pbm_core.specs.declared.header_reader.Place.TheVariants.{Start, Letter, Letters, Gap, Comment, Digits, LastComment}
use Rattle.pbm_core.specs.Pbm.{letters_of, BeginsSpace, IsLineEnd, IsDigit, IsComment, IsSpace, IsGap, IsPbmHeader, value_of}
use Rattle.pbm_core.specs.Refusal.{IsOpenComment, IsOpenGap, SizeFault, PartFault, IsPart, HeaderFault, most_width, most_height}
use Rattle.pbm_core.specs.HeaderPieces.{IsHeaderFront, limit_behind, EndsIn, IsNumberSoFar, EndsInComment, HasScannedTo}
use Rattle.std.proofs.lemmas.List.{length_push}
use Rattle.pbm_core.proofs.ListsGrow.{All-push}
use Rattle.pbm_core.proofs.PartsMakeHeader.{gap_more, value_more, cut_gap, cut_digits, header_of}

-- the error of a number above its limit
abbrev pub large_behind : ℕ → PbmFault
large_behind zero = TooWide
large_behind (suc _) = TooTall

-- ---- errors

part_width : {rest : List ℕ} {fault : PbmFault} (width : ℕ) → width ≡ 0 → PartFault (limit_behind width) (large_behind width) rest fault → PartFault most_width TooWide rest fault
part_width {rest} {fault} width e p = let P : ℕ → Type 0 = λ w. PartFault (limit_behind w) (large_behind w) rest fault in subst P e p

part_height : {rest : List ℕ} {fault : PbmFault} (width : ℕ) → 1 ≤ width → PartFault (limit_behind width) (large_behind width) rest fault → PartFault most_height TooTall rest fault
part_height zero some p = absurd (omega arith)
part_height (suc width) some p = p

-- an error of the number behind a front
pub front_fault : (form : Form) (width : ℕ) (front rest : List ℕ) (fault : PbmFault) → IsHeaderFront form width front →
    PartFault (limit_behind width) (large_behind width) rest fault → HeaderFault (front ++ rest) fault
front_fault form width front rest fault (inl f) p = inr (inl (record {
  form = form;
  rest = rest;
  bytes_are = ap (λ z. z ++ rest) f.1;
  refused = part_width width f.0 p;
}))
front_fault form width front rest fault (inr f) p = inr (inr (inl (record {
  form = form;
  first = f.0;
  width = width;
  rest = rest;
  bytes_are = ap (λ z. z ++ rest) f.1 ∙ append_assoc (letters_of form) f.0 rest;
  is_width = f.2;
  refused = part_height width f.2.some p;
})))

-- the error of a part of a header that is not complete
ends_fault : {P : List ℕ → Type 0} {form : Form} {width : ℕ} {bytes : List ℕ} {fault : PbmFault} → EndsIn form width P bytes
    → ((rest : List ℕ) → P rest → PartFault (limit_behind width) (large_behind width) rest fault) → HeaderFault bytes fault
ends_fault {P} {form} {width} {bytes} {fault} e fails = subst (λ z. HeaderFault z fault) (sym e.bytes_are) (front_fault form width e.front e.rest fault e.is_front (fails e.rest e.is_rest))

-- the bytes that a reader represents are truncated if no more follow
pub scanned_cut : (place : Place) (reader : HeaderReader) (bytes : List ℕ) → HasScannedTo place reader bytes → HeaderFault bytes Truncated
scanned_cut Start reader bytes is = inl (inl (refl, inl is))
scanned_cut Letter reader bytes is = inl (inl (refl, inr (inl is)))
scanned_cut Letters reader bytes is = inl (inl (refl, inr (inr (reader.form, is.1))))
scanned_cut Gap reader bytes is = ends_fault is (λ rest gap. cut_gap rest Truncated (inr gap, refl))
scanned_cut Comment reader bytes is = ends_fault is (λ rest gap. cut_gap rest Truncated (inl gap, refl))
scanned_cut Digits reader bytes is = ends_fault is (λ rest n. subst (λ z. PartFault (limit_behind reader.width) (large_behind reader.width) z Truncated) (sym n.bytes_are)
    (cut_digits n.gap n.digits Truncated n.is_gap n.are_digits refl))
scanned_cut LastComment reader bytes is = inr (inr (inr (
  record {
    form = reader.form;
    first = is.first;
    width = reader.width;
    second = is.second;
    height = reader.value;
    rest = is.rest;
    bytes_are = is.bytes_are;
    is_width = is.is_width;
    is_height = is.is_height;
    is_open = is.is_open;
  },
  refl,
)))

-- ---- spaces

-- the spaces of a part of a header
pub record AreSpaces (form : Form) (width : ℕ) (bytes : List ℕ) : Type 0 where
  pub front : List ℕ
  pub spaces : List (List ℕ)
  pub bytes_are : bytes ≡ front ++ flat_map (λ s. s) spaces
  pub is_front : IsHeaderFront form width front
  pub each : AllByRecursion IsSpace spaces

pub spaces_of_gap : {form : Form} {width : ℕ} {bytes : List ℕ} → EndsIn form width IsGap bytes → AreSpaces form width bytes
spaces_of_gap e = record {
  front = e.front;
  spaces = e.is_rest.spaces;
  bytes_are = e.bytes_are ∙ ap (λ z. e.front ++ z) e.is_rest.bytes_are;
  is_front = e.is_front;
  each = e.is_rest.each;
}

pub enters_comment : (form : Form) (width : ℕ) (front : List ℕ) (spaces : List (List ℕ)) (b : ℕ) → IsHeaderFront form width front → AllByRecursion IsSpace spaces → b ≡ 35 →
    EndsIn form width IsOpenGap (front ++ (flat_map (λ s. s) spaces ++ b ∷ []))
enters_comment form width front spaces b is each e = record {
  front = front;
  rest = flat_map (λ s. s) spaces ++ b ∷ [];
  bytes_are = refl;
  is_front = is;
  is_rest = record { spaces = spaces; comment = b ∷ []; bytes_are = refl; each = each; open_comment = record { text = []; bytes_are = ap (λ z. z ∷ []) e; one_line = tt } };
}

pub enters_gap : (form : Form) (width : ℕ) (front : List ℕ) (spaces : List (List ℕ)) (space : List ℕ) → IsHeaderFront form width front → AllByRecursion IsSpace spaces → IsSpace space →
    EndsIn form width IsGap (front ++ (flat_map (λ s. s) spaces ++ space))
enters_gap form width front spaces space is each space_is = record {
  front = front;
  rest = flat_map (λ s. s) spaces ++ space;
  bytes_are = refl;
  is_front = is;
  is_rest = gap_more spaces space each space_is;
}

-- ---- one more byte

-- a part that grows by a byte
pub grown : {P Q : List ℕ → Type 0} {form : Form} {width : ℕ} {bytes : List ℕ} (b : ℕ) → EndsIn form width P bytes →
    ((rest : List ℕ) → P rest → Q (rest ++ b ∷ [])) → EndsIn form width Q (bytes ++ b ∷ [])
grown {P} {Q} {form} {width} {bytes} b e more = record {
  front = e.front;
  rest = e.rest ++ b ∷ [];
  bytes_are = ap (λ z. z ++ b ∷ []) e.bytes_are ∙ append_assoc e.front e.rest (b ∷ []);
  is_front = e.is_front;
  is_rest = more e.rest e.is_rest;
}

-- a part that the next byte makes an error
pub fault_grown : {P : List ℕ → Type 0} {form : Form} {width : ℕ} {bytes : List ℕ} (b : ℕ) (fault : PbmFault) → EndsIn form width P bytes
    → ((rest : List ℕ) → P rest → PartFault (limit_behind width) (large_behind width) (rest ++ b ∷ []) fault) → HeaderFault (bytes ++ b ∷ []) fault
fault_grown {P} {form} {width} {bytes} b fault e fails =
    let Q : List ℕ → Type 0 = λ z. PartFault (limit_behind width) (large_behind width) z fault in
    let g : EndsIn form width Q (bytes ++ b ∷ []) = grown b e fails in
    ends_fault g (λ rest p. p)

comment_closed : (comment : List ℕ) (b : ℕ) → IsOpenComment comment → IsLineEnd b → IsComment (comment ++ b ∷ [])
comment_closed comment b o ends = record { text = o.text; last = b; bytes_are = ap (λ z. z ++ b ∷ []) o.bytes_are; one_line = o.one_line; ends = ends }

pub comment_more : (comment : List ℕ) (b : ℕ) → IsOpenComment comment → ¬ IsLineEnd b → IsOpenComment (comment ++ b ∷ [])
comment_more comment b o other = record { text = o.text ++ b ∷ []; bytes_are = ap (λ z. z ++ b ∷ []) o.bytes_are; one_line = All-push (λ b. ¬ IsLineEnd b) o.text b o.one_line other }

pub gap_closed : (rest : List ℕ) (b : ℕ) → IsOpenGap rest → IsLineEnd b → IsGap (rest ++ b ∷ [])
gap_closed rest b o ends =
    let e : rest ++ b ∷ [] ≡ flat_map (λ s. s) o.spaces ++ (o.comment ++ b ∷ []) = ap (λ z. z ++ b ∷ []) o.bytes_are ∙ append_assoc (flat_map (λ s. s) o.spaces) o.comment (b ∷ []) in
    subst IsGap (sym e) (gap_more o.spaces (o.comment ++ b ∷ []) o.each (inr (comment_closed o.comment b o.open_comment ends)))

pub gap_opened : (rest : List ℕ) (b : ℕ) → IsOpenGap rest → ¬ IsLineEnd b → IsOpenGap (rest ++ b ∷ [])
gap_opened rest b o other = record {
  spaces = o.spaces;
  comment = o.comment ++ b ∷ [];
  bytes_are = ap (λ z. z ++ b ∷ []) o.bytes_are ∙ append_assoc (flat_map (λ s. s) o.spaces) o.comment (b ∷ []);
  each = o.each;
  open_comment = comment_more o.comment b o.open_comment other;
}

-- a byte that is neither a digit nor a space, behind a gap
pub no_number : {limit : ℕ} {large : PbmFault} (rest : List ℕ) (b : ℕ) → IsGap rest → ¬ IsDigit b → ¬ BeginsSpace b → PartFault limit large (rest ++ b ∷ []) BadNumber
no_number rest b gap digit space = inr (record { gap = rest; digits = []; following = b ∷ []; bytes_are = refl; is_gap = gap; are_digits = tt; has_fault = inl (digit, space, refl) })

-- the same behind a digit
pub bad_number : {limit value : ℕ} {large : PbmFault} (rest : List ℕ) (b : ℕ) → IsNumberSoFar limit value rest → ¬ IsDigit b → ¬ BeginsSpace b → PartFault limit large (rest ++ b ∷ []) BadNumber
bad_number rest b n digit space = inr (record {
  gap = n.gap;
  digits = n.digits;
  following = b ∷ [];
  bytes_are = ap (λ z. z ++ b ∷ []) n.bytes_are ∙ append_assoc n.gap n.digits (b ∷ []);
  is_gap = n.is_gap;
  are_digits = n.are_digits;
  has_fault = inl (digit, space, refl);
})

-- a number that is rejected as it ends
value_refused : (limit value whole : ℕ) (large fault : PbmFault) → value ≡ min whole (limit + 1) → SizeFault limit large value fault → SizeFault limit large whole fault
value_refused limit value whole large fault e (inl r) = inl (let z = r.0 in omega (arith, e, z), r.1)
value_refused limit value whole large fault e (inr r) = inr (let z = r.0 in omega (arith, e, z), r.1)

pub refused_number : {limit value : ℕ} {large fault : PbmFault} (rest : List ℕ) (b : ℕ) → IsNumberSoFar limit value rest → BeginsSpace b →
    SizeFault limit large value fault → PartFault limit large (rest ++ b ∷ []) fault
refused_number {limit} {value} {large} {fault} rest b n space refused = inr (record {
  gap = n.gap;
  digits = n.digits;
  following = b ∷ [];
  bytes_are = ap (λ z. z ++ b ∷ []) n.bytes_are ∙ append_assoc n.gap n.digits (b ∷ []);
  is_gap = n.is_gap;
  are_digits = n.are_digits;
  has_fault = inr (space, n.some, value_refused limit value (value_of n.digits) large fault n.value_is refused);
})

-- a number that is accepted as it ends
pub accepted_number : (limit value n : ℕ) (rest : List ℕ) → IsNumberSoFar limit value rest → n ≡ value → 1 ≤ n → n ≤ limit → IsPart limit rest n
accepted_number limit value n rest so e some within = record {
  gap = so.gap;
  digits = so.digits;
  bytes_are = so.bytes_are;
  is_gap = so.is_gap;
  is_number = record { some = so.some; digits = so.are_digits; value = (let v = so.value_is in omega (arith, v, e, within)) };
  some = some;
  within = within;
}

pub first_digit : (limit b : ℕ) (rest : List ℕ) → 9 ≤ limit → IsGap rest → IsDigit b → IsNumberSoFar limit (b - 48) (rest ++ b ∷ [])
first_digit limit b rest large gap digit = record {
  gap = rest;
  digits = b ∷ [];
  bytes_are = refl;
  is_gap = gap;
  some = omega arith;
  are_digits = (digit, tt);
  value_is = (let h = digit.1 in omega arith);
}

pub next_digit : (limit value new b : ℕ) (rest : List ℕ) → IsNumberSoFar limit value rest → IsDigit b → new ≡ min (value * 10 + (b - 48)) (limit + 1) → IsNumberSoFar limit new (rest ++ b ∷ [])
next_digit limit value new b rest n digit e = record {
  gap = n.gap;
  digits = n.digits ++ b ∷ [];
  bytes_are = ap (λ z. z ++ b ∷ []) n.bytes_are ∙ append_assoc n.gap n.digits (b ∷ []);
  is_gap = n.is_gap;
  some = (let s = length_push n.digits b in omega arith);
  are_digits = All-push IsDigit n.digits b n.are_digits digit;
  value_is = e ∙ value_more n.digits b limit value n.value_is;
}

-- the width is complete
pub front_done : (form : Form) (width value n : ℕ) (bytes : List ℕ) → EndsIn form width (IsNumberSoFar (limit_behind width) value) bytes →
    width ≡ 0 → n ≡ value → 1 ≤ n → n ≤ most_width → IsHeaderFront form n bytes
front_done form width value n bytes e none is some within =
    let so : IsNumberSoFar most_width value e.rest = (let P : ℕ → Type 0 = λ w. IsNumberSoFar (limit_behind w) value e.rest in subst P none e.is_rest) in
    inr (e.rest, e.bytes_are ∙ ap (λ z. z ++ e.rest) (letters_are e.is_front), accepted_number most_width value n e.rest so is some within) where
      letters_are : IsHeaderFront form width e.front → e.front ≡ letters_of form
      letters_are (inl f) = f.1
      letters_are (inr f) = let s = f.2.some in absurd (omega (arith, s, none))

-- both numbers are complete
pub record HasNumbers (form : Form) (width height : ℕ) (bytes : List ℕ) : Type 0 where
  pub first : List ℕ
  pub second : List ℕ
  pub bytes_are : bytes ≡ letters_of form ++ (first ++ second)
  pub is_width : IsPart most_width first width
  pub is_height : IsPart most_height second height

pub limit_height : (width : ℕ) → width ≢ 0 → limit_behind width ≡ most_height
limit_height zero other = absurd (other refl)
limit_height (suc width) other = refl

pub large_height : (width : ℕ) → width ≢ 0 → large_behind width ≡ TooTall
large_height zero other = absurd (other refl)
large_height (suc width) other = refl

pub numbers_done : (form : Form) (width value n : ℕ) (bytes : List ℕ) → EndsIn form width (IsNumberSoFar (limit_behind width) value) bytes →
    width ≢ 0 → n ≡ value → 1 ≤ n → n ≤ most_height → HasNumbers form width value bytes
numbers_done form width value n bytes e other is some within = done e.is_front where
  so : IsNumberSoFar most_height value e.rest
  so = let P : ℕ → Type 0 = λ l. IsNumberSoFar l value e.rest in subst P (limit_height width other) e.is_rest

  done : IsHeaderFront form width e.front → HasNumbers form width value bytes
  done (inl f) = absurd (other f.0)
  done (inr f) = record {
    first = f.0;
    second = e.rest;
    bytes_are = e.bytes_are ∙ ap (λ z. z ++ e.rest) f.1 ∙ append_assoc (letters_of form) f.0 e.rest;
    is_width = f.2;
    is_height = accepted_number most_height value value e.rest so refl (omega arith) (omega arith);
  }

pushed : (form : Form) (first second tail : List ℕ) (bytes : List ℕ) → bytes ≡ letters_of form ++ (first ++ second) → bytes ++ tail ≡ letters_of form ++ (first ++ (second ++ tail))
pushed form first second tail bytes e = ap (λ z. z ++ tail) e ∙ append_assoc (letters_of form) (first ++ second) tail ∙ ap (λ z. letters_of form ++ z) (append_assoc first second tail)

-- a header, by its last space
pub numbers_whole : (form : Form) (width height : ℕ) (bytes space : List ℕ) → HasNumbers form width height bytes → IsSpace space → IsPbmHeader (bytes ++ space) form width height
numbers_whole form width height bytes space h is = subst (λ z. IsPbmHeader z form width height) (sym (pushed form h.first h.second space bytes h.bytes_are))
    (header_of form h.first h.second space width height h.is_width h.is_height is)

pub numbers_comment : (form : Form) (width height : ℕ) (bytes : List ℕ) (b : ℕ) → HasNumbers form width height bytes → b ≡ 35 → EndsInComment form width height (bytes ++ b ∷ [])
numbers_comment form width height bytes b h e = record {
  first = h.first;
  second = h.second;
  rest = b ∷ [];
  bytes_are = pushed form h.first h.second (b ∷ []) bytes h.bytes_are;
  is_width = h.is_width;
  is_height = h.is_height;
  is_open = record { text = []; bytes_are = ap (λ z. z ∷ []) e; one_line = tt };
}

behind : (form : Form) (first second rest tail : List ℕ) (bytes : List ℕ) → bytes ≡ letters_of form ++ (first ++ (second ++ rest)) →
    bytes ++ tail ≡ letters_of form ++ (first ++ (second ++ (rest ++ tail)))
behind form first second rest tail bytes e = pushed form first (second ++ rest) tail bytes e ∙ ap (λ z. letters_of form ++ (first ++ z)) (append_assoc second rest tail)

-- a byte of the comment behind the numbers
pub comment_goes_on : (form : Form) (width height : ℕ) (bytes : List ℕ) (b : ℕ) → EndsInComment form width height bytes → ¬ IsLineEnd b → EndsInComment form width height (bytes ++ b ∷ [])
comment_goes_on form width height bytes b c other = record {
  first = c.first;
  second = c.second;
  rest = c.rest ++ b ∷ [];
  bytes_are = behind form c.first c.second c.rest (b ∷ []) bytes c.bytes_are;
  is_width = c.is_width;
  is_height = c.is_height;
  is_open = comment_more c.rest b c.is_open other;
}

pub comment_ends : (form : Form) (width height : ℕ) (bytes : List ℕ) (b : ℕ) → EndsInComment form width height bytes → IsLineEnd b → IsPbmHeader (bytes ++ b ∷ []) form width height
comment_ends form width height bytes b c ends =
    subst (λ z. IsPbmHeader z form width height) (sym (behind form c.first c.second c.rest (b ∷ []) bytes c.bytes_are))
    (header_of form c.first c.second (c.rest ++ b ∷ []) width height c.is_width c.is_height (inr (comment_closed c.rest b c.is_open ends)))

-- a number that is rejected has an error that more bytes do not change
pub size_lasts : (limit value : ℕ) (large fault : PbmFault) → SizeFault limit large value fault → (large ≡ TooWide) ⊎ (large ≡ TooTall) → (fault ≢ Truncated) × (fault ≢ Read)
size_lasts limit value large fault (inl r) known = (let e = r.1 in λ h. cc, let e = r.1 in λ h. cc)
size_lasts limit value large fault (inr r) (inl known) = (let e = r.1 in λ h. cc, let e = r.1 in λ h. cc)
size_lasts limit value large fault (inr r) (inr known) = (let e = r.1 in λ h. cc, let e = r.1 in λ h. cc)

pub height_refused : {value : ℕ} {fault : PbmFault} (width : ℕ) → width ≢ 0 → SizeFault most_height TooTall value fault → SizeFault (limit_behind width) (large_behind width) value fault
height_refused zero other r = absurd (other refl)
height_refused (suc width) other r = r
