-- Rows judged from their beginning by a function, with which each row and each fault agrees.
use Rattle.std.proofs.Common.{cond, Bool, true, false, ◌≡◌, ◌≢◌, ◌<◌, ◌≤◌, ◌+◌, ℕ, zero, suc, List, [], ◌∷◌, ◌++◌, length, take, drop, nat_lt, refl, sym, ap, ◌∙◌, append-nil, append_assoc, length-append, arith}
use Rattle.std.specs.Bool.{◌==◌}
use Rattle.std.specs.List.{AllByRecursion}
use Rattle.std.proofs.Math.Seq.{drop-append_seam}
use Rattle.std.proofs.lemmas.Bool.Decides.{nat_tests}
use Rattle.std.proofs.lemmas.List.{take-append-le, take_all}
use Rattle.pbm_core.specs.declared.fault.PbmFault.{PbmFault}
use Rattle.pbm_core.specs.declared.fault.PbmFault.TheVariants.{Truncated, BadDigit}
use Rattle.pbm_core.specs.declared.form.Form.{Form}
use Rattle.pbm_core.specs.declared.form.Form.TheVariants.{Raw, Plain}
use Rattle.pbm_core.specs.Pbm.{bytes_of_row, IsWhite}
use Rattle.pbm_core.specs.Image.{pixels_of, digit_of, ArePixels, IsRow, PixelFault, EndsInPixels, RowFault, HoldsRows, HasRow, HasRowFault, OneRow, OneRowFault, RowOrFault}
use Rattle.pbm_core.proofs.HeaderIsJudged.{white_test, white-true, white-not}

-- pixels, and then more pixels
pub pixels-append : (xs ys : List ℕ) (row more : List Bool) → ArePixels xs row → ArePixels ys more → ArePixels (xs ++ ys) (row ++ more)
pixels-append xs ys [] more p q = rw p q
pixels-append xs ys (black ∷ row) more p q = (p.0, p.1 ++ ys, ap (λ z. z ++ ys) p.2 ∙ append_assoc p.0 (digit_of black ∷ p.1) ys, p.3, pixels-append p.1 ys row more p.4 q)

-- so many pixels came, and then fewer than there are still to come
pub pixels_then : (front : List ℕ) (pixels : List Bool) {many n : ℕ} → ArePixels front pixels → length pixels + n ≤ many
    → (given : List ℕ) (f : PbmFault) → EndsInPixels n given f → EndsInPixels many (front ++ given) f
pixels_then front pixels {many} {n} are fits given f q = record {
  pixels = pixels ++ q.pixels;
  digits = front ++ q.digits;
  space = q.space;
  following = q.following;
  bytes_are = ap (λ z. front ++ z) q.bytes_are ∙ sym (append_assoc front q.digits (q.space ++ q.following));
  few = (let l = length-append pixels q.pixels in let few = q.few in omega arith);
  are_pixels = pixels-append front q.digits pixels q.pixels are q.are_pixels;
  is_space = q.is_space;
  has_fault = q.has_fault;
}

-- ---- the next pixel

data Next : Type 0 where
  Missing : Next
  Bad : Next
  Found : Bool → List ℕ → Next

abbrev next : List ℕ → Next
next [] = Missing
next (b ∷ bs) = cond (white_test b) (next bs) (cond (b == 48) (Found false bs) (cond (b == 49) (Found true bs) Bad))

next_space : (space t : List ℕ) → AllByRecursion IsWhite space → next (space ++ t) ≡ next t
next_space [] t all = refl
next_space (b ∷ bs) t all =
    rw (white-true b all.0) (next_space bs t all.1)

next_digit : (black : Bool) (t : List ℕ) → next (digit_of black ∷ t) ≡ Found black t
unfolding white_test
next_digit true t = refl
next_digit false t = refl

next_bad : (b : ℕ) (t : List ℕ) → ¬ IsWhite b → ((black : Bool) → b ≢ digit_of black) → next (b ∷ t) ≡ Bad
next_bad b t n other =
    let white : (b == 48) ≡ false = (let e : b ≢ 48 = other false in grind (arith, nat_tests)) in
    let dark : (b == 49) ≡ false = (let e : b ≢ 49 = other true in grind (arith, nat_tests)) in
    rw (white-not b n, white, dark)

-- ---- all of a row

data Outcome : Type 0 where
  Breaks : PbmFault → Outcome
  Gives : List Bool → List ℕ → Outcome

abbrev behind : Bool → Outcome → Outcome
behind black (Breaks f) = Breaks f
behind black (Gives row rest) = Gives (black ∷ row) rest

abbrev after_next : (List ℕ → Outcome) → Next → Outcome
after_next more Missing = Breaks Truncated
after_next more Bad = Breaks BadDigit
after_next more (Found black rest) = behind black (more rest)

abbrev plain : ℕ → List ℕ → Outcome
plain zero bytes = Gives [] bytes
plain (suc n) bytes = after_next (plain n) (next bytes)

next_pixel : (space : List ℕ) (black : Bool) (xs t : List ℕ) → AllByRecursion IsWhite space → next ((space ++ digit_of black ∷ xs) ++ t) ≡ Found black (xs ++ t)
next_pixel space black xs t all = ap next (append_assoc space (digit_of black ∷ xs) t) ∙ next_space space (digit_of black ∷ (xs ++ t)) all ∙ next_digit black (xs ++ t)

plain_gives : (row : List Bool) (given rest : List ℕ) → ArePixels given row → plain (length row) (given ++ rest) ≡ Gives row rest
plain_gives [] given rest p = ap (λ z. Gives [] (z ++ rest)) p
plain_gives (black ∷ row) given rest p =
    ap (λ z. after_next (plain (length row)) (next (z ++ rest))) p.2
    ∙ ap (after_next (plain (length row))) (next_pixel p.0 black p.1 rest p.3) ∙ ap (behind black) (plain_gives row p.1 rest p.4)

stops : (n : ℕ) (space following rest : List ℕ) (f : PbmFault) → AllByRecursion IsWhite space → PixelFault following f → (f ≡ Truncated → rest ≡ [])
    → plain (suc n) (space ++ (following ++ rest)) ≡ Breaks f
stops n space [] rest f all has end =
    ap (λ z. plain (suc n) (space ++ z)) (end has) ∙ ap (after_next (plain n)) (next_space space [] all) ∙ ap Breaks (sym has)
stops n space (b ∷ []) rest f all has end =
    ap (after_next (plain n)) (next_space space (b ∷ rest) all ∙ next_bad b rest has.0 has.1) ∙ ap Breaks (sym has.2)
stops n space (b ∷ c ∷ more) rest f all has end = absurd has

plain_breaks : (width : ℕ) (rest : List ℕ) {bytes : List ℕ} {f : PbmFault} (e : EndsInPixels width bytes f) → (f ≡ Truncated → rest ≡ []) →
    plain width (e.digits ++ (e.space ++ (e.following ++ rest))) ≡ Breaks f
plain_breaks width rest {f = f} e end = went width e.pixels e.digits e.few e.are_pixels where
  went : (n : ℕ) (pixels : List Bool) (digits : List ℕ) → length pixels < n → ArePixels digits pixels → plain n (digits ++ (e.space ++ (e.following ++ rest))) ≡ Breaks f
  went zero pixels digits few are = absurd (omega arith)
  went (suc n) [] digits few are = ap (λ z. plain (suc n) (z ++ (e.space ++ (e.following ++ rest)))) are ∙ stops n e.space e.following rest f e.is_space e.has_fault end
  went (suc n) (black ∷ pixels) digits few are =
      ap (λ z. after_next (plain n) (next (z ++ (e.space ++ (e.following ++ rest))))) are.2
      ∙ ap (after_next (plain n)) (next_pixel are.0 black are.1 (e.space ++ (e.following ++ rest)) are.3)
      ∙ ap (behind black) (went n pixels are.1 (omega arith) are.4)

abbrev outcome : Form → ℕ → List ℕ → Outcome
outcome Raw width bytes = cond (nat_lt (length bytes) (bytes_of_row width)) (Breaks Truncated) (Gives (pixels_of width (take (bytes_of_row width) bytes)) (drop (bytes_of_row width) bytes))
outcome Plain width bytes = plain width bytes

row_outcome : (form : Form) (width : ℕ) (front rest : List ℕ) (row : List Bool) → IsRow form width front row → outcome form width (front ++ rest) ≡ Gives row rest
row_outcome Raw width front rest row p =
    let n : ℕ = bytes_of_row width in
    let whole = p.0 in
    let many : nat_lt (length (front ++ rest)) n ≡ false = (let l = length-append front rest in grind (arith, nat_tests)) in
    let first : take n (front ++ rest) ≡ front = take-append-le n front rest (omega arith) ∙ take_all n front (omega arith) in
    let last = ap (λ m. drop m (front ++ rest)) (sym whole) ∙ drop-append_seam front rest in
    rw (many, first, last) (ap (λ r. Gives r rest) (sym p.1))
row_outcome Plain width front rest row p = ap (λ n. plain n (front ++ rest)) (sym p.0) ∙ plain_gives row front rest p.1

fault_outcome : (form : Form) (width : ℕ) (front rest : List ℕ) (f : PbmFault) → RowFault form width front f → (f ≡ Truncated → rest ≡ []) → outcome form width (front ++ rest) ≡ Breaks f
fault_outcome Raw width front rest f p end =
    let few : nat_lt (length front) (bytes_of_row width) ≡ true = (let h = p.0 in grind (arith, nat_tests)) in
    rw (end p.1, append-nil front, few) (ap Breaks (sym p.1))
fault_outcome Plain width front rest f p end =
    ap (λ z. plain width (z ++ rest)) p.bytes_are
    ∙ ap (plain width) (append_assoc p.digits (p.space ++ p.following) rest ∙ ap (λ z. p.digits ++ z) (append_assoc p.space p.following rest))
    ∙ plain_breaks width rest p end

has_row_outcome : {form : Form} {width : ℕ} {bytes : List ℕ} {row : List Bool} {rest : List ℕ} → HasRow form width bytes row rest → outcome form width bytes ≡ Gives row rest
has_row_outcome {form} {width} {row = row} {rest} p = ap (outcome form width) p.bytes_are ∙ row_outcome form width p.front rest row p.is_row

has_fault_outcome : {form : Form} {width : ℕ} {bytes : List ℕ} {f : PbmFault} → HasRowFault form width bytes f → outcome form width bytes ≡ Breaks f
has_fault_outcome {form} {width} {f = f} p = ap (outcome form width) p.bytes_are ∙ fault_outcome form width p.front p.rest f p.shows p.at_end

pub one_row : OneRow
one_row _ _ _ _ _ _ _ p q = let same = sym (has_row_outcome p) ∙ has_row_outcome q in record { pixels = cc; rests = cc }

pub one_row_fault : OneRowFault
one_row_fault _ _ _ _ _ p q = let same = sym (has_fault_outcome p) ∙ has_fault_outcome q in cc

pub row_or_fault : RowOrFault
row_or_fault _ _ _ _ _ _ p q = let same = sym (has_row_outcome p) ∙ has_fault_outcome q in cc

-- ---- rows, one after the other

pub first_row : {form : Form} {width : ℕ} {bytes rest : List ℕ} {row : List Bool} {rows : List (List Bool)} (p : HoldsRows form bytes width (row ∷ rows) rest) →
    HasRow form width bytes row (p.are_rows.1 ++ rest)
first_row {rest = rest} p =
    record { front = p.are_rows.0; bytes_are = p.bytes_are ∙ ap (λ z. z ++ rest) p.are_rows.2 ∙ append_assoc p.are_rows.0 p.are_rows.1 rest; is_row = p.are_rows.3 }

pub other_rows : {form : Form} {width : ℕ} {bytes behind rest : List ℕ} {row : List Bool} {rows : List (List Bool)} (p : HoldsRows form bytes width (row ∷ rows) rest) →
    behind ≡ p.are_rows.1 ++ rest → HoldsRows form behind width rows rest
other_rows p e = record { front = p.are_rows.1; bytes_are = e; are_rows = p.are_rows.4 }

pub no_rows : {form : Form} {width : ℕ} {bytes rest : List ℕ} → HoldsRows form bytes width [] rest → bytes ≡ rest
no_rows {rest = rest} p = p.bytes_are ∙ ap (λ z. z ++ rest) p.are_rows

pub same_rows : {form : Form} {width : ℕ} {bytes rest rest' : List ℕ} (rows rows' : List (List Bool)) → HoldsRows form bytes width rows rest →
    HoldsRows form bytes width rows' rest' → length rows ≡ length rows'
    → (rows ≡ rows') × (rest ≡ rest')
same_rows [] [] p q many = (refl, sym (no_rows p) ∙ no_rows q)
same_rows [] (row' ∷ rows') p q many = absurd (omega arith)
same_rows (row ∷ rows) [] p q many = absurd (omega arith)
same_rows (row ∷ rows) (row' ∷ rows') p q many =
    let here = one_row _ _ _ _ _ _ _ (first_row p) (first_row q) in
    let below = same_rows rows rows' (other_rows p refl) (other_rows q here.rests) (omega arith) in
    (ap (λ r. r ∷ rows) here.pixels ∙ ap (λ z. row' ∷ z) below.0, below.1)
