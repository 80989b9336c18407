-- Bytes judged from their beginning by a function, with which each header and each fault agrees.
use Rattle.std.proofs.Common.{cond, Bool, true, false, ◌||◌, ◌&&◌, ◌≡◌, ◌≢◌, ◌⊎◌, inl, inr, ◌<◌, ◌≤◌, ◌+◌, ◌*◌, ◌-◌, ℕ, List, [], ◌∷◌, ◌++◌, Option, None, Some, length, map, nat_lt, nat_le, refl, sym, ap, ◌∙◌, append-nil, append_assoc, arith}
use Rattle.std.specs.Bool.{◌==◌}
use Rattle.std.specs.List.{AllByRecursion, flat_map}
use Rattle.std.specs.Int.Digits.{number_from_digits_after}
use Rattle.std.proofs.lemmas.Bool.Decides.{nat_tests}
use Rattle.pbm_core.specs.declared.fault.PbmFault.{PbmFault}
use Rattle.pbm_core.specs.declared.fault.PbmFault.TheVariants.{NotPbm, BadNumber, ZeroSize, TooWide, TooTall, Truncated}
use Rattle.pbm_core.specs.declared.form.Form.{Form}
use Rattle.pbm_core.specs.declared.form.Form.TheVariants.{Raw, Plain}
use Rattle.pbm_core.specs.Pbm.{letter_of, IsWhite, IsLineEnd, BeginsSpace, IsDigit, IsOneLine, IsSpace, IsGap, value_of}
use Rattle.pbm_core.specs.Refusal.{most_width, most_height, IsOpenComment, IsOpenGap, SizeFault, DigitsFault, PartFault, IsPart, MagicFault, HeaderFault}
use Rattle.pbm_core.specs.Outcome.{HasHeader, HasFault, OneHeader, OneFault, HeaderOrFault}

-- ---- tests of a byte

unfoldable pub white_test : ℕ → Bool
white_test b = (b == 32) || (nat_le 9 b && nat_le b 13)

pub white-true : (b : ℕ) → IsWhite b → white_test b ≡ true
unfolding white_test
white-true b h = grind (arith, nat_tests)

white-false : (b : ℕ) → b ≢ 32 → (b < 9) ⊎ (13 < b) → white_test b ≡ false
unfolding white_test
white-false b n h = grind (arith, nat_tests)

pub white-not : (b : ℕ) → ¬ IsWhite b → white_test b ≡ false
unfolding white_test
white-not b n =
    let a : b ≢ 32 = λ e. n (inl e) in
    let r : 9 ≤ b → ¬ (b ≤ 13) = λ h k. n (inr (h, k)) in
    grind (arith, nat_tests)

white-other : (b : ℕ) → ¬ BeginsSpace b → white_test b ≡ false
white-other b n = white-not b (λ w. n (inl w))

line_test : ℕ → Bool
line_test b = (b == 10) || (b == 13)

line-true : (b : ℕ) → IsLineEnd b → line_test b ≡ true
unfolding line_test
line-true b e = grind (arith, nat_tests)

line-false : (b : ℕ) → ¬ IsLineEnd b → line_test b ≡ false
unfolding line_test
line-false b n =
    let a : b ≢ 10 = λ e. n (inl e) in
    let c : b ≢ 13 = λ e. n (inr e) in
    grind (arith, nat_tests)

digit_test : ℕ → Bool
digit_test b = nat_le 48 b && nat_le b 57

digit-true : (b : ℕ) → IsDigit b → digit_test b ≡ true
unfolding digit_test
digit-true b h = grind (arith, nat_tests)

digit-false : (b : ℕ) → ¬ IsDigit b → digit_test b ≡ false
unfolding digit_test
digit-false b n =
    let r : 48 ≤ b → ¬ (b ≤ 57) = λ h k. n (h, k) in
    grind (arith, nat_tests)

hash-false : (b : ℕ) → b ≢ 35 → (b == 35) ≡ false
hash-false b n = grind (arith, nat_tests)

begins_test : ℕ → Bool
begins_test b = white_test b || (b == 35)

begins-true : (b : ℕ) → BeginsSpace b → begins_test b ≡ true
unfolding begins_test
begins-true b (inl h) = ap (λ t. t || (b == 35)) (white-true b h)
begins-true b (inr e) = ap begins_test e ∙ ap (λ t. t || true) (white-false 35 (omega arith) (inr (omega arith)))

begins-false : (b : ℕ) → ¬ BeginsSpace b → begins_test b ≡ false
unfolding begins_test
begins-false b n = ap (λ t. t || (b == 35)) (white-other b n) ∙ hash-false b (λ e. n (inr e))

digit_no_space : (b : ℕ) → IsDigit b → ¬ BeginsSpace b
digit_no_space b d space = grind arith

-- ---- gaps

-- what is after spaces, inside a comment or outside; none where the bytes end before
abbrev skip : Bool → List ℕ → Option (List ℕ)
skip comment [] = None
skip true (b ∷ bs) = cond (line_test b) (skip false bs) (skip true bs)
skip false (b ∷ bs) = cond (white_test b) (skip false bs) (cond (b == 35) (skip true bs) (Some (b ∷ bs)))

skip_line : (text : List ℕ) (last : ℕ) (t : List ℕ) → IsOneLine text → IsLineEnd last → skip true ((text ++ last ∷ []) ++ t) ≡ skip false t
skip_line [] last t one ends = rw (line-true last ends)
skip_line (b ∷ text) last t one ends = rw (line-false b one.0) (skip_line text last t one.1 ends)

skip_open : (text : List ℕ) → IsOneLine text → skip true text ≡ None
skip_open [] one = refl
skip_open (b ∷ text) one = rw (line-false b one.0) (skip_open text one.1)

skip_hash : (t : List ℕ) → skip false (35 ∷ t) ≡ skip true t
skip_hash t = rw (white-false 35 (omega arith) (inr (omega arith)))

skip_space : (s t : List ℕ) → IsSpace s → skip false (s ++ t) ≡ skip false t
skip_space s t (inl w) = rw (w.2, white-true w.0 w.1)
skip_space s t (inr c) = ap (λ z. skip false (z ++ t)) c.bytes_are ∙ skip_hash ((c.text ++ c.last ∷ []) ++ t) ∙ skip_line c.text c.last t c.one_line c.ends

skip_spaces : (spaces : List (List ℕ)) (t : List ℕ) → AllByRecursion IsSpace spaces → skip false (flat_map (λ s. s) spaces ++ t) ≡ skip false t
skip_spaces [] t each = refl
skip_spaces (s ∷ spaces) t each = ap (skip false) (append_assoc s (flat_map (λ s. s) spaces) t) ∙ skip_space s (flat_map (λ s. s) spaces ++ t) each.0 ∙ skip_spaces spaces t each.1

skip_gap : (gap t : List ℕ) → IsGap gap → skip false (gap ++ t) ≡ skip false t
skip_gap gap t is = ap (λ z. skip false (z ++ t)) is.bytes_are ∙ skip_spaces is.spaces t is.each

skip_open_gap : (bytes : List ℕ) → IsOpenGap bytes → skip false bytes ≡ None
skip_open_gap bytes o = ap (skip false) o.bytes_are ∙ skip_spaces o.spaces o.comment o.each ∙ ap (skip false) o.open_comment.bytes_are ∙ skip_hash o.open_comment.text
    ∙ skip_open o.open_comment.text o.open_comment.one_line

skip_stop : (b : ℕ) (t : List ℕ) → ¬ BeginsSpace b → skip false (b ∷ t) ≡ Some (b ∷ t)
skip_stop b t n = rw (white-other b n, hash-false b (λ e. n (inr e)))

-- ---- digits

abbrev after_digits : List ℕ → List ℕ
after_digits [] = []
after_digits (b ∷ bs) = cond (digit_test b) (after_digits bs) (b ∷ bs)

abbrev number_in : ℕ → List ℕ → ℕ
number_in n [] = n
number_in n (b ∷ bs) = cond (digit_test b) (number_in (n * 10 + (b - 48)) bs) n

after_digits-append : (digits t : List ℕ) → AllByRecursion IsDigit digits → after_digits (digits ++ t) ≡ after_digits t
after_digits-append [] t all = refl
after_digits-append (d ∷ ds) t all = rw (digit-true d all.0) (after_digits-append ds t all.1)

number_digits : (n : ℕ) (digits t : List ℕ) → AllByRecursion IsDigit digits → number_in n (digits ++ t) ≡ number_in (number_from_digits_after 10 n (map (λ b. b - 48) digits)) t
number_digits n [] t all = refl
number_digits n (d ∷ ds) t all = rw (digit-true d all.0) (number_digits (n * 10 + (d - 48)) ds t all.1)

stop_digits : (digits t : List ℕ) → AllByRecursion IsDigit digits → (skip false t ≡ Some t) ⊎ (1 ≤ length digits) → skip false (digits ++ t) ≡ Some (digits ++ t)
stop_digits [] t all (inl e) = e
stop_digits [] t all (inr h) = absurd (omega arith)
stop_digits (d ∷ ds) t all h = skip_stop d (ds ++ t) (digit_no_space d all.0)

-- ---- a gap and a number

data Cut : Type 0 where
  Stops : PbmFault → Cut
  Goes : ℕ → List ℕ → Cut

module _ (limit : ℕ) (large : PbmFault) where
  abbrev judge : ℕ → List ℕ → Cut
  judge n rest = cond (n == 0) (Stops ZeroSize) (cond (nat_lt limit n) (Stops large) (Goes n rest))

  abbrev ended : ℕ → List ℕ → Cut
  ended n [] = Stops Truncated
  ended n (b ∷ rest) = cond (begins_test b) (judge n (b ∷ rest)) (Stops BadNumber)

  abbrev numbered : Option (List ℕ) → Cut
  numbered None = Stops Truncated
  numbered (Some t) = ended (number_in 0 t) (after_digits t)

  abbrev part : List ℕ → Cut
  part bytes = numbered (skip false bytes)

  digits_cut : (digits : List ℕ) → AllByRecursion IsDigit digits → numbered (skip false (digits ++ [])) ≡ Stops Truncated
  digits_cut [] all = refl
  digits_cut (d ∷ ds) all =
      ap numbered (skip_stop d (ds ++ []) (digit_no_space d all.0))
      ∙ ap (ended (number_in 0 (d ∷ (ds ++ [])))) (after_digits-append (d ∷ ds) [] all)

  -- digits, and a byte that is none
  digits_end : (digits : List ℕ) (b : ℕ) (rest : List ℕ) → AllByRecursion IsDigit digits → ¬ IsDigit b → (¬ BeginsSpace b) ⊎ (1 ≤ length digits)
      → numbered (skip false (digits ++ b ∷ rest)) ≡ ended (value_of digits) (b ∷ rest)
  digits_end digits b rest all other some =
      let stop = stop_digits digits (b ∷ rest) all (elim some [ inl n ↦ inl (skip_stop b rest n) | inr h ↦ inr h ]) in
      let n : number_in 0 (digits ++ b ∷ rest) ≡ value_of digits = number_digits 0 digits (b ∷ rest) all ∙ rw (digit-false b other) in
      let l : after_digits (digits ++ b ∷ rest) ≡ b ∷ rest = after_digits-append digits (b ∷ rest) all ∙ rw (digit-false b other) in
      ap numbered stop ∙ ap (λ m. ended m (after_digits (digits ++ b ∷ rest))) n ∙ ap (ended (value_of digits)) l

  judge_fault : (n : ℕ) (rest : List ℕ) (f : PbmFault) → SizeFault limit large n f → judge n rest ≡ Stops f
  judge_fault n rest f (inl h) =
      let t : (n == 0) ≡ true = (let e = h.0 in grind (arith, nat_tests)) in
      rw t (ap Stops (sym h.1))
  judge_fault n rest f (inr h) =
      let more = h.0 in
      let t : (n == 0) ≡ false = grind (arith, nat_tests) in
      let u : nat_lt limit n ≡ true = grind (arith, nat_tests) in
      rw (t, u) (ap Stops (sym h.1))

  judge_goes : (n : ℕ) (rest : List ℕ) → 1 ≤ n → n ≤ limit → judge n rest ≡ Goes n rest
  judge_goes n rest some within =
      let t : (n == 0) ≡ false = grind (arith, nat_tests) in
      let u : nat_lt limit n ≡ false = grind (arith, nat_tests) in
      rw (t, u)

  number_fault : (digits after rest : List ℕ) (f : PbmFault) → AllByRecursion IsDigit digits → DigitsFault limit large digits after f → (f ≡ Truncated → rest ≡ [])
      → numbered (skip false (digits ++ (after ++ rest))) ≡ Stops f
  number_fault digits [] rest f all has end =
      ap (λ z. numbered (skip false (digits ++ z))) (end has) ∙ digits_cut digits all ∙ ap Stops (sym has)
  number_fault digits (b ∷ []) rest f all (inl h) end =
      digits_end digits b rest all h.0 (inl h.1) ∙ rw (begins-false b h.1) (ap Stops (sym h.2))
  number_fault digits (b ∷ []) rest f all (inr h) end =
      digits_end digits b rest all (λ d. digit_no_space b d h.0) (inr h.1)
      ∙ rw (begins-true b h.0) (judge_fault (value_of digits) (b ∷ rest) f h.2)
  number_fault digits (b ∷ c ∷ more) rest f all has end = absurd has

  part_fault : (given rest : List ℕ) (f : PbmFault) → PartFault limit large given f → (f ≡ Truncated → rest ≡ []) → part (given ++ rest) ≡ Stops f
  part_fault given rest f (inl o) end =
      ap (λ z. part (given ++ z)) (end o.1) ∙ ap part (append-nil given) ∙ ap numbered (skip_open_gap given o.0) ∙ ap Stops (sym o.1)
  part_fault given rest f (inr p) end =
      ap (λ z. part (z ++ rest)) p.bytes_are
      ∙ ap part (append_assoc p.gap (p.digits ++ p.following) rest ∙ ap (λ z. p.gap ++ z) (append_assoc p.digits p.following rest))
      ∙ ap numbered (skip_gap p.gap (p.digits ++ (p.following ++ rest)) p.is_gap)
      ∙ number_fault p.digits p.following rest f p.are_digits p.has_fault end

  part_goes : (front : List ℕ) (n b : ℕ) (rest : List ℕ) → IsPart limit front n → BeginsSpace b → part (front ++ b ∷ rest) ≡ Goes n (b ∷ rest)
  part_goes front n b rest p space =
      ap (λ z. part (z ++ b ∷ rest)) p.bytes_are
      ∙ ap part (append_assoc p.gap p.digits (b ∷ rest))
      ∙ ap numbered (skip_gap p.gap (p.digits ++ b ∷ rest) p.is_gap)
      ∙ digits_end p.digits b rest p.is_number.digits (λ d. digit_no_space b d space) (inr p.is_number.some)
      ∙ rw (begins-true b space) (ap (λ m. judge m (b ∷ rest)) (sym p.is_number.value) ∙ judge_goes n (b ∷ rest) p.some p.within)

-- ---- where spaces begin

record Begins (bytes : List ℕ) : Type 0 where
  first : ℕ
  more : List ℕ
  bytes_are : bytes ≡ first ∷ more
  space : BeginsSpace first

begins_append : {xs : List ℕ} (ys : List ℕ) → Begins xs → Begins (xs ++ ys)
begins_append ys b = record { first = b.first; more = b.more ++ ys; bytes_are = ap (λ z. z ++ ys) b.bytes_are; space = b.space }

begins_same : {xs ys : List ℕ} → xs ≡ ys → Begins ys → Begins xs
begins_same e b = record { first = b.first; more = b.more; bytes_are = e ∙ b.bytes_are; space = b.space }

space_begins : {s : List ℕ} → IsSpace s → Begins s
space_begins (inl w) = record { first = w.0; more = []; bytes_are = w.2; space = inl w.1 }
space_begins (inr c) = record { first = 35; more = c.text ++ c.last ∷ []; bytes_are = c.bytes_are; space = inr refl }

spaces_begin : (spaces : List (List ℕ)) (t : List ℕ) → AllByRecursion IsSpace spaces → (1 ≤ length spaces) ⊎ Begins t → Begins (flat_map (λ s. s) spaces ++ t)
spaces_begin [] t each (inl h) = absurd (omega arith)
spaces_begin [] t each (inr b) = b
spaces_begin (s ∷ spaces) t each h = begins_same (append_assoc s (flat_map (λ s. s) spaces) t) (begins_append _ (space_begins {s = s} each.0))

gap_begins : {gap : List ℕ} (t : List ℕ) → IsGap gap → Begins (gap ++ t)
gap_begins t is = begins_same (ap (λ z. z ++ t) is.bytes_are) (spaces_begin is.spaces t is.each (inl is.some))

comment_begins : {bytes : List ℕ} → IsOpenComment bytes → Begins bytes
comment_begins o = record { first = 35; more = o.text; bytes_are = o.bytes_are; space = inr refl }

fault_begins : {limit : ℕ} {large : PbmFault} (bytes : List ℕ) (f : PbmFault) → PartFault limit large bytes f → Begins bytes
fault_begins bytes f (inl o) = begins_same o.0.bytes_are (spaces_begin o.0.spaces o.0.comment o.0.each (inr (comment_begins o.0.open_comment)))
fault_begins bytes f (inr p) = begins_same p.bytes_are (gap_begins (p.digits ++ p.following) p.is_gap)

part_begins : {limit n : ℕ} {bytes : List ℕ} → IsPart limit bytes n → Begins bytes
part_begins p = begins_same p.bytes_are (gap_begins p.digits p.is_gap)

-- ---- all of a header

data Outcome : Type 0 where
  Refuses : PbmFault → Outcome
  Accepts : Form → ℕ → ℕ → List ℕ → Outcome

abbrev line : List ℕ → Option (List ℕ)
line [] = None
line (b ∷ bs) = cond (line_test b) (Some bs) (line bs)

abbrev closed : Form → ℕ → ℕ → Option (List ℕ) → Outcome
closed form w h None = Refuses Truncated
closed form w h (Some rest) = Accepts form w h rest

abbrev last_space : Form → ℕ → ℕ → List ℕ → Outcome
last_space form w h [] = Refuses Truncated
last_space form w h (b ∷ rest) = cond (b == 35) (closed form w h (line rest)) (Accepts form w h rest)

abbrev height_of : Form → ℕ → Cut → Outcome
height_of form w (Stops f) = Refuses f
height_of form w (Goes h rest) = last_space form w h rest

abbrev width_of : Form → Cut → Outcome
width_of form (Stops f) = Refuses f
width_of form (Goes w rest) = height_of form w (part most_height TooTall rest)

abbrev third : Form → List ℕ → Outcome
third form [] = Refuses Truncated
third form (b ∷ bs) = cond (begins_test b) (width_of form (part most_width TooWide (b ∷ bs))) (Refuses NotPbm)

abbrev second : List ℕ → Outcome
second [] = Refuses Truncated
second (b ∷ bs) = cond (b == 52) (third Raw bs) (cond (b == 49) (third Plain bs) (Refuses NotPbm))

abbrev outcome : List ℕ → Outcome
outcome [] = Refuses Truncated
outcome (b ∷ bs) = cond (b == 80) (second bs) (Refuses NotPbm)

-- the letters of a form
letters_outcome : (form : Form) (bytes : List ℕ) → outcome (80 ∷ letter_of form ∷ bytes) ≡ third form bytes
letters_outcome Raw bytes = refl
letters_outcome Plain bytes = refl

no_letters : (b : ℕ) (bytes : List ℕ) → ((form : Form) → b ≢ letter_of form) → outcome (80 ∷ b ∷ bytes) ≡ Refuses NotPbm
no_letters b bytes n =
    let t : (b == 52) ≡ false = (let other : b ≢ 52 = n Raw in grind (arith, nat_tests)) in
    let u : (b == 49) ≡ false = (let other : b ≢ 49 = n Plain in grind (arith, nat_tests)) in
    rw (t, u)

third_part : (form : Form) (bytes : List ℕ) → Begins bytes → third form bytes ≡ width_of form (part most_width TooWide bytes)
third_part form bytes b =
    rw b.bytes_are (rw (begins-true b.first b.space))

part_then : {limit : ℕ} (large : PbmFault) {front : List ℕ} {n : ℕ} {tail : List ℕ} → IsPart limit front n → Begins tail → part limit large (front ++ tail) ≡ Goes n tail
part_then {limit} large {front} {n} p b =
    ap (λ z. part limit large (front ++ z)) b.bytes_are ∙ part_goes limit large front n b.first b.more p b.space ∙ ap (Goes n) (sym b.bytes_are)

-- after a width
after_width : (form : Form) {first tail : List ℕ} {w : ℕ} → IsPart most_width first w → Begins tail → third form (first ++ tail) ≡ height_of form w (part most_height TooTall tail)
after_width form {first} {tail} p b = third_part form (first ++ tail) (begins_append tail (part_begins p)) ∙ ap (width_of form) (part_then TooWide p b)

after_height : (form : Form) {first second tail : List ℕ} {w h : ℕ} → IsPart most_width first w → IsPart most_height second h → Begins tail →
    third form (first ++ (second ++ tail)) ≡ last_space form w h tail
after_height form {tail = tail} {w} p q b = after_width form p (begins_append tail (part_begins q)) ∙ ap (height_of form w) (part_then TooTall q b)

magic_outcome : (front rest : List ℕ) (f : PbmFault) → MagicFault front f → (f ≡ Truncated → rest ≡ []) → outcome (front ++ rest) ≡ Refuses f
magic_outcome front rest f (inl (e, inl h)) end = ap (λ z. outcome (front ++ z)) (end e) ∙ ap (λ z. outcome (z ++ [])) h ∙ ap Refuses (sym e)
magic_outcome front rest f (inl (e, inr (inl h))) end = ap (λ z. outcome (front ++ z)) (end e) ∙ ap (λ z. outcome (z ++ [])) h ∙ ap Refuses (sym e)
magic_outcome front rest f (inl (e, inr (inr (form, h)))) end = ap (λ z. outcome (front ++ z)) (end e) ∙ ap (λ z. outcome (z ++ [])) h ∙ letters_outcome form [] ∙ ap Refuses (sym e)
magic_outcome front rest f (inr (e, b, inl (n, h))) end =
    let t : (b == 80) ≡ false = grind (arith, nat_tests) in
    rw (h, t) (ap Refuses (sym e))
magic_outcome front rest f (inr (e, b, inr (inl (n, h)))) end =
    ap (λ z. outcome (z ++ rest)) h ∙ no_letters b rest n ∙ ap Refuses (sym e)
magic_outcome front rest f (inr (e, b, inr (inr (form, n, h)))) end =
    ap (λ z. outcome (z ++ rest)) h ∙ letters_outcome form (b ∷ rest) ∙ rw (begins-false b n) (ap Refuses (sym e))

line_open : (text : List ℕ) → IsOneLine text → line text ≡ None
line_open [] one = refl
line_open (b ∷ text) one = rw (line-false b one.0) (line_open text one.1)

line_closed : (text : List ℕ) (last : ℕ) (t : List ℕ) → IsOneLine text → IsLineEnd last → line ((text ++ last ∷ []) ++ t) ≡ Some t
line_closed [] last t one ends = rw (line-true last ends)
line_closed (b ∷ text) last t one ends = rw (line-false b one.0) (line_closed text last t one.1 ends)

header_fault_outcome : (front rest : List ℕ) (f : PbmFault) → HeaderFault front f → (f ≡ Truncated → rest ≡ []) → outcome (front ++ rest) ≡ Refuses f
header_fault_outcome front rest f (inl m) end = magic_outcome front rest f m end
header_fault_outcome front rest f (inr (inl p)) end =
    ap (λ z. outcome (z ++ rest)) p.bytes_are ∙ letters_outcome p.form (p.rest ++ rest) ∙ third_part p.form (p.rest ++ rest) (begins_append rest (fault_begins p.rest f p.refused))
    ∙ ap (width_of p.form) (part_fault most_width TooWide p.rest rest f p.refused end)
header_fault_outcome front rest f (inr (inr (inl p))) end =
    ap (λ z. outcome (z ++ rest)) p.bytes_are ∙ letters_outcome p.form ((p.first ++ p.rest) ++ rest) ∙ ap (third p.form) (append_assoc p.first p.rest rest)
    ∙ after_width p.form p.is_width (begins_append rest (fault_begins p.rest f p.refused))
    ∙ ap (height_of p.form p.width) (part_fault most_height TooTall p.rest rest f p.refused end)
header_fault_outcome front rest f (inr (inr (inr (o, e)))) end =
    ap (λ z. outcome (front ++ z)) (end e) ∙ ap outcome (append-nil front) ∙ ap outcome o.bytes_are ∙ letters_outcome o.form (o.first ++ (o.second ++ o.rest))
    ∙ after_height o.form o.is_width o.is_height (comment_begins o.is_open)
    ∙ ap (last_space o.form o.width o.height) o.is_open.bytes_are
    ∙ ap (closed o.form o.width o.height) (line_open o.is_open.text o.is_open.one_line) ∙ ap Refuses (sym e)

space_outcome : (form : Form) (w h : ℕ) (s rest : List ℕ) → IsSpace s → last_space form w h (s ++ rest) ≡ Accepts form w h rest
space_outcome form w h s rest (inl v) =
    let other = white_no_hash v.0 v.1 in
    rw (v.2, hash-false v.0 other) where
      white_no_hash : (b : ℕ) → IsWhite b → b ≢ 35
      white_no_hash b (inl e) = omega arith
      white_no_hash b (inr r) = (let top = r.1 in omega arith)
space_outcome form w h s rest (inr c) =
    ap (λ z. last_space form w h (z ++ rest)) c.bytes_are ∙ ap (closed form w h) (line_closed c.text c.last rest c.one_line c.ends)

has_header_outcome : {bytes : List ℕ} {form : Form} {w h : ℕ} {rest : List ℕ} → HasHeader bytes form w h rest → outcome bytes ≡ Accepts form w h rest
has_header_outcome {form = form} {w} {h} {rest} p =
    let q = p.header in
    let first : IsPart most_width (q.gap ++ q.first) w = record
    { gap = q.gap; digits = q.first; bytes_are = refl; is_gap = q.is_gap; is_number = q.is_width; some = p.some_width; within = p.not_too_wide } in
    let second : IsPart most_height (q.between ++ q.second) h =
    record { gap = q.between; digits = q.second; bytes_are = refl; is_gap = q.is_between; is_number = q.is_height; some = p.some_height; within = p.not_too_tall } in
    let cut : (q.gap ++ (q.first ++ (q.between ++ (q.second ++ q.space)))) ++ rest ≡ (q.gap ++ q.first) ++ ((q.between ++ q.second) ++ (q.space ++ rest)) = simp append_assoc in
    ap outcome (p.bytes_are ∙ ap (λ z. z ++ rest) q.bytes_are) ∙ letters_outcome form ((q.gap ++ (q.first ++ (q.between ++ (q.second ++ q.space)))) ++ rest) ∙ ap (third form) cut
    ∙ after_height form first second (begins_append rest (space_begins q.is_space)) ∙ space_outcome form w h q.space rest q.is_space

has_fault_outcome : {bytes : List ℕ} {f : PbmFault} → HasFault bytes f → outcome bytes ≡ Refuses f
has_fault_outcome {f = f} p = ap outcome p.bytes_are ∙ header_fault_outcome p.front p.rest f p.shows p.at_end

pub one_header : OneHeader
one_header _ _ _ _ _ _ _ _ _ p q = let same = sym (has_header_outcome p) ∙ has_header_outcome q in record { forms = cc; widths = cc; heights = cc; rests = cc }

pub one_fault : OneFault
one_fault _ _ _ p q = let same = sym (has_fault_outcome p) ∙ has_fault_outcome q in cc

pub header_or_fault : HeaderOrFault
header_or_fault _ _ _ _ _ _ p q = let same = sym (has_header_outcome p) ∙ has_fault_outcome q in cc
