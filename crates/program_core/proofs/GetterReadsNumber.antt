-- The result of the typed getter of a number, as a function of the text.
use Rattle.std.proofs.Common.{◌≡◌, ◌&&◌, ◌^◌, ℕ, Bool, List, [], ◌∷◌, Option, Some, None, true, false, true≢false, length, refl, ap, sym, option_and_then, is_some, rules, ◌∙◌}
use Rattle.std.specs.Prelude.{IsSome, Result, Ok, Err, nat_lt}
use Rattle.std.proofs.lemmas.Bool.{ltb-true, lt-ltb}
use Rattle.std.specs.List.{list_all}
use Rattle.std.specs.Char.{digit_value}
use Rattle.std.specs.Str.Parse.{AllDigits, ExplainsUnsignedError, HasUnsignedDigitsIfOk, ParsesUnsigned, digits_value, without_leading_plus}
use Rattle.clap.specs.ValueTests.{is_numeral}
use Rattle.clap.specs.Words.{ReadsOne, Text, one_text, rows_of}
use Rattle.clap.proofs.WalkLemmas.{both, one_text-rows}
use Rattle.clap.specs.declared.parser.matches.Found.{Found}
use Rattle.program_core.specs.Options.{decimal, number_in}

digits_pass : (ds : List ℕ) → AllDigits 10 ds → list_all (λ d. nat_lt (digit_value d) 10) ds ≡ true
digits_pass [] h = refl
digits_pass (d ∷ ds) h = rw (lt-ltb (digit_value d) 10 h.0) (digits_pass ds h.1)

digits_from : (ds : List ℕ) → list_all (λ d. nat_lt (digit_value d) 10) ds ≡ true → AllDigits 10 ds
digits_from [] e = tt
digits_from (d ∷ ds) e =
    let parts = both _ _ e in
    (ltb-true _ _ parts.0, digits_from ds parts.1)

abbrev fits : List ℕ → Bool
fits ds = is_numeral ds && nat_lt (digits_value 10 ds) (2 ^ 32)

decimal_ok : (E : Type 0) (text : Text) (n : ℕ) → ParsesUnsigned {E = E} 32 10 text (Ok n) → Some n ≡ decimal text
decimal_ok E text n h =
    let ds = without_leading_plus text in
    rw (lt-ltb 0 (length ds) h.0.0.0, digits_pass ds h.0.0.1, lt-ltb (digits_value 10 ds) (2 ^ 32) h.0.1) (ap (λ (k : ℕ). Some k) h.1)

decimal_err : {E : Type 0} (text : Text) (e : E) → ParsesUnsigned 32 10 text (Err e) → None ≡ decimal text
decimal_err text e h = go (fits (without_leading_plus text)) refl
  where
    go : (b : Bool) → fits (without_leading_plus text) ≡ b → None ≡ decimal text
    go false t = rw t refl
    go true t =
        let outer = both _ _ t in
        let inner = both _ _ outer.0 in
        absurd (h ((ltb-true _ _ inner.0, digits_from (without_leading_plus text) inner.1), ltb-true _ _ outer.1))

-- a text is read as its number
pub decimal_reads : (text : Text) → ReadsOne (λ u (r : Result ℕ (Unit {0})). ParsesUnsigned 32 10 u r) text (decimal text)
decimal_reads text = go (fits (without_leading_plus text)) refl
  where
    go : (b : Bool) → fits (without_leading_plus text) ≡ b → ReadsOne (λ u (r : Result ℕ (Unit {0})). ParsesUnsigned 32 10 u r) text (decimal text)
    go false t = rw t (
      tt,
      λ h. let no = digits_pass (without_leading_plus text) h.0.1 in let bad : fits (without_leading_plus text) ≡ true = rw
          (lt-ltb 0 (length (without_leading_plus text)) h.0.0, no, lt-ltb (digits_value 10 (without_leading_plus text)) (2 ^ 32) h.1) refl in absurd (true≢false (sym bad ∙ t)),
    )
    go true t =
        let outer = both _ _ t in
        let inner = both _ _ outer.0 in
        rw t (((ltb-true _ _ inner.0, digits_from (without_leading_plus text) inner.1), ltb-true _ _ outer.1), refl)

-- what the getter reads of a text that may be there is its number
number_read : {E : Type 0} (G : Text → Result ℕ E → Type 0) → ((t : Text) (x : Result ℕ E) → G t x → ParsesUnsigned 32 10 t x)
    → (o : Option Text) (r : Option ℕ) → (o ≡ None → r ≡ None) → ((t : Text) → o ≡ Some t → ReadsOne G t r) → r ≡ option_and_then decimal o
number_read {E} G only None r none value = none refl
number_read {E} G only (Some t) (Some n) none value = decimal_ok E t n (only t (Ok n) (value t refl))
number_read {E} G only (Some t) None none value =
    let e = value t refl in
    decimal_err t e.0 (only t (Err e.0) e.1)

-- a number as the matches give it
pub number_of_rows : (f : Found) (id : Text) → option_and_then decimal (one_text f id) ≡ number_in id (rows_of f)
number_of_rows f id = ap (option_and_then decimal) (one_text-rows f id)

-- `get_one::<u32>`
pub number_is : (f : Found) (id : Text) (r : Option ℕ) → (one_text f id ≡ None → r ≡ None)
    → ((t : Text) → one_text f id ≡ Some t
    → ReadsOne (λ bs x. ParsesUnsigned 32 10 bs x × ExplainsUnsignedError 10 bs x × HasUnsignedDigitsIfOk bs x) t r)
    → r ≡ number_in id (rows_of f)
number_is f id r none value =
    number_read (λ bs x. ParsesUnsigned 32 10 bs x × ExplainsUnsignedError 10 bs x × HasUnsignedDigitsIfOk bs x) (λ t x g. g.0) (one_text f id) r none value
    ∙ number_of_rows f id

-- a default is there to be read
pub is_there : (o r : Option ℕ) → o ≡ r → is_some r ≡ true → IsSome o
is_there None r e h =
    let bad : false ≡ true = rw (← e) at h in
    absurd (true≢false (sym bad))
is_there (Some n) r e h = search rules
