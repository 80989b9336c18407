-- The digits of a number.
use Rattle.std.proofs.Common.{◌≢◌, ◌⊎◌, ◌-◌, inl, inr, cond, Bool, true, false, drop, get_or, refl, append_assoc, length-drop, ◌≡◌, ◌≤◌, ◌<◌, ◌+◌, ◌/◌, ◌%◌, ◌^◌, ◌∙◌, ℕ, List, [], ◌∷◌, ◌++◌, length, sym, ap, arith, length-append}
use Rattle.std.specs.Fmt.{decimal}
use Rattle.std.proofs.lemmas.List.{drop_more}
use Rattle.t85_core.specs.Info.{line_text}
use Rattle.std.proofs.lemmas.Fmt.{decimal_step, decimal_digit, length-decimal-le}

-- the last digit, and those before it
pub length-decimal_step : (n : ℕ) → 10 ≤ n → n < 2 ^ 64 → length (decimal n) ≡ length (decimal (n / 10)) + 1
length-decimal_step n more small = ap length (decimal_step n more small) ∙ length-append (decimal (n / 10)) ((48 + n % 10) ∷ [])
    ∙ (let e : length (decimal (n / 10)) + length ((48 + n % 10) ∷ []) ≡ length (decimal (n / 10)) + 1 = omega arith in e)

pub length-decimal_20 : (n : ℕ) → n < 2 ^ 64 → length (decimal n) ≤ 20
length-decimal_20 n small = length-decimal-le 20 n (omega arith) (omega arith) small

-- the digits before the last stand, and then the last
pub written : (n : ℕ) (old new : List ℕ) → n < 2 ^ 64 → ((10 ≤ n) × (new ≡ old ++ decimal (n / 10))) ⊎ ((n < 10) × (new ≡ old)) → new ++ (48 + n % 10) ∷ [] ≡ old ++ decimal n
written n old new small (inl h) =
    rw (h.1, append_assoc old (decimal (n / 10)) ((48 + n % 10) ∷ []), ← decimal_step n h.0 small)
written n old new small (inr h) =
    let digit : n % 10 ≡ n = omega arith in
    ap (λ z. z ++ (48 + n % 10) ∷ []) h.1 ∙ ap (λ d. old ++ (48 + d) ∷ []) digit ∙ ap (λ z. old ++ z) (sym (decimal_digit n h.0))

-- a number of a line, and the byte after it
line_text_cons : (n : ℕ) (rest : List ℕ) (last : Bool) → ((length rest ≡ 0) × (last ≡ true)) ⊎ ((length rest ≢ 0) × (last ≡ false)) →
    line_text (n ∷ rest) ≡ decimal n ++ cond last 10 32 ∷ line_text rest
line_text_cons n [] last (inl h) = ap (λ t. decimal n ++ cond t 10 32 ∷ []) (sym h.1)
line_text_cons n [] last (inr h) = absurd (h.0 refl)
line_text_cons n (m ∷ more) last (inl h) = absurd (omega arith)
line_text_cons n (m ∷ more) last (inr h) = ap (λ t. decimal n ++ cond t 10 32 ∷ line_text (m ∷ more)) (sym h.1)

pub line_text_step : (numbers : List ℕ) (i : ℕ) (last : Bool) → i < length numbers → ((i + 1 ≡ length numbers) × (last ≡ true)) ⊎ ((i + 1 ≢ length numbers) × (last ≡ false)) →
    line_text (drop i numbers) ≡ decimal (get_or numbers i 0) ++ cond last 10 32 ∷ line_text (drop (i + 1) numbers)
line_text_step numbers i last h e =
    let left = length-drop (i + 1) numbers in
    ap line_text (drop_more numbers i 0 h) ∙ line_text_cons (get_or numbers i 0) (drop (i + 1) numbers) last (at_end (length numbers) (length (drop (i + 1) numbers)) h left e) where
      at_end : (n m : ℕ) → i < n → m ≡ n - (i + 1) → ((i + 1 ≡ n) × (last ≡ true)) ⊎ ((i + 1 ≢ n) × (last ≡ false)) →
          ((m ≡ 0) × (last ≡ true)) ⊎ ((m ≢ 0) × (last ≡ false))
      at_end n m b e (inl h) = inl (omega arith, h.1)
      at_end n m b e (inr h) = let more : m ≢ 0 = let c : i + 1 ≢ n = h.0 in omega arith in inr (more, h.1)

pub ruleset digits = (decimal_step, decimal_digit, length-decimal_step, length-decimal_20)
