-- The code of a place is one.
use Rattle.std.proofs.Common.{◌≡◌, ℕ, zero, suc, ◌+◌, ◌-◌, ◌*◌, ◌/◌, ◌%◌, ◌^◌, ◌<◌, ◌≤◌, ◌⊎◌, inl, inr, List, length, arith, ap, ◌∙◌, sym}
use Rattle.std.proofs.lemmas.Bool.{lt-ltb, le-ltb, cases_lt}
use Rattle.std.proofs.lemmas.Nat.{pow_pos}
use Rattle.std.proofs.Math.Nat.{pow-suc, lt_of_mul-lt-mul_right, le_of_mul-le-mul_right, mul-le-mul_right, eq_of_mul-eq-mul_right}
use Rattle.qm_core.specs.Place.{Place, IsPlace}
use Rattle.qm_core.specs.Code.{IsChosen, IsCode, number, multiple_from, chosen_within, chosen, code_of}
use Rattle.qm_core.proofs.NoCodeIsShorter.{code-Lies, shortest_lem}
use Rattle.qm_core.proofs.FrontBeginsCode.{same_number}
use Rattle.qm_core.proofs.FunctionGivesCode.{multiple_above, multiple_least, chosen-IsChosen, code_of-IsCode}

-- no multiple of 2^t is in the place
abbrev NoMultiple : ℕ → Place → Type 0
NoMultiple t p = (w : ℕ) → p.low ≤ w * 2 ^ t → w * 2 ^ t < p.low + p.size → ⊥

halves : (n : ℕ) → ((r : ℕ) × (n ≡ 2 * r)) ⊎ ((r : ℕ) × (n + 1 ≡ 2 * r))
halves n = went (cases_lt (n % 2) 1) where
  went : (n % 2 < 1) ⊎ (1 ≤ n % 2) → ((r : ℕ) × (n ≡ 2 * r)) ⊎ ((r : ℕ) × (n + 1 ≡ 2 * r))
  went (inl even) = inl (n / 2, (omega (arith, even)))
  went (inr odd) = inr (n / 2 + 1, (omega (arith, odd)))

double_power : (r t : ℕ) → r * 2 ^ suc t ≡ (2 * r) * 2 ^ t
double_power r t = let e : r * 2 ^ suc t ≡ r * (2 ^ t * 2) = ap (λ z. r * z) (pow-suc 2 t) in omega (arith, e)

-- of two neighbours one is a multiple of the double
no_neighbours : (t q : ℕ) (p : Place) → NoMultiple (suc t) p → p.low ≤ q * 2 ^ t → (q + 1) * 2 ^ t < p.low + p.size → ⊥
no_neighbours t q p none from to = went (halves q) where
  went : ((r : ℕ) × (q ≡ 2 * r)) ⊎ ((r : ℕ) × (q + 1 ≡ 2 * r)) → ⊥
  went (inl e) =
      let same = double_power e.0 t ∙ ap (λ z. z * 2 ^ t) (sym e.1) in
      none e.0 (omega (arith, same, from)) (omega (arith, same, to))
  went (inr e) =
      let same = double_power e.0 t ∙ ap (λ z. z * 2 ^ t) (sym e.1) in
      none e.0 (omega (arith, same, from)) (omega (arith, same, to))

same_multiple : (t v : ℕ) (p : Place) → IsChosen p v → NoMultiple (suc t) p → multiple_from t p.low < p.low + p.size → multiple_from t p.low ≡ v
same_multiple t v p c none less = went (c.most_even t ((p.low + 2 ^ t - 1) / 2 ^ t) (multiple_above t p.low) less) where
  decide : (q u : ℕ) → q ≤ u → p.low ≤ q * 2 ^ t → v ≡ u * 2 ^ t → (q < u) ⊎ (u ≤ q) → q * 2 ^ t ≡ v
  decide q u le above e (inl more) =
      let up : (q + 1) * 2 ^ t ≤ u * 2 ^ t = mul-le-mul_right (2 ^ t) (let k : q + 1 ≤ u = omega (arith, more) in k) in
      absurd (no_neighbours t q p none above (omega (arith, up, e, c.below)))
  decide q u le above e (inr ge) = let same : q ≡ u = omega (arith, le, ge) in ap (λ z. z * 2 ^ t) same ∙ sym e

  went : (u : ℕ) × (v ≡ u * 2 ^ t) → multiple_from t p.low ≡ v
  went e =
      let q : ℕ = (p.low + 2 ^ t - 1) / 2 ^ t in
      let above = multiple_above t p.low in
      let le : multiple_from t p.low ≤ e.0 * 2 ^ t = multiple_least t p.low e.0 (omega (arith, c.from, e.1)) in
      let le' = le_of_mul-le-mul_right le (pow_pos t) in
      decide ((p.low + 2 ^ t - 1) / 2 ^ t) e.0 le' above e.1 (cases_lt ((p.low + 2 ^ t - 1) / 2 ^ t) e.0)

within_is : (top v : ℕ) (p : Place) → IsPlace p → IsChosen p v → NoMultiple (suc top) p → chosen_within top p ≡ v
within_is zero v p h c none =
    let from : p.low ≤ p.low * 2 ^ 0 = omega arith in
    absurd (no_neighbours 0 p.low p none from (omega (arith, h.large)))
within_is (suc top) v p h c none = went (cases_lt (multiple_from (suc top) p.low) (p.low + p.size)) (λ k. within_is top v p h c k) where
  went : (multiple_from (suc top) p.low < p.low + p.size) ⊎ (p.low + p.size ≤ multiple_from (suc top) p.low) → (NoMultiple (suc top) p → chosen_within top p ≡ v) → chosen_within (suc top) p ≡ v
  went (inl less) further = rw (lt-ltb _ _ less) (same_multiple (suc top) v p c none less)
  went (inr more) further =
      rw (le-ltb _ _ more) (further (λ w from to. let least = multiple_least (suc top) p.low w from in omega (arith, least, to, more)))

large_power : (p : Place) → IsPlace p → p.low + p.size < 2 ^ (18 + p.doublings)
large_power p h =
    let two : 0 < 2 = omega arith in
    let e : 18 + p.doublings ≡ suc (17 + p.doublings) = omega arith in
    let e' : 17 + p.doublings ≡ suc (16 + p.doublings) = omega arith in
    let a = ap (λ k. 2 ^ k) e ∙ pow-suc 2 (17 + p.doublings) in
    let b = ap (λ k. 2 ^ k) e' ∙ pow-suc 2 (16 + p.doublings) in
    let some = pow_pos (16 + p.doublings) in
    omega (arith, h.within, a, b, some)

-- 0 is chosen where it is there
zero_chosen : (p : Place) (v : ℕ) → IsPlace p → IsChosen p v → p.low ≡ 0 → v ≡ 0
zero_chosen p v h c z =
    let e = c.most_even (18 + p.doublings) 0 (omega (arith, z)) (omega (arith, h.large)) in
    let big = large_power p h in
    let less : e.0 * 2 ^ (18 + p.doublings) < 1 * 2 ^ (18 + p.doublings) = omega (arith, e.1, c.below, big) in
    let u = lt_of_mul-lt-mul_right (2 ^ (18 + p.doublings)) less in
    let u0 : e.0 ≡ 0 = omega (arith, u) in
    e.1 ∙ ap (λ k. k * 2 ^ (18 + p.doublings)) u0 ∙ (let n : 0 * 2 ^ (18 + p.doublings) ≡ 0 = omega arith in n)

pub chosen_is : (p : Place) (v : ℕ) → IsPlace p → IsChosen p v → chosen p ≡ v
chosen_is p v h c = went (cases_lt 0 p.low) where
  went : (0 < p.low) ⊎ (p.low ≤ 0) → chosen p ≡ v
  went (inr none) = let z : p.low ≡ 0 = omega (arith, none) in zero_chosen p (chosen p) h (chosen-IsChosen p h) z ∙ sym (zero_chosen p v h c z)
  went (inl some) =
      let e : suc (17 + p.doublings) ≡ 18 + p.doublings = omega arith in
      within_is (17 + p.doublings) v p h c (rw e none)
    where
      none : NoMultiple (18 + p.doublings) p
      none w from to =
          let big = large_power p h in
          let less : w * 2 ^ (18 + p.doublings) < 1 * 2 ^ (18 + p.doublings) = omega (arith, to, big) in
          let u = lt_of_mul-lt-mul_right (2 ^ (18 + p.doublings)) less in
          let u0 : w ≡ 0 = omega (arith, u) in
          let n : w * 2 ^ (18 + p.doublings) ≡ 0 = ap (λ k. k * 2 ^ (18 + p.doublings)) u0 ∙ (let n : 0 * 2 ^ (18 + p.doublings) ≡ 0 = omega arith in n) in
          omega (arith, from, n, some)

-- every code of a place is the one of the function
pub code_is : (p : Place) (b : List ℕ) → IsPlace p → IsCode p b → b ≡ code_of p
code_is p b h c =
    let d = code_of-IsCode p h in
    let le = shortest_lem p b (code_of p) c (code-Lies p (code_of p) d) in
    let ge = shortest_lem p (code_of p) b d (code-Lies p b c) in
    let l : length b ≡ length (code_of p) = omega (arith, le, ge) in
    let v = sym (chosen_is p c.value.0 h c.value.1) ∙ chosen_is p d.value.0 h d.value.1 in
    let e : number b * 2 ^ (16 + p.doublings) ≡ number (code_of p) * 2 ^ (16 + p.doublings) =
    c.value.2 ∙ ap (λ z. z * 256 ^ length b) v ∙ ap (λ z. d.value.0 * 256 ^ z) l ∙ sym d.value.2 in
    same_number b (code_of p) c.bytes d.bytes l (eq_of_mul-eq-mul_right (2 ^ (16 + p.doublings)) (pow_pos (16 + p.doublings)) (number b) (number (code_of p)) e)
