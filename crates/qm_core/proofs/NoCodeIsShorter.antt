-- No code of a place is shorter than its code.
use Rattle.std.proofs.Common.{◌≡◌, ◌≢◌, ℕ, ◌+◌, ◌-◌, ◌*◌, ◌^◌, ◌<◌, ◌≤◌, inl, inr, List, [], ◌∷◌, ◌++◌, length, arith, refl, ap, ◌∙◌}
use Rattle.std.proofs.lemmas.Bool.{cases_lt}
use Rattle.std.proofs.lemmas.Nat.{pow_pos, pow-add}
use Rattle.std.proofs.lemmas.Int.Digits.{number_push}
use Rattle.std.proofs.Math.Nat.{eq_of_mul-eq-mul_right, mul-le-mul_right, mul-lt-mul_of_pos_right, one-le-pow, le_of_mul-le-mul_right, lt_of_mul-lt-mul_right}
use Rattle.qm_core.specs.Place.{Place, IsPlace, State, Event, after}
use Rattle.qm_core.specs.Code.{IsBytes, IsTrimmed, IsCode, Lies, number}
use Rattle.qm_core.proofs.MultiplesShift.{power_at}
use Rattle.qm_core.proofs.CodesLieInside.{pow-256}
use Rattle.qm_core.proofs.OnePixelKeepsCode.{after-inside}

-- a list that is not empty has a last element
last_of : (b : ℕ) (bs : List ℕ) → (front : List ℕ) × (y : ℕ) × (b ∷ bs ≡ front ++ y ∷ [])
last_of b [] = ([], b, refl)
last_of b (c ∷ bs) = let r = last_of c bs in (b ∷ r.0, r.1, ap (λ l. b ∷ l) r.2)

trimmed_last : (xs : List ℕ) (y : ℕ) → IsTrimmed (xs ++ y ∷ []) → y ≢ 0
trimmed_last [] y h = h
trimmed_last (x ∷ []) y h = h
trimmed_last (x ∷ z ∷ xs) y h = trimmed_last (z ∷ xs) y h

bytes_last : (xs : List ℕ) (y : ℕ) → IsBytes (xs ++ y ∷ []) → y < 256
bytes_last [] y h = h.0
bytes_last (x ∷ xs) y h = bytes_last xs y h.1

-- the number of a trimmed list is no multiple of 256
no_multiple : (b : List ℕ) (u : ℕ) → IsBytes b → IsTrimmed b → 0 < length b → number b ≡ u * 256 → ⊥
no_multiple [] u h t l e = absurd (omega arith)
no_multiple (x ∷ xs) u h t l e =
    let r = last_of x xs in
    let n = ap number r.2 ∙ number_push 256 r.0 r.1 in
    let y : r.1 < 256 = bytes_last r.0 r.1 (rw (← r.2) h) in
    let z : r.1 ≢ 0 = trimmed_last r.0 r.1 (rw (← r.2) t) in
    omega (arith, n, e)

-- the code lies in its place
pub code-Lies : (p : Place) (b : List ℕ) → IsCode p b → Lies b p
code-Lies p b c =
    let v = c.value.0 in
    let i = c.value.1 in
    let e = c.value.2 in
    let f = mul-le-mul_right (256 ^ length b) i.from in
    let g : v * 256 ^ length b < (p.low + p.size) * 256 ^ length b = mul-lt-mul_of_pos_right i.below (one-le-pow (length b) 256 (omega arith)) in
    record { from = omega arith; below = omega arith }

pub code_in_all : (s : State) (before later : List Event) (b : List ℕ) → IsPlace (after s before).place → IsCode (after (after s before) later).place b → Lies b (after s before).place
code_in_all s before later b h c = after-inside later (after s before) b h (code-Lies _ b c)

-- where more than a byte is below the place's precision
fine_case : {p : Place} {b : List ℕ} (code : IsCode p b) → 24 + p.doublings ≤ 8 * length b → (u : ℕ) × (number b ≡ u * 256)
fine_case {p} {b} code h =
    let v = code.value.0 in
    let d : ℕ = 8 * length b - (24 + p.doublings) in
    let a : 256 ^ length b ≡ 2 ^ d * (256 * 2 ^ (16 + p.doublings)) =
    pow-256 (length b) ∙ power_at d (24 + p.doublings) (8 * length b) (omega arith) ∙ ap (λ k. 2 ^ d * k) (power_at 8 (16 + p.doublings) (24 + p.doublings) (omega arith)) in
    let m = ap (λ k. v * k) a in
    let f : number b * 2 ^ (16 + p.doublings) ≡ ((v * 2 ^ d) * 256) * 2 ^ (16 + p.doublings) = omega (arith, m, code.value.2) in
    (v * 2 ^ d, eq_of_mul-eq-mul_right (2 ^ (16 + p.doublings)) (pow_pos (16 + p.doublings)) _ _ f)

multiple_case : {p : Place} {b : List ℕ} (u T K R : ℕ) (code : IsCode p b) → 0 < length b → 2 ^ (16 + p.doublings) ≡ T * K → code.value.0 ≡ u * T → 256 ^ length b ≡ R * (256 * K) → ⊥
multiple_case {p} {b} u T K R code l e v q =
    let a = ap (λ k. number b * k) e in
    let c = ap (λ k. k * 256 ^ length b) v in
    let d = ap (λ k. (u * T) * k) q in
    let f : number b * (T * K) ≡ ((u * R) * 256) * (T * K) = omega (arith, code.value.2) in
    let some : 0 < T * K = omega (arith, e, pow_pos (16 + p.doublings)) in
    no_multiple b (u * R) code.bytes code.trimmed l (eq_of_mul-eq-mul_right (T * K) some (number b) ((u * R) * 256) f)

-- where the shorter list is a number of the place's precision
coarse_case : {p : Place} {b c : List ℕ} → IsCode p b → Lies c p → length c < length b → 8 * length c ≤ 16 + p.doublings → ⊥
coarse_case {p} {b} {c} code l h coarse =
    let t : ℕ = 16 + p.doublings - 8 * length c in
    let r : ℕ = length b - (length c + 1) in
    let pk : 2 ^ (16 + p.doublings) ≡ 2 ^ t * 256 ^ length c = rw (pow-256 (length c)) (power_at t (8 * length c) (16 + p.doublings) (omega arith)) in
    let n = ap (λ k. number c * k) pk in
    let from : p.low * 256 ^ length c ≤ (number c * 2 ^ t) * 256 ^ length c = omega (arith, n, l.from) in
    let below : (number c * 2 ^ t) * 256 ^ length c < (p.low + p.size) * 256 ^ length c = omega (arith, n, l.below) in
    let even = code.value.1.most_even t (number c) (le_of_mul-le-mul_right from (one-le-pow (length c) 256 (omega arith))) (lt_of_mul-lt-mul_right (256 ^ length c) below) in
    let y : length b ≡ r + (1 + length c) = omega arith in
    let q = ap (λ k. 256 ^ k) y ∙ pow-add 256 r (1 + length c) ∙ ap (λ k. 256 ^ r * k) (pow-add 256 1 (length c)) in
    multiple_case even.0 (2 ^ t) (256 ^ length c) (256 ^ r) code (omega arith) pk even.1 q

-- a shorter list that is decided at the place's precision: w = number c * 2^(16+n-8k)
shorter : (p : Place) (b c : List ℕ) → IsCode p b → Lies c p → length c < length b → ⊥
shorter p b c code l h =
    elim (cases_lt (16 + p.doublings) (8 * length c)) [
      | inl fine ↦ let e = fine_case code (omega arith) in no_multiple b e.0 code.bytes code.trimmed (omega arith) e.1
      | inr coarse ↦ coarse_case code l h coarse
    ]

pub shortest_lem : (p : Place) (b c : List ℕ) → IsCode p b → Lies c p → length b ≤ length c
shortest_lem p b c code l = elim (cases_lt (length c) (length b)) [ inl s ↦ absurd (shorter p b c code l s) | inr g ↦ g ]
