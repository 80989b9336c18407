-- The number of a place with the most zeros at its end.
use Rattle.std.proofs.Common.{◌≡◌, ℕ, ◌+◌, ◌-◌, ◌*◌, ◌/◌, ◌^◌, ◌<◌, ◌≤◌, inl, inr, arith, ap}
use Rattle.std.proofs.lemmas.Bool.{cases_lt}
use Rattle.std.proofs.lemmas.Nat.{pow_pos, le-div}
use Rattle.qm_core.proofs.MultiplesShift.{split}
use Rattle.std.proofs.Math.Nat.{mul-le-mul_right, pow-le-pow_right, lt_of_mul-lt-mul_right, div-eq_of_lt, div-mul-le_self}

-- the greatest multiple of a power is at or above each
at_least : (top w t : ℕ) → w * 2 ^ t ≤ top → w * 2 ^ t ≤ top / 2 ^ t * 2 ^ t
at_least top w t h = mul-le-mul_right (2 ^ t) (le-div w top (2 ^ t) (pow_pos t) h)

-- of the powers from 2^k up to 2^40, only 2^k has a multiple from `low` up to `top`
pub record IsEvenest (low top k : ℕ) : Type 0 where
  pub small : top < 2 ^ 40
  pub most : k ≤ 40
  pub none : (s : ℕ) → k + 1 ≤ s → s ≤ 40 → top / 2 ^ s * 2 ^ s < low
  pub found : low ≤ top / 2 ^ k * 2 ^ k

-- a multiple of a power beyond the place is 0
null : {low top k : ℕ} (t w : ℕ) → IsEvenest low top k → low ≤ w * 2 ^ t → w * 2 ^ t ≤ top → 40 < t → top / 2 ^ k * 2 ^ k ≡ 0 * 2 ^ t
null {low} {top} {k} t w is from to large =
    let two : 0 < 2 = omega arith in
    let l : 40 ≤ t = omega arith in
    let p = pow-le-pow_right two l in
    let z : w * 2 ^ t < 1 * 2 ^ t = omega (arith, is.small) in
    let w0 = lt_of_mul-lt-mul_right (2 ^ t) z in
    let w1 : w ≡ 0 = omega arith in
    let low0 : low ≡ 0 = omega (arith, ap (λ n. n * 2 ^ t) w1) in
    elim (cases_lt k 40) [
      | inl less ↦ absurd (let n = is.none 40 (omega arith) (omega arith) in omega arith)
      | inr more ↦
          let q = pow-le-pow_right two more in
          let d : top / 2 ^ k ≡ 0 = div-eq_of_lt (omega (arith, is.small)) in
          omega (arith, ap (λ n. n * 2 ^ k) d)
    ]

pub chosen_even : {low top k : ℕ} (t w : ℕ) → IsEvenest low top k → low ≤ w * 2 ^ t → w * 2 ^ t ≤ top → (u : ℕ) × (top / 2 ^ k * 2 ^ k ≡ u * 2 ^ t)
chosen_even {low} {top} {k} t w is from to =
    elim (cases_lt k t) [
      | inl more ↦ elim (cases_lt 40 t) [
        | inl large ↦ (0, null t w is from to large)
        | inr fits ↦ absurd (let n = is.none t (omega arith) fits in omega (arith, at_least top w t to))
      ]
      | inr less ↦ (top / 2 ^ k * 2 ^ (k - t), split (top / 2 ^ k) k t less)
    ]

-- a multiple of a power that a higher power has is one of its own
lower : (top t s : ℕ) → t ≤ s → top / 2 ^ s * 2 ^ s ≤ top / 2 ^ t * 2 ^ t
lower top t s h =
    let e : top / 2 ^ s * 2 ^ s ≡ top / 2 ^ s * 2 ^ (s - t) * 2 ^ t = split (top / 2 ^ s) s t h in
    let d = div-mul-le_self top (2 ^ s) in
    rw e (at_least top (top / 2 ^ s * 2 ^ (s - t)) t (rw (← e) d))

-- a power of which the next one has no multiple there
pub evenest : {low top : ℕ} (next : ℕ) → 1 ≤ next → next ≤ 41 → top < 2 ^ 40 → low ≤ top / 2 ^ (next - 1) * 2 ^ (next - 1) →
    (next ≤ 40 → top / 2 ^ next * 2 ^ next < low) → IsEvenest low top (next - 1)
evenest {low} {top} next some most small found above =
    record {
      small = small;
      most = omega arith;
      none = λ s from to. let a = above (omega arith) in let l = lower top next s (omega arith) in omega arith;
      found = found;
    }
