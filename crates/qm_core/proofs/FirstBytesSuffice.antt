-- The first bytes of a code decide a pixel.
use Rattle.std.proofs.Common.{◌≡◌, ℕ, zero, suc, ◌+◌, ◌-◌, ◌*◌, ◌^◌, ◌<◌, ◌≤◌, inl, inr, Bool, List, [], ◌∷◌, length, arith, refl, ap, ◌∙◌, sym}
use Rattle.std.proofs.lemmas.Bool.{cases_lt}
use Rattle.std.proofs.lemmas.Nat.{pow_pos}
use Rattle.std.proofs.lemmas.Int.Digits.{number_lt}
use Rattle.std.proofs.Math.Nat.{pow-suc, mul-le-mul_right, le_of_mul-le-mul_right, lt_of_mul-lt-mul_right}
use Rattle.qm_core.specs.Place.{Place, State, estimate_of, part, step}
use Rattle.qm_core.specs.Code.{IsBytes, number, Lies, wanted_bytes, first_bytes}
use Rattle.qm_core.proofs.MultiplesShift.{power_at}
use Rattle.qm_core.proofs.CodesLieInside.{number_after, pow-256}
use Rattle.qm_core.proofs.PlacesStayInside.{Lies-renormalised, renormalised-Lies}
use Rattle.qm_core.proofs.OnePixelKeepsCode.{step-place, part-doublings}

pub number-cons : (b : ℕ) (bs : List ℕ) → number (b ∷ bs) ≡ b * 256 ^ length bs + number bs
number-cons b bs = number_after (0 * 256 + b) bs ∙ (let e : 0 * 256 + b ≡ b = omega arith in ap (λ z. z * 256 ^ length bs + number bs) e)

pub length-first_bytes : (k : ℕ) (c : List ℕ) → length (first_bytes k c) ≡ k
length-first_bytes zero c = refl
length-first_bytes (suc k) [] = ap suc (length-first_bytes k [])
length-first_bytes (suc k) (b ∷ c) = ap suc (length-first_bytes k c)

number-first_bytes-nil : (k : ℕ) → number (first_bytes k []) ≡ 0
number-first_bytes-nil zero = refl
number-first_bytes-nil (suc k) = number-first_bytes-nil k

-- the first bytes are the value, rounded down
pub record Floor (c : List ℕ) (k : ℕ) : Type 0 where
  pub from : number (first_bytes k c) * 256 ^ length c ≤ number c * 256 ^ k
  pub below : number c * 256 ^ k < (number (first_bytes k c) + 1) * 256 ^ length c

step_floor : (b N W F K : ℕ) → F * W ≤ N * K → N * K < (F + 1) * W → ((b * K + F) * (W * 256) ≤ (b * W + N) * (K * 256)) × ((b * W + N) * (K * 256) < (b * K + F + 1) * (W * 256))
step_floor b N W F K l h = (omega arith, omega arith)

pub floor : (k : ℕ) (c : List ℕ) → IsBytes c → Floor c k
floor zero c h = let l = number_lt 256 c h in record { from = omega arith; below = omega arith }
floor (suc k) [] h = let z = number-first_bytes-nil k in record { from = omega (arith, z); below = omega (arith, z) }
floor (suc k) (b ∷ c) h =
    let i = floor k c h.1 in
    let f = number-cons b (first_bytes k c) ∙ ap (λ z. b * 256 ^ z + number (first_bytes k c)) (length-first_bytes k c) in
    let r = step_floor b (number c) (256 ^ length c) (number (first_bytes k c)) (256 ^ k) i.from i.below in
    record { from = rw (f, number-cons b c, pow-suc 256 (length c), pow-suc 256 k) r.0; below = rw (f, number-cons b c, pow-suc 256 (length c), pow-suc 256 k) r.1 }

-- a bound M on the value is a bound M·E on its first bytes
up : (M W N P F E : ℕ) → M * W ≤ N * P → N * (P * E) < (F + 1) * W → M * E ≤ F
up M W N P F E m f =
    let a = mul-le-mul_right E m in
    let b : (M * E) * W < (F + 1) * W = omega arith in
    let c = lt_of_mul-lt-mul_right W b in
    omega arith

down : (M W N P F E : ℕ) → M * E ≤ F → F * W ≤ N * (P * E) → 0 < E → M * W ≤ N * P
down M W N P F E m f some =
    let a = mul-le-mul_right W m in
    let b : (M * W) * E ≤ (N * P) * E = omega arith in
    le_of_mul-le-mul_right b some

-- codes with the same first bytes meet the same bound
same_bound : (k n : ℕ) (c d : List ℕ) → 16 + n ≤ 8 * k → IsBytes c → IsBytes d → first_bytes k c ≡ first_bytes k d → (M : ℕ) → M * 256 ^ length c ≤ number c * 2 ^ (16 + n) →
    M * 256 ^ length d ≤ number d * 2 ^ (16 + n)
same_bound k n c d enough hc hd e M m =
    let unit : 256 ^ k ≡ 2 ^ (16 + n) * 2 ^ (8 * k - (16 + n)) = rw (pow-256 k) (power_at (16 + n) (8 * k - (16 + n)) (8 * k) (omega arith)) in
    let u = up M (256 ^ length c) (number c) (2 ^ (16 + n)) (number (first_bytes k c)) (2 ^ (8 * k - (16 + n))) m (rw unit at (floor k c hc).below) in
    down M (256 ^ length d) (number d) (2 ^ (16 + n)) (number (first_bytes k d)) (2 ^ (8 * k - (16 + n))) (rw e at u) (rw unit at (floor k d hd).from) (pow_pos (8 * k - (16 + n)))

-- codes with the same first bytes lie in the same places
pub same_Lies : (k : ℕ) {p : Place} (c d : List ℕ) → 16 + p.doublings ≤ 8 * k → IsBytes c → IsBytes d → first_bytes k c ≡ first_bytes k d → Lies c p → Lies d p
same_Lies k {p} c d enough hc hd e l =
    record {
      from = same_bound k p.doublings c d enough hc hd e p.low l.from;
      below = elim (cases_lt (number d * 2 ^ (16 + p.doublings)) ((p.low + p.size) * 256 ^ length d)) [
        | inl less ↦ less
        | inr more ↦ absurd (let back = same_bound k p.doublings d c enough hd hc (sym e) (p.low + p.size) more in omega (arith, l.below))
      ];
    }

pub same_step : (c d : List ℕ) (s : State) (cx : ℕ) (x : Bool) → IsBytes c → IsBytes d → first_bytes (wanted_bytes s.place.doublings) c ≡ first_bytes (wanted_bytes s.place.doublings) d →
    Lies c (step s cx x).place → Lies d (step s cx x).place
same_step c d s cx x hc hd e l =
    let n = part-doublings s.place (estimate_of s.learned cx) x in
    let a = renormalised-Lies c _ (rw (step-place s cx x) at l) in
    let enough : 16 + (part s.place (estimate_of s.learned cx) x).doublings ≤ 8 * wanted_bytes s.place.doublings = rw n (omega arith) in
    rw (step-place s cx x) (Lies-renormalised d _ (same_Lies (wanted_bytes s.place.doublings) c d enough hc hd e a))
