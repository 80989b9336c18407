-- The code as a function is the code as a relation, and the only one.
use Rattle.std.proofs.Common.{◌≡◌, ◌≢◌, ℕ, zero, suc, ◌+◌, ◌-◌, ◌*◌, ◌/◌, ◌%◌, ◌^◌, ◌<◌, ◌≤◌, ◌⊎◌, inl, inr, true, false, nat_eq, nat_lt, List, [], ◌∷◌, length, arith, refl, ap, ◌∙◌}
use Rattle.std.proofs.lemmas.Bool.{lt-ltb, le-ltb, cases_lt, cases_eq}
use Rattle.std.proofs.lemmas.Bool.Decides.{nat_tests}
use Rattle.std.proofs.lemmas.Nat.{pow_pos}
use Rattle.std.proofs.Math.Nat.{div-add-mod, pow-suc, pow-le-pow_right, lt_of_mul-lt-mul_right, le_of_mul-le-mul_right, mul-le-mul_right}
use Rattle.qm_core.specs.Place.{Place, IsPlace}
use Rattle.qm_core.specs.Code.{IsBytes, IsTrimmed, IsChosen, IsCode, number, wanted_bytes, multiple_from, chosen_within, chosen, fraction_bytes, code_of}
use Rattle.qm_core.proofs.MultiplesShift.{power_at, split}
use Rattle.qm_core.proofs.FirstBytesSuffice.{number-cons}
use Rattle.qm_core.proofs.CodesLieInside.{pow-256}

-- these bytes are the fraction v / unit
record Fraction (v unit : ℕ) (bs : List ℕ) : Type 0 where
  pub bytes : IsBytes bs
  pub trimmed : IsTrimmed bs
  pub value : number bs * unit ≡ v * 256 ^ length bs
  pub none : bs ≡ [] → v ≡ 0

trimmed_cons : (d : ℕ) (bs : List ℕ) → IsTrimmed bs → (bs ≡ [] → d ≢ 0) → IsTrimmed (d ∷ bs)
trimmed_cons d [] t h = h refl
trimmed_cons d (b ∷ bs) t h = t

zero_of : (u unit v : ℕ) → v < unit → v ≡ u * unit → v ≡ 0
zero_of u unit v h e =
    let lt : u * unit < 1 * unit = omega (arith, h, e) in
    let small = lt_of_mul-lt-mul_right unit lt in
    let none : u ≡ 0 = omega (arith, small) in
    e ∙ ap (λ z. z * unit) none ∙ (let z : 0 * unit ≡ 0 = omega arith in z)

-- one digit more, with the remainder r
more_digits : {v unit d r : ℕ} {bs : List ℕ} → v ≢ 0 → v < unit → unit * d + r ≡ v * 256 → Fraction r unit bs → Fraction v unit (d ∷ bs)
more_digits {v} {unit} {d} {r} {bs} n h split f =
    let less : d * unit < 256 * unit = omega (arith, split, h) in
    let a = ap (λ z. z * unit) (number-cons d bs) in
    let b = ap (λ z. v * z) (pow-suc 256 (length bs)) in
    let c = ap (λ z. z * 256 ^ length bs) split in
    record {
      bytes = (lt_of_mul-lt-mul_right unit less, f.bytes);
      trimmed = trimmed_cons d bs f.trimmed (λ nil z. n (omega (arith, split, f.none nil, ap (λ y. unit * y) z)));
      value = omega (arith, a, b, c, f.value);
      none = λ nil. absurd (let bot : ⊥ = cc in bot);
    }

-- what is left of the value is a multiple of the unit, too
left : (v unit d r K u : ℕ) → 0 < unit → unit * d + r ≡ v * 256 → (v * 256) * K ≡ u * unit → r * K ≡ (u - d * K) * unit
left v unit d r K u some split e =
    let parts = ap (λ z. z * K) split ∙ e in
    let less : (d * K) * unit ≤ u * unit = omega (arith, parts) in
    let enough = le_of_mul-le-mul_right less some in
    let back : u ≡ (u - d * K) + d * K = omega (arith, enough) in
    let whole = ap (λ z. z * unit) back in
    times_left (u - d * K) (parts ∙ whole) where
      times_left : (z : ℕ) → (unit * d + r) * K ≡ (z + d * K) * unit → r * K ≡ z * unit
      times_left z e = omega (arith, e)

fraction : (k v unit u : ℕ) → 0 < unit → v < unit → v * 256 ^ k ≡ u * unit → Fraction v unit (fraction_bytes k v unit)
fraction zero v unit u some h e =
    let e1 : v ≡ u * unit = omega (arith, e) in
    let z = zero_of u unit v h e1 in
    record { bytes = tt; trimmed = tt; value = omega (arith, z); none = λ _. z }
fraction (suc k) v unit u some h e = went (cases_eq v 0) (λ z g. fraction k (v * 256 % unit) unit z some (omega (arith, some)) g) where
  went : (v ≡ 0) ⊎ (v ≢ 0) → ((z : ℕ) → (v * 256 % unit) * 256 ^ k ≡ z * unit → Fraction (v * 256 % unit) unit (fraction_bytes k (v * 256 % unit) unit)) →
      Fraction v unit (fraction_bytes (suc k) v unit)
  went (inl z) further = let t : nat_eq v 0 ≡ true = grind (arith, nat_tests) in rw t (record { bytes = tt; trimmed = tt; value = omega (arith, z); none = λ _. z })
  went (inr n) further =
      let t : nat_eq v 0 ≡ false = grind (arith, nat_tests) in
      let split = div-add-mod (v * 256) unit in
      let q = ap (λ z. v * z) (pow-suc 256 k) in
      rw t (more_digits n h split (further _ (left v unit (v * 256 / unit) (v * 256 % unit) (256 ^ k) u some split (omega (arith, e, q)))))

-- ---- the chosen number

record ChosenTo (top : ℕ) (p : Place) (v : ℕ) : Type 0 where
  pub from : p.low ≤ v
  pub below : v < p.low + p.size
  pub even : (t w : ℕ) → t ≤ top → p.low ≤ w * 2 ^ t → w * 2 ^ t < p.low + p.size → (u : ℕ) × (v ≡ u * 2 ^ t)

pub multiple_above : (t low : ℕ) → low ≤ multiple_from t low
multiple_above t low =
    let some = pow_pos t in
    let e = div-add-mod (low + 2 ^ t - 1) (2 ^ t) in
    let r : (low + 2 ^ t - 1) % 2 ^ t < 2 ^ t = omega (arith, some) in
    omega (arith, e, r, some)

pub multiple_least : (t low w : ℕ) → low ≤ w * 2 ^ t → multiple_from t low ≤ w * 2 ^ t
multiple_least t low w h =
    let some = pow_pos t in
    let e = div-add-mod (low + 2 ^ t - 1) (2 ^ t) in
    let lt : ((low + 2 ^ t - 1) / 2 ^ t) * 2 ^ t < (w + 1) * 2 ^ t = omega (arith, e, h, some) in
    let lt' = lt_of_mul-lt-mul_right (2 ^ t) lt in
    mul-le-mul_right (2 ^ t) (let le : (low + 2 ^ t - 1) / 2 ^ t ≤ w = omega (arith, lt') in le)

chosen_to : (top : ℕ) (p : Place) → 0 < p.size → ChosenTo top p (chosen_within top p)
chosen_to zero p some = record {
  from = omega arith;
  below = omega (arith, some);
  even = λ t w le _ _. let z : 0 ≡ t = omega (arith, le) in (p.low, (let one : p.low ≡ p.low * 2 ^ 0 = omega arith in one ∙ ap (λ k. p.low * 2 ^ k) z));
}
chosen_to (suc top) p some = went (cases_lt (multiple_from (suc top) p.low) (p.low + p.size)) (chosen_to top p some) where
  went : (multiple_from (suc top) p.low < p.low + p.size) ⊎ (p.low + p.size ≤ multiple_from (suc top) p.low) → ChosenTo top p (chosen_within top p) → ChosenTo (suc top) p (chosen_within (suc top) p)
  went (inl less) c =
      let t : nat_lt (multiple_from (suc top) p.low) (p.low + p.size) ≡ true = lt-ltb _ _ less in
      rw t (record {
        from = multiple_above (suc top) p.low;
        below = less;
        even = λ t w le _ _. ((p.low + 2 ^ suc top - 1) / 2 ^ suc top * 2 ^ (suc top - t), split ((p.low + 2 ^ suc top - 1) / 2 ^ suc top) (suc top) t le);
      })
  went (inr more) c =
      let t : nat_lt (multiple_from (suc top) p.low) (p.low + p.size) ≡ false = le-ltb _ _ more in
      rw t (record { from = c.from; below = c.below; even = λ t w le from to. up t w le from to (cases_lt t (suc top)) })
    where
      up : (t w : ℕ) → t ≤ suc top → p.low ≤ w * 2 ^ t → w * 2 ^ t < p.low + p.size → (t < suc top) ⊎ (suc top ≤ t) → (u : ℕ) × (chosen_within top p ≡ u * 2 ^ t)
      up t w le from to (inl below) = c.even t w (omega (arith, below)) from to
      up t w le from to (inr ge) =
          let same : t ≡ suc top = omega (arith, le, ge) in
          let from' : p.low ≤ w * 2 ^ suc top = rw (← same) from in
          let to' : w * 2 ^ suc top < p.low + p.size = rw (← same) to in
          absurd (let least = multiple_least (suc top) p.low w from' in omega (arith, least, to', more))

power_two : (n : ℕ) → 2 ^ (17 + n) ≡ 2 * 2 ^ (16 + n)
power_two n = power_at 1 (16 + n) (17 + n) (omega arith)

pub chosen-IsChosen : (p : Place) → IsPlace p → IsChosen p (chosen p)
chosen-IsChosen p h =
    let c = chosen_to (17 + p.doublings) p (omega (arith, h.large)) in
    record { from = c.from; below = c.below; most_even = λ t w from to. went t w from to (cases_lt (17 + p.doublings) t) }
  where
    went : (t w : ℕ) → p.low ≤ w * 2 ^ t → w * 2 ^ t < p.low + p.size → (17 + p.doublings < t) ⊎ (t ≤ 17 + p.doublings) → (u : ℕ) × (chosen p ≡ u * 2 ^ t)
    went t w from to (inr le) = (chosen_to (17 + p.doublings) p (omega (arith, h.large))).even t w le from to
    went t w from to (inl beyond) =
        let c = chosen_to (17 + p.doublings) p (omega (arith, h.large)) in
        let two : 0 < 2 = omega arith in
        let le : 17 + p.doublings ≤ t = omega (arith, beyond) in
        let q = pow-le-pow_right two le in
        let d = power_two p.doublings in
        let some = pow_pos (16 + p.doublings) in
        let small : w * 2 ^ t < 1 * 2 ^ t = omega (arith, to, h.within, q, d, some) in
        let w1 = lt_of_mul-lt-mul_right (2 ^ t) small in
        let w0 : w ≡ 0 = omega (arith, w1) in
        let low0 : p.low ≡ 0 = omega (arith, from, ap (λ n. n * 2 ^ t) w0) in
        let e = c.even (17 + p.doublings) 0 (omega arith) (omega (arith, low0)) (omega (arith, h.large)) in
        let less : e.0 * 2 ^ (17 + p.doublings) < 1 * 2 ^ (17 + p.doublings) = omega (arith, e.1, c.below, h.within, d, some) in
        let u1 = lt_of_mul-lt-mul_right (2 ^ (17 + p.doublings)) less in
        let u0 : e.0 ≡ 0 = omega (arith, u1) in
        (0, e.1 ∙ ap (λ n. n * 2 ^ (17 + p.doublings)) u0 ∙ (let z : 0 * 2 ^ (17 + p.doublings) ≡ 0 * 2 ^ t = omega arith in z))

-- so many bytes are enough
divides : (n v : ℕ) → v * 256 ^ wanted_bytes n ≡ (v * 2 ^ (8 * wanted_bytes n - (16 + n))) * 2 ^ (16 + n)
divides n v =
    let le : 16 + n ≤ 8 * wanted_bytes n = omega arith in
    ap (λ z. v * z) (pow-256 (wanted_bytes n)) ∙ split v (8 * wanted_bytes n) (16 + n) le

pub code_of-IsCode : (p : Place) → IsPlace p → IsCode p (code_of p)
code_of-IsCode p h =
    let c = chosen-IsChosen p h in
    let f = fraction (wanted_bytes p.doublings) (chosen p) (2 ^ (16 + p.doublings)) (chosen p * 2 ^ (8 * wanted_bytes p.doublings - (16 + p.doublings)))
    (pow_pos (16 + p.doublings)) (omega (arith, c.below, h.within)) (divides p.doublings (chosen p)) in
    record { bytes = f.bytes; trimmed = f.trimmed; value = (chosen p, c, f.value) }
