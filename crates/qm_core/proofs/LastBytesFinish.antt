-- The last bytes of a code.
use Rattle.std.proofs.Common.{◌≡◌, ℕ, ◌+◌, ◌-◌, ◌*◌, ◌/◌, ◌%◌, ◌^◌, ◌<◌, ◌≤◌, inl, inr, None, List, [], ◌++◌, length, replicate, arith, refl, ap, ◌∙◌, sym, append_assoc, append-nil, length-append}
use Rattle.std.proofs.lemmas.Bool.{cases_lt}
use Rattle.std.proofs.lemmas.Nat.{pow_pos, pow-add}
use Rattle.std.proofs.Math.Nat.{eq_of_mul-eq-mul_right, mod-eq_of_lt, mul-le-mul_right, le_of_mul-le-mul_right, lt_of_mul-lt-mul_right, mul_assoc, one-le-pow, pow-le-pow_right}
use Rattle.qm_core.specs.Place.{Place}
use Rattle.qm_core.specs.Code.{IsChosen, IsCode, number, stuffed}
use Rattle.qm_core.specs.Machine.{run_bytes, Digits}
use Rattle.qm_core.proofs.MultiplesShift.{power_at, split}
use Rattle.qm_core.proofs.CodesLieInside.{number-append, pow-256}
use Rattle.qm_core.proofs.OutputIsFront.{IsWhole}
use Rattle.qm_core.proofs.TailTakesByte.{number-null}
use Rattle.qm_core.proofs.WritesJoin.{stuffed-append}
use Rattle.std.proofs.lemmas.List.{length-replicate, replicate-append-replicate}

-- the chosen number of a large span has seven zeros at its end
pub whole_128 : {p : Place} {v : ℕ} → 0x40_0000 ≤ p.size → IsChosen p v → (u : ℕ) × (v ≡ u * 128)
whole_128 {p} large c = c.most_even 7 ((p.low + 127) / 128) (omega arith) (omega arith)

pub value_room : (v bits k : ℕ) → bits ≤ 23 → 7 ≤ k → v < 2 ^ (bits + k) → (u : ℕ) × (v ≡ u * 128) → v * 2 ^ (24 - bits) + 128 ≤ 2 ^ (24 + k)
value_room v bits k most seven below e =
    let b : 2 ^ (bits + k) ≡ 2 ^ (bits + (k - 7)) * 128 = power_at (bits + (k - 7)) 7 (bits + k) (omega arith) in
    let next : v + 128 ≤ 2 ^ (bits + k) = omega (arith, e.1) in
    let m = mul-le-mul_right (2 ^ (24 - bits)) next in
    let c : 2 ^ (bits + k) * 2 ^ (24 - bits) ≡ 2 ^ (24 + k) = sym (power_at (bits + k) (24 - bits) (24 + k) (omega arith)) in
    let one = pow_pos (24 - bits) in
    omega arith

pub value_whole : (v bits k : ℕ) → k ≤ 8 → v * 2 ^ (24 - bits) + 128 ≤ 2 ^ (24 + k) → (v * 2 ^ (24 - bits)) % 2 ^ 64 ≡ v * 2 ^ (24 - bits)
value_whole v bits k h l =
    let two : 0 < 2 = omega arith in
    let e : 24 + k ≤ 32 = omega arith in
    let m = pow-le-pow_right two e in
    mod-eq_of_lt (omega arith)

-- the digits with the chosen number in place of the low end
pub chosen_digits : {low span bits v : ℕ} {p : Place} {D : List ℕ} (u : ℕ) → bits ≤ 23 → v ≡ u * 128 → Digits low span bits p D →
    Digits (v * 2 ^ (24 - bits)) 128 24 (record { low = (number D * 2 ^ bits + u) * 2 ^ (24 - bits); size = 1; doublings = p.doublings + (24 - bits) }) D
chosen_digits {bits = bits} {v} {D = D} u most e d =
    let a : 2 ^ bits * 2 ^ (24 - bits) ≡ 2 ^ 24 = sym (power_at bits (24 - bits) 24 (omega arith)) in
    let b = ap (λ n. number D * n) a in
    let f = ap (λ n. n * 2 ^ (24 - bits)) e in
    record { size = refl; count = omega (arith, d.count); value = omega arith }

-- eight zeros more
pub next_digits : {low : ℕ} {p : Place} {D : List ℕ} → Digits low 128 16 p D → Digits (low * 256) 128 24 (record { low = p.low * 256; size = 1; doublings = p.doublings + 8 }) D
next_digits d = record { size = refl; count = omega (arith, d.count); value = omega (arith, d.value) }

-- after three bytes nothing is left
pub last_digits : {low : ℕ} (L n : ℕ) {D : List ℕ} {size : ℕ} → low < 2 ^ 23 → Digits low 128 16 (record { low = L * 256 * 256; size = size; doublings = n + 8 + 8 }) D →
    (number D ≡ L) × (8 * length D ≡ n + 16)
last_digits L n h d = let v = d.value in (omega arith, omega (arith, d.count))

-- two multiples less than a unit apart are one
same_multiple : (a b k x y : ℕ) → x ≡ a * k → y ≡ b * k → x < y + k → y < x + k → x ≡ y
same_multiple a b k x y e f l m =
    let p : a * k < (b + 1) * k = omega (arith, e, f) in
    let q : b * k < (a + 1) * k = omega (arith, e, f) in
    let r = lt_of_mul-lt-mul_right k p in
    let s = lt_of_mul-lt-mul_right k q in
    let t : a ≡ b = omega arith in
    e ∙ (ap (λ n. n * k) t ∙ sym f)

module _ {low span bits v : ℕ} (u : ℕ) {p : Place} {D : List ℕ} (d : Digits low span bits p D) (is : v ≡ u * 128) (c : IsChosen (record { low = low; size = span; doublings = 0 }) v) where
  bits_up : 2 ^ (bits + 7) ≡ 128 * 2 ^ bits
  bits_up = power_at 7 bits (bits + 7) (omega arith)

  base : 128 * p.low ≡ number D * (128 * 2 ^ bits) + low
  base = d.value ∙ ap (λ k. number D * k + low) bits_up

  chosen_from : p.low ≤ number D * 2 ^ bits + u
  chosen_from = omega (arith, base, c.from)

  chosen_below : number D * 2 ^ bits + u < p.low + p.size
  chosen_below = let s = d.size in omega (arith, base, c.below)

  even_low : (t w : ℕ) → t ≤ bits → p.low ≤ w * 2 ^ t → w * 2 ^ t < p.low + p.size → (n : ℕ) × (number D * 2 ^ bits + u ≡ n * 2 ^ t)
  even_low t w h l b =
      let s = d.size in
      let y = split (number D) bits t h in
      let z = pow-add 2 t 7 in
      let g : (number D * 2 ^ (bits - t)) * 2 ^ t ≤ w * 2 ^ t = omega (arith, base) in
      let g' = le_of_mul-le-mul_right g (pow_pos t) in
      let r : (w - number D * 2 ^ (bits - t)) * 2 ^ t + (number D * 2 ^ (bits - t)) * 2 ^ t ≡ w * 2 ^ t =
      (let q : (w - number D * 2 ^ (bits - t)) + number D * 2 ^ (bits - t) ≡ w = omega arith in omega (arith, ap (λ n. n * 2 ^ t) q)) in
      let zz = ap (λ n. (w - number D * 2 ^ (bits - t)) * n) z in
      let m = c.most_even (t + 7) (w - number D * 2 ^ (bits - t)) (omega (arith, base, zz, r, y)) (omega (arith, base, zz, r, y)) in
      let k = m.1 ∙ (ap (λ n. m.0 * n) z ∙ sym (mul_assoc m.0 (2 ^ t) 128)) in
      (number D * 2 ^ (bits - t) + m.0, omega (arith, y, k))

  even_all : 16 ≤ bits → p.size ≤ 0x10000 → (t w : ℕ) → p.low ≤ w * 2 ^ t → w * 2 ^ t < p.low + p.size → (n : ℕ) × (number D * 2 ^ bits + u ≡ n * 2 ^ t)
  even_all least small t w l b =
      elim (cases_lt bits t) [
        | inr fine ↦ even_low t w fine l b
        | inl coarse ↦
            let y : w * 2 ^ t ≡ (w * 2 ^ (t - bits)) * 2 ^ bits = split w t bits (omega arith) in
            let itself : bits ≤ bits = omega arith in
            let z = even_low bits (w * 2 ^ (t - bits)) itself (omega (arith, y)) (omega (arith, y)) in
            let two : 0 < 2 = omega arith in
            let big = pow-le-pow_right two least in
            (w, same_multiple z.0 (w * 2 ^ (t - bits)) (2 ^ bits) (number D * 2 ^ bits + u) (w * 2 ^ t) z.1 y (omega (arith, chosen_from, chosen_below)) (omega (arith, chosen_from, chosen_below)))
      ]

  pub is_chosen : 16 ≤ bits → p.size ≤ 0x10000 → IsChosen p (number D * 2 ^ bits + u)
  is_chosen least small = record { from = chosen_from; below = chosen_below; most_even = even_all least small }

-- the digits without the zeros at their end are the code
pub code_is : {p : Place} {V : ℕ} {code D : List ℕ} (s z : ℕ) → IsWhole code → IsChosen p V → D ≡ code ++ replicate z 0 →
    (number D ≡ V * 2 ^ s) × (8 * length D ≡ (p.doublings + s) + 16) → IsCode p code
code_is {p} {V} {code} {D} s z whole chosen e l =
    let a : number D ≡ number code * 256 ^ z = ap number e
    ∙ (number-append code (replicate z 0) ∙ (ap (λ k. number code * 256 ^ k + number (replicate z 0)) (length-replicate {A = ℕ} z 0) ∙ (let w = number-null z in omega (arith, w)))) in
    let b = ap length e ∙ (length-append code (replicate z 0) ∙ ap (λ k. length code + k) (length-replicate {A = ℕ} z 0)) in
    let c = ap (λ k. 256 ^ k) b ∙ pow-add 256 (length code) z in
    let f : 256 ^ length D ≡ 2 ^ (16 + p.doublings) * 2 ^ s = pow-256 (length D) ∙ power_at (16 + p.doublings) s (8 * length D) (omega (arith, l.1)) in
    let h = ap (λ k. k * 2 ^ (16 + p.doublings)) l.0 in
    let i = ap (λ k. k * 2 ^ (16 + p.doublings)) a in
    let j = ap (λ k. V * k) (sym c ∙ f) in
    let g : (number code * 2 ^ (16 + p.doublings)) * 256 ^ z ≡ (V * 256 ^ length code) * 256 ^ z = omega arith in
    record {
      bytes = whole.bytes;
      trimmed = whole.trimmed;
      value = (V, chosen, eq_of_mul-eq-mul_right (256 ^ z) (one-le-pow z 256 (omega arith)) (number code * 2 ^ (16 + p.doublings)) (V * 256 ^ length code) g);
    }

-- the bytes that end a code
pub record Ended (p : Place) (pushed more : List ℕ) : Type 0 where
  pub code : List ℕ
  pub is : IsCode p code
  pub all : pushed ++ more ≡ stuffed code

pub stuffed_all : {pushed : List ℕ} (front a b c d : List ℕ) → pushed ≡ stuffed front → pushed ++ (stuffed (a ++ b) ++ stuffed (c ++ d)) ≡ stuffed ((((front ++ a) ++ b) ++ c) ++ d)
stuffed_all front a b c d is =
    let e : (((front ++ a) ++ b) ++ c) ++ d ≡ front ++ ((a ++ b) ++ (c ++ d)) = simp append_assoc in
    rw (is, e) (sym (stuffed-append front ((a ++ b) ++ (c ++ d)) ∙ ap (λ l. stuffed front ++ l) (stuffed-append (a ++ b) (c ++ d))))

pub stuffed_rest : {pushed : List ℕ} (front a : List ℕ) → pushed ≡ stuffed front → pushed ++ stuffed (a ++ []) ≡ stuffed (front ++ a)
stuffed_rest front a is = rw (is, append-nil) (sym (stuffed-append front a))

pub rest_zeros : (x rest tail : List ℕ) (z : ℕ) → rest ++ run_bytes z None 0 ≡ tail → x ++ tail ≡ (x ++ rest) ++ replicate z 0
rest_zeros x rest tail z e = rw (sym e) (simp (append_assoc, append-nil))

pub shifted_whole : (low : ℕ) → low < 2 ^ 23 → (low * 256) % 2 ^ 64 ≡ low * 256
shifted_whole low h = mod-eq_of_lt (omega arith)

pub digits_low : {a b span bits : ℕ} {p : Place} {D : List ℕ} → a ≡ b → Digits b span bits p D → Digits a span bits p D
digits_low e d = rw e d

-- ---- the low end 0 is the chosen number

-- it is a multiple of every power
pub zero_chosen : (span : ℕ) → 1 ≤ span → IsChosen (record { low = 0; size = span; doublings = 0 }) 0
zero_chosen span some = record { from = omega arith; below = omega arith; most_even = λ t w from below. (0, omega arith) }

-- three bytes 0 after the digits
three_zeros : (D : List ℕ) (bits n : ℕ) → bits ≤ 24 → 8 * length D + bits ≡ 16 + n →
    (number (D ++ replicate 3 0) ≡ (number D * 2 ^ bits + 0) * 2 ^ (24 - bits)) × (8 * length (D ++ replicate 3 0) ≡ (n + (24 - bits)) + 16)
three_zeros D bits n most count =
    let a : 2 ^ bits * 2 ^ (24 - bits) ≡ 2 ^ 24 = sym (power_at bits (24 - bits) 24 (omega arith)) in
    let b = ap (λ k. number D * k) a in
    let e = number-append D (replicate 3 0) in
    let l = length-append D (replicate 3 0) in
    (omega (arith, e), omega (arith, l, count))

-- so the bytes before them, without zeros at their end, are the code
pub zero_code : {span bits : ℕ} {p : Place} {code D : List ℕ} (z : ℕ) → IsWhole code → D ≡ code ++ replicate z 0 →
    1 ≤ span → 16 ≤ bits → bits ≤ 24 → p.size ≤ 0x10000 → Digits 0 span bits p D → IsCode p code
zero_code {span} {bits} {p} {code} {D} z whole e some least most small d =
    let longer : D ++ replicate 3 0 ≡ code ++ replicate (z + 3) 0 =
    rw (e, append_assoc, replicate-append-replicate) refl in
    code_is (24 - bits) (z + 3) whole (is_chosen 0 d refl (zero_chosen span some) least small) longer (three_zeros D bits p.doublings most d.count)
