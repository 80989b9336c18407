-- The effect on the registers of a shift by the leading zeros.
use Rattle.std.proofs.Common.{◌≡◌, ℕ, suc, ◌+◌, ◌-◌, ◌*◌, ◌%◌, ◌^◌, ◌<◌, ◌≤◌, List, arith, ap, ◌∙◌, sym, inl, inr}
use Rattle.std.specs.Int.Count.{count_leading_zeros}
use Rattle.std.proofs.lemmas.Nat.{pow_pos, leading_top}
use Rattle.std.proofs.lemmas.Bool.{cases_lt}
use Rattle.std.proofs.Math.Nat.{mul_assoc, mul-le-mul_right, mul-lt-mul_of_pos_right, mod-eq_of_lt, pow-le-pow_right, add-mul}
use Rattle.qm_core.specs.Place.{Place, renormalised}
use Rattle.qm_core.specs.Code.{number}
use Rattle.qm_core.specs.Machine.{Registers, IsTooSmall}
use Rattle.qm_core.proofs.ShiftDoubles.{renormalised-is}
use Rattle.qm_core.proofs.MultiplesShift.{power_at, unit_shifted}

-- how far a span is shifted to have its highest bit at 2^22
pub record Shift (span t : ℕ) : Type 0 where
  pub few : 9 ≤ count_leading_zeros 32 span
  pub is : count_leading_zeros 32 span - 9 ≡ t
  pub most : t ≤ 15
  pub some : 1 ≤ t
  pub from : 0x40_0000 ≤ span * 2 ^ t
  pub below : span * 2 ^ t < 0x80_0000

at_most : (i j : ℕ) → 2 ^ i < 2 ^ j → i < j
at_most i j h = elim (cases_lt i j) [ inl l ↦ l | inr g ↦ absurd (let m : 2 ^ j ≤ 2 ^ i = pow-le-pow_right (omega arith) g in omega arith) ]

shift_at : (span j : ℕ) → count_leading_zeros 32 span + suc j ≡ 32 → 2 ^ j ≤ span → span < 2 ^ suc j → 128 ≤ span → span < 0x40_0000 → Shift span (22 - j)
shift_at span j e lo hi l s =
    let j_high : j < 22 = at_most j 22 (omega arith) in
    let j_low : 7 < suc j = at_most 7 (suc j) (omega arith) in
    let a : 2 ^ j * 2 ^ (22 - j) ≡ 2 ^ 22 = sym (power_at j (22 - j) 22 (omega arith)) in
    let b : 2 ^ suc j * 2 ^ (22 - j) ≡ 2 ^ 23 = sym (power_at (suc j) (22 - j) 23 (omega arith)) in
    let p = mul-le-mul_right (2 ^ (22 - j)) lo in
    let q = mul-lt-mul_of_pos_right hi (pow_pos (22 - j)) in
    record { few = omega arith; is = omega arith; most = omega arith; some = omega arith; from = omega arith; below = omega arith }

-- the number of doublings
abbrev pub shift_by : ℕ → ℕ
shift_by span = count_leading_zeros 32 span - 9

pub shift_of : (span : ℕ) → IsTooSmall span → Shift span (shift_by span)
shift_of span short =
    let few = short.0 in
    let many = short.1 in
    let top = leading_top 32 span (omega arith) (omega arith) in
    let r = shift_at span top.0 top.1 top.2 top.3 few many in
    rw r.is r

-- the shifted registers, for a unit u of the code
pub code_room : (code u span w : ℕ) → code + u ≤ span → code * w + u * w ≤ span * w
code_room code u span w h = let m : (code + u) * w ≤ span * w = mul-le-mul_right w h in omega (arith, add-mul code u w)

spread : (code low w : ℕ) → code * w + 128 * (low * w) ≡ (code + 128 * low) * w
spread code low w = omega (arith, add-mul code (128 * low) w, mul_assoc 128 low w)

pub registers_shifted : {code span bits t : ℕ} {p : Place} {b : List ℕ} → Shift span t → t ≤ bits → bits ≤ 23 → Registers code span bits p b →
    Registers (code * 2 ^ t) (span * 2 ^ t) (bits - t) (renormalised p) b
registers_shifted {code} {span} {bits} {t} {p} {b} s enough few r =
    let sz = ap (λ n. n * 2 ^ t) r.size ∙ mul_assoc 128 p.size (2 ^ t) in
    let is = renormalised-is t p (omega (arith, s.most)) (omega (arith, s.from)) (λ _. omega (arith, s.below)) in
    let v : code * 2 ^ t + 128 * (p.low * 2 ^ t) ≡ number b * 2 ^ (23 - (bits - t)) =
    spread code p.low (2 ^ t) ∙ (ap (λ n. n * 2 ^ t) r.value ∙ (mul_assoc (number b) (2 ^ (23 - bits)) (2 ^ t) ∙ ap (λ n. number b * n) (sym (unit_shifted bits t enough few)))) in
    rw is (record { size = sz; count = omega (arith, r.count); value = v })

-- no bit is lost by the shift
pub span_whole : (span : ℕ) → IsTooSmall span → (span * 2 ^ shift_by span) % 2 ^ 32 ≡ span * 2 ^ shift_by span
span_whole span short = let s = shift_of span short in mod-eq_of_lt (omega arith)

pub code_whole : (code u span : ℕ) → IsTooSmall span → code + u ≤ span → (code * 2 ^ shift_by span) % 2 ^ 32 ≡ code * 2 ^ shift_by span
code_whole code u span short room =
    let s = shift_of span short in
    let m = code_room code u span (2 ^ shift_by span) room in
    mod-eq_of_lt (omega arith)
