-- The effect of doubling on an encoder's registers.
use Rattle.std.proofs.Common.{◌≡◌, ℕ, ◌+◌, ◌*◌, ◌%◌, ◌^◌, ◌<◌, ◌≤◌, List, arith, ap, ◌∙◌, sym}
use Rattle.std.proofs.lemmas.Nat.{pow-add}
use Rattle.std.proofs.Math.Nat.{mul_assoc, mod-eq_of_lt, pow-le-pow_right}
use Rattle.qm_core.specs.Place.{Place, renormalised}
use Rattle.qm_core.specs.Code.{number}
use Rattle.qm_core.specs.Machine.{Digits, IsTooSmall}
use Rattle.qm_core.proofs.ShiftDoubles.{renormalised-is}
use Rattle.qm_core.proofs.RegistersShift.{Shift, shift_by, shift_of, code_room}

power_shifted : (bits t k : ℕ) → 2 ^ (bits + k) * 2 ^ t ≡ 2 ^ ((bits + t) + k)
power_shifted bits t k = let e : (bits + t) + k ≡ (bits + k) + t = omega arith in rw e (sym (pow-add 2 (bits + k) t))

pub room_shifted : (low span bits t k : ℕ) → low + span ≤ 2 ^ (bits + k) → low * 2 ^ t + span * 2 ^ t ≤ 2 ^ ((bits + t) + k)
room_shifted low span bits t k h = rw (sym (power_shifted bits t k)) (code_room low span (2 ^ (bits + k)) (2 ^ t) h)

pub low_whole : (low span bits : ℕ) → IsTooSmall span → bits ≤ 39 → low + span ≤ 2 ^ (bits + 8) → (low * 2 ^ shift_by span) % 2 ^ 64 ≡ low * 2 ^ shift_by span
low_whole low span bits short b room =
    let s = shift_of span short in
    let m = room_shifted low span bits (shift_by span) 8 room in
    let two : 0 < 2 = omega arith in
    let e : (bits + shift_by span) + 8 ≤ 62 = omega (arith, s.most) in
    let n = pow-le-pow_right two e in
    mod-eq_of_lt (omega arith)

pub digits_shifted : {low span bits t : ℕ} {p : Place} {b : List ℕ} → Shift span t → Digits low span bits p b → Digits (low * 2 ^ t) (span * 2 ^ t) (bits + t) (renormalised p) b
digits_shifted {low} {span} {bits} {t} {p} {b} s d =
    let sz = ap (λ n. n * 2 ^ t) d.size ∙ mul_assoc 128 p.size (2 ^ t) in
    let is = renormalised-is t p (omega (arith, s.most)) (omega (arith, s.from)) (λ _. omega (arith, s.below)) in
    let w = power_shifted bits t 7 in
    let v = ap (λ n. n * 2 ^ t) d.value in
    let u = ap (λ n. number b * n) w in
    rw is (record { size = sz; count = omega (arith, d.count); value = omega arith })
