-- A byte put after the bits of the registers.
use Rattle.std.proofs.Common.{◌≡◌, ℕ, ◌+◌, ◌-◌, ◌*◌, ◌/◌, ◌%◌, ◌^◌, ◌<◌, ◌≤◌, List, [], ◌∷◌, ◌++◌, arith, refl, ap, length-append}
use Rattle.std.proofs.lemmas.Nat.{pow_pos, pow-add}
use Rattle.std.proofs.lemmas.Int.Digits.{number_push}
use Rattle.std.proofs.Math.Nat.{mod-eq_of_lt, mul-le-mul_right, pow-le-pow_right}
use Rattle.qm_core.specs.Place.{Place}
use Rattle.qm_core.specs.Code.{number}
use Rattle.qm_core.specs.Machine.{Registers}
use Rattle.qm_core.proofs.MultiplesShift.{times, multiple_mod}

pub unit_split : (bits : ℕ) → bits < 16 → 2 ^ (23 - bits) ≡ 256 * 2 ^ (15 - bits)
unit_split bits h = let e : 23 - bits ≡ 8 + (15 - bits) = omega arith in rw e (pow-add 2 8 (15 - bits))

pub unit_next : (bits : ℕ) → bits < 16 → 2 ^ (23 - (bits + 8)) ≡ 2 ^ (15 - bits)
unit_next bits h = let e : 23 - (bits + 8) ≡ 15 - bits = omega arith in rw e refl

pub byte_below : (byte bits : ℕ) → byte < 256 → byte * 2 ^ (15 - bits) + 2 ^ (15 - bits) ≤ 256 * 2 ^ (15 - bits)
byte_below byte bits h =
    let m : (byte + 1) * 2 ^ (15 - bits) ≤ 256 * 2 ^ (15 - bits) = mul-le-mul_right (2 ^ (15 - bits)) (omega arith) in
    omega arith

pub byte_whole : (byte bits : ℕ) → byte < 256 → (byte * 2 ^ (15 - bits)) % 2 ^ 32 ≡ byte * 2 ^ (15 - bits)
byte_whole byte bits h =
    let m = byte_below byte bits h in
    let k : 15 - bits ≤ 15 = omega arith in
    let two : 0 < 2 = omega arith in
    let n = pow-le-pow_right two k in
    mod-eq_of_lt (omega arith)

pub take_room : (code span byte bits : ℕ) → bits < 16 → byte < 256 → code + 2 ^ (23 - bits) ≤ span → (code + byte * 2 ^ (15 - bits)) + 2 ^ (23 - (bits + 8)) ≤ span
take_room code span byte bits few small room = rw (unit_next bits few) (omega (arith, unit_split bits few, byte_below byte bits small))

pub take_aligned : (code byte bits : ℕ) → bits < 16 → code % 2 ^ (23 - bits) ≡ 0 → (code + byte * 2 ^ (15 - bits)) % 2 ^ (23 - (bits + 8)) ≡ 0
take_aligned code byte bits few h =
    let e = times code (2 ^ (23 - bits)) h (pow_pos (23 - bits)) in
    let f = ap (λ n. (code / 2 ^ (23 - bits)) * n) (unit_split bits few) in
    rw (unit_next bits few) (multiple_mod (code + byte * 2 ^ (15 - bits)) ((code / 2 ^ (23 - bits)) * 256 + byte) (2 ^ (15 - bits)) (pow_pos (15 - bits)) (omega arith))

pub take_registers : {code span bits : ℕ} {p : Place} {b : List ℕ} (byte : ℕ) → bits < 16 → Registers code span bits p b → Registers (code + byte * 2 ^ (15 - bits)) span (bits + 8) p (b ++ byte ∷ [])
take_registers {code} {bits = bits} {p} {b} byte few r =
    let l = length-append b (byte ∷ []) in
    let n = number_push 256 b byte in
    let u = ap (λ k. number b * k) (unit_split bits few) in
    let v = r.value in
    record { size = r.size; count = rw l (omega (arith, r.count)); value = rw (n, unit_next bits few) (omega arith) }
