use Rattle.std.proofs.Common.{ap, rules, Some, arith, ℕ, ◌+◌, ◌-◌, ◌*◌, ◌%◌, ◌^◌, ◌≤◌, ◌<◌}
use Rattle.std.proofs.Math.Nat.{pow-le-pow_right}
use Rattle.qm_core.proofs.NumbersFixEncoder.{one_encoder, whole_low, stands}
use Rattle.qm_core.proofs.encoder.Encoder.from_registers.Goals as goal
use Rattle.qm_core.proofs.encoder.Encoder.from_registers.Goals.{then-bits-lt16-via-then-bits-lt16, then-bits-lt16-via-else-bits-lt16+then-bits-gt39, then-bits-lt16-via-else-bits-lt16+else-bits-gt39+then-low-ne0}

pub returns-then-bits-lt16-clause-same : goal.returns-then-bits-lt16-clause-same
returns-then-bits-lt16-clause-same c e p pushed at going is =
    let low = ap (λ r. r.low) is in
    let bits = ap (λ r. r.bits) is in
    let whole = whole_low e p pushed at in
    let least = e.least in
    let most = e.most in
    elim c.then-bits-lt16.branch [
      | then-bits-lt16-via-then-bits-lt16 w ↦ absurd (omega arith)
      | then-bits-lt16-via-else-bits-lt16+then-bits-gt39 w ↦ absurd (omega arith)
      | then-bits-lt16-via-else-bits-lt16+else-bits-gt39+then-low-ne0 w ↦ absurd (omega arith)
    ]

room_of : (low span bits byte : ℕ) → byte ≤ 1 → low ≤ (1 * 2 ^ (bits + 7 + byte)) % 18446744073709551616 → span ≤ (1 * 2 ^ (bits + 7 + byte)) % 18446744073709551616 - low → low + span ≤ 2 ^ (bits + 8)
room_of low span bits byte small below left =
    let two : 0 < 2 = omega arith in
    let e : bits + 7 + byte ≤ bits + 8 = omega arith in
    let m = pow-le-pow_right two e in
    omega (arith, m)

pub invariant_of-result-2-clause-room : goal.invariant_of-result-2-clause-room
invariant_of-result-2-clause-room c =
    let small : c.from.result ≤ 1 = search rules in
    room_of c.args.registers.low c.args.registers.span c.args.registers.bits c.from.result small c.if-low-end.false (search rules)

pub returns-clause-same : goal.returns-clause-same
returns-clause-same c e p pushed at going is = ap Some (one_encoder _ e (search rules) going (search rules))

pub returns-clause-stands : goal.returns-clause-stands
returns-clause-stands c = stands _ (search rules)
