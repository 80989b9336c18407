use Rattle.std.proofs.Common.{cond, ◌≡◌, ◌+◌, ◌*◌, ◌∙◌, ap, Bool, true, false, arith, ℕ}
use mir.Val.{bool_byte}
use Rattle.t85_core.proofs.options.Options.written.Goals as goal

byte_added : (o : ℕ) (t : Bool) → o + 32 * bool_byte t ≡ cond t (o + 32) o
byte_added o true = omega arith
byte_added o false = omega arith

pub returns-clause-is : goal.returns-clause-is
returns-clause-is c =
    let e = c.from.ensures in
    let b = ap (λ t. cond t (c.args.self.now.options + 32) c.args.self.now.options) c.adds_bit.ensures in
    let a = byte_added c.args.self.now.options c.adds_bit.result in
    ap (λ n. c.args.self.now.options + 32 * n) e ∙ a ∙ b
