use Rattle.std.proofs.Common.{◌≡◌, Some, None, ap, sym, ◌∙◌}
use Rattle.t85_core.specs.declared.pieces.phase.Phase.TheVariants as phase
use Rattle.t85_core.proofs.BodiesDecode.NumbersFixDecoder.{some_is}
use Rattle.t85_core.proofs.pieces.numbers.PieceNumbers.phase_in.Goals as goal

pub returns-in_err-head-in-1-clause-behind : goal.returns-in_err-head-in-1-clause-behind
returns-in_err-head-in-1-clause-behind c = λ head _ k. absurd (let some : None ≡ Some head = sym c.in_err-head-in-1.was ∙ c.head.ensures.all head k in let bot : ⊥ = cc in bot)

pub returns-in_ok-head-in-1-clause-behind : goal.returns-in_ok-head-in-1-clause-behind
returns-in_ok-head-in-1-clause-behind c = λ head _ k. ap (λ h. Some (phase.Behind (record { code = c.args.code; head = h }))) (some_is (c.in_ok-head-in-1.ensures.all head k))
