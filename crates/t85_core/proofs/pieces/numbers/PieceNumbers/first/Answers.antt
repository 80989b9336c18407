use Rattle.std.proofs.Common.{◌≡◌, Some, None, ap, sym, ◌∙◌}
use Rattle.t85_core.specs.declared.pieces.phase.Phase.TheVariants as phase
use Rattle.t85_core.proofs.BodiesDecode.NumbersFixDecoder.{some_is}
use Rattle.t85_core.proofs.pieces.numbers.PieceNumbers.first.Goals as goal

pub returns-in_err-head-clause-all : goal.returns-in_err-head-clause-all
returns-in_err-head-clause-all c = λ other _ _ k. absurd (let some : None ≡ Some other = sym c.in_err-head.was ∙ c.head.ensures.all other k in let bot : ⊥ = cc in bot)

pub returns-clause-all : goal.returns-clause-all
returns-clause-all c = λ other _ _ k. ap (λ h. Some (phase.First h)) (some_is (c.in_ok-head.ensures.all other k))
