use Rattle.std.proofs.Common.{Some, ap, refl}
use Rattle.t85_core.proofs.BodiesDecode.NumbersFixDecoder.{some_move}
use Rattle.t85_core.proofs.pieces.numbers.MoveNumbers.at.Goals as goal

pub returns-clause-all : goal.returns-clause-all
returns-clause-all c = λ at k. ap Some (some_move c.args.self.now _ at c.if-self-eq0.false refl refl k)
