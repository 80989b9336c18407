use Rattle.qm_core.proofs.WritesJoin.{Took-append}
use Rattle.qm_core.proofs.laws.pushes_join.Goals as goal

pub returns : goal.returns
returns g c = Took-append g.W.CodeSink.took
