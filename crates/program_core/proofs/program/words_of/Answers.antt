use Rattle.std.proofs.Common.{inr, subst, sym}
use Rattle.std.specs.Iterator.{Drains}
use Rattle.std.specs.Vec.Iter.{into_iter_steps}
use Rattle.program_core.proofs.program.words_of.Goals as goal

pub returns-in-Err-clause-status : goal.returns-in-Err-clause-status
returns-in-Err-clause-status c = inr c.complain.ensures

pub returns-in-Ok-collect-clause-all : goal.returns-in-Ok-collect-clause-all
returns-in-Ok-collect-clause-all c =
    let ran = c.in-Ok-collect.ensures.ran in
    let last = ran.1.2 tt in
    rw c.in-Ok.is (subst (Drains into_iter_steps c.in-Ok.words) (sym ran.2.0) (last.0, (ran.1.0, ran.1.1, last.1)))
