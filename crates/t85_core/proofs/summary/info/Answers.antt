use Rattle.t85_core.specs.Info.{Info}
use Rattle.t85_core.proofs.StreamsAreWalked.InfoEnds.{exit_all, told_none, told_line}
use Rattle.t85_core.proofs.summary.info.Goals as goal

pub returns-in_err-found-clause-outcome : goal.returns-in_err-found-clause-outcome
returns-in_err-found-clause-outcome g c =
    exit_all (Info _ _ _) c.from_residual.result c.from_residual.ensures.1 (told_none _ _ _ _ c.in_err-found.ensures)

pub returns-clause-outcome : goal.returns-clause-outcome
returns-clause-outcome g c =
    told_line c.put.result c.in_ok-found.ensures c.line_of.ensures c.put.ensures.ok c.put.ensures.err c.put.ensures.cut c.put.ensures.flushed
    c.put.ensures.counts
