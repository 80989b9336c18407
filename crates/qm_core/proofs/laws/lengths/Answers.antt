use Rattle.qm_core.proofs.LengthsAreBounded.{events_double, code_is_short}
use Rattle.qm_core.proofs.laws.lengths.Goals as goal

pub returns-clause-events_double : goal.returns-clause-events_double
returns-clause-events_double c = events_double

pub returns-clause-code_is_short : goal.returns-clause-code_is_short
returns-clause-code_is_short c = code_is_short
