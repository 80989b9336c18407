use Rattle.t85_core.proofs.StreamsDenote.ExamplesHold.{worked_heights, worked_lines}
use Rattle.t85_core.proofs.laws.worked_heights.Goals as goal

pub returns-clause-heights : goal.returns-clause-heights
returns-clause-heights c = worked_heights

pub returns-clause-lines : goal.returns-clause-lines
returns-clause-lines c = worked_lines
