use Rattle.t85_core.proofs.BodiesParse.StreamHasOneReading as unique
use Rattle.t85_core.proofs.laws.lines.Goals as goal

pub returns-clause-one_line : goal.returns-clause-one_line
returns-clause-one_line c = λ bytes x y p q. unique.one_line p q

pub returns-clause-line_or_fault : goal.returns-clause-line_or_fault
returns-clause-line_or_fault c = λ bytes text f p q. unique.line_or_fault f p q

pub returns-clause-one_fault : goal.returns-clause-one_fault
returns-clause-one_fault c = λ bytes f g p q. unique.one_fault bytes f g p q
