use Rattle.t85_core.proofs.BodiesParse.BodyHasOneHeight.{whole_or_broken_at}
use Rattle.t85_core.proofs.BodiesParse.BodyParsesOrBreaks.{parsed}
use Rattle.t85_core.proofs.StreamsDenote.BodyFixesRows.{some_fixed_at, one_fixed_at}
use Rattle.t85_core.proofs.laws.faults.Goals as goal

pub returns-clause-whole_or_broken : goal.returns-clause-whole_or_broken
returns-clause-whole_or_broken c = λ h n body fault u p b. whole_or_broken_at h n body fault u p b

pub returns-clause-parts_or_fault : goal.returns-clause-parts_or_fault
returns-clause-parts_or_fault c = λ h n body all. parsed h n body all

pub returns-clause-some_fixed : goal.returns-clause-some_fixed
returns-clause-some_fixed c = λ h n body fault u b. some_fixed_at c.coder_laws.ensures u.accepted b

pub returns-clause-one_fixed : goal.returns-clause-one_fixed
returns-clause-one_fixed c = λ h n body f g rows others u p q. one_fixed_at c.coder_laws.ensures u p q
