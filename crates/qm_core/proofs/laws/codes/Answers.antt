use Rattle.std.proofs.Common.{sym}
use Rattle.qm_core.proofs.FunctionGivesCode.{chosen-IsChosen, code_of-IsCode}
use Rattle.qm_core.proofs.CodeIsUnique.{chosen_is, code_is}
use Rattle.qm_core.proofs.NoCodeIsShorter.{code-Lies}
use Rattle.qm_core.proofs.FrontBeginsCode.{front_begins}
use Rattle.qm_core.proofs.laws.codes.Goals as goal

pub returns-clause-one_chosen : goal.returns-clause-one_chosen
returns-clause-one_chosen c = λ p h. record { is = chosen-IsChosen p h; only = λ v is. sym (chosen_is p v h is) }

pub returns-clause-one_code : goal.returns-clause-one_code
returns-clause-one_code c = λ p h. record { is = code_of-IsCode p h; only = λ b is. code_is p b h is }

pub returns-clause-code_lies : goal.returns-clause-code_lies
returns-clause-code_lies c = code-Lies

pub returns-clause-front_begins : goal.returns-clause-front_begins
returns-clause-front_begins c = front_begins
