use Rattle.qm_core.proofs.AnswersFixBytes.{Stands-Lies, bytes_of-append, length-bytes_of}
use Rattle.qm_core.proofs.laws.answers.Goals as goal

pub returns-clause-answers_lie : goal.returns-clause-answers_lie
returns-clause-answers_lie c = λ d p answers code. Stands-Lies

pub returns-clause-bytes_append : goal.returns-clause-bytes_append
returns-clause-bytes_append c = bytes_of-append

pub returns-clause-answers_are_bytes : goal.returns-clause-answers_are_bytes
returns-clause-answers_are_bytes c = length-bytes_of
