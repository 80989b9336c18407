use Rattle.qm_core.proofs.FewBytesWait.{few_pushed, few_in_front, few_to_end}
use Rattle.qm_core.proofs.laws.bytes_to_come.Goals as goal

pub returns-clause-few_pushed : goal.returns-clause-few_pushed
returns-clause-few_pushed c = few_pushed

pub returns-clause-few_in_front : goal.returns-clause-few_in_front
returns-clause-few_in_front c = few_in_front

pub returns-clause-few_to_end : goal.returns-clause-few_to_end
returns-clause-few_to_end c = few_to_end
