use Rattle.libt85.proofs.EncoderIsCalled.{idle_refuses}
use Rattle.libt85.proofs.encoder.T85Encoder.judge_name.Goals as goal

pub returns-in-Err-clause-ready : goal.returns-in-Err-clause-ready
returns-in-Err-clause-ready c = idle_refuses c.in-Err.ensures
