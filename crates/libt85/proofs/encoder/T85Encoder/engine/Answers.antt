use Rattle.std.proofs.Common.{rules}
use Rattle.libt85.proofs.EncoderIsCalled.{idle_none}
use Rattle.libt85.proofs.encoder.T85Encoder.engine.Goals as goal

pub returns-in-None : goal.returns-in-None
returns-in-None c = idle_none c.in-None.ensures (search rules) (search rules)
