use Rattle.libt85.proofs.EncoderIsCalled.{sent_is_front}
use Rattle.libt85.proofs.laws.sent_rows.Goals as goal

pub returns : goal.returns
returns c = sent_is_front c.fronts.ensures
