use Rattle.t85_core.proofs.StreamsDenote.StreamLengthIsBounded.{stream_is_short}
use Rattle.t85_core.proofs.laws.lengths.Goals as goal

pub returns : goal.returns
returns c = stream_is_short c.lengths.ensures.events_double c.lengths.ensures.code_is_short
