use Rattle.t85_core.proofs.ImagesEncode.CallsHoldNothing.{stands_elsewhere}
use Rattle.t85_core.proofs.laws.elsewhere.Goals as goal

pub returns : goal.returns
returns c = stands_elsewhere
