use Rattle.std.proofs.Common.{arith}
use Rattle.t85_core.proofs.ImagesEncode.FewBytesAreAppended.{beginning_few}
use Rattle.t85_core.proofs.encoding.steps.move_pixel.Goals as goal

pub returns-in_err-write_move-in-Some-clause-few : goal.returns-in_err-write_move-in-Some-clause-few
returns-in_err-write_move-in-Some-clause-few g c = beginning_few 8 (omega arith) c.in_err-write_move-in-Some.ensures.cut
