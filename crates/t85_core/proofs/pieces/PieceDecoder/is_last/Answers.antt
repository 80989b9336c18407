use Rattle.std.proofs.Common.{nat_le, sym}
use Rattle.t85_core.specs.Stages.{code_kind}
use Rattle.t85_core.proofs.BodiesDecode.WalkGoesOn.{in_code_of}
use Rattle.t85_core.proofs.BodiesDecode.PieceStands.{in_code_last}
use Rattle.t85_core.proofs.pieces.PieceDecoder.is_last.Goals as goal

pub returns : goal.returns
returns c = λ behind. sym (in_code_last (code_kind behind.code.begun) (nat_le c.args.self.now.course.left c.args.self.now.image.header.l0) (in_code_of behind.code.begun))
