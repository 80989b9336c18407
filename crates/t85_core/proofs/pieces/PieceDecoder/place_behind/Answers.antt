use Rattle.std.proofs.Common.{◌∙◌, ap, sym}
use Rattle.t85_core.specs.Stages.{code_kind}
use Rattle.t85_core.specs.States.PieceStands.{place_at}
use Rattle.t85_core.proofs.BodiesDecode.WalkGoesOn.{in_code_of}
use Rattle.t85_core.proofs.BodiesDecode.PieceStands.{in_code_entities}
use Rattle.t85_core.proofs.pieces.PieceDecoder.place_behind.Goals as goal

pub returns : goal.returns
returns c = λ behind. c.place_of.ensures ∙ ap (place_at c.args.self.now.image.header.yd)
    (sym (in_code_entities (code_kind behind.code.begun) c.args.self.now.course.entities (in_code_of behind.code.begun)))
