use Rattle.std.proofs.Common.{ap, subst}
use Rattle.raster_core.specs.Window.{held}
use Rattle.t85_core.specs.Options.{fields_of}
use Rattle.t85_core.specs.Lent.{stage_view}
use Rattle.t85_core.specs.Stages.{code_kind}
use Rattle.t85_core.specs.States.Pieces.{WalkStands}
use Rattle.t85_core.specs.States.SizedImage.{sized}
use Rattle.t85_core.proofs.pieces.walk.Walk.repeat_rows.Goals as goal

pub returns-in-Code-clause-on : goal.returns-in-Code-clause-on
returns-in-Code-clause-on c = λ text out w.
    c.repeat.ensures.on text out
    (subst (λ z. WalkStands (sized (fields_of c.args.image.now.header) c.args.image.now.height)
    (stage_view c.args.self.now.course z (held c.args.lent.now.window.now) c.args.lent.now.learned.now) text out) c.in-Code.is w)

pub returns-in-Code-clause-code : goal.returns-in-Code-clause-code
returns-in-Code-clause-code c = λ some. ap code_kind (c.repeat.ensures.begun some)
