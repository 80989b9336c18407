use Rattle.std.proofs.Common.{refl, ◌∙◌}
use Rattle.raster_core.proofs.RegistersGiveContexts.{three_line_nominal, two_line_nominal}
use Rattle.raster_core.proofs.OffsetIsTested.{set_is, clear_is}
use Rattle.raster_core.proofs.context.nominal_context.Goals as goal
use Rattle.raster_core.proofs.context.nominal_context.Goals.{then-this-ne0, else-this-ne0}

pub returns : goal.returns
returns g c = λ typical lines x r.
    elim c.if-this-ne0.branch [
      | then-this-ne0 w ↦ c.of.ensures ∙ (w.number-is ∙ rw (set_is w.if-this-ne0.true refl) (two_line_nominal r))
      | else-this-ne0 w ↦ c.of.ensures ∙ (w.number-is ∙ rw (clear_is w.if-this-ne0.false refl) (three_line_nominal r))
    ]
