use Rattle.raster_core.proofs.OffsetIsTested.{clear_is, nominal_none}
use Rattle.raster_core.proofs.context.context_of.Goals as goal

pub returns-else-this-ne0 : goal.returns-else-this-ne0
returns-else-this-ne0 g c = λ typical lines x r.
    let e = nominal_none c.args.offset (clear_is c.if-this-ne0.false c.requires.moved) in
    rw e (c.nominal_context.ensures typical lines x (rw (← e) r))
