use Rattle.std.proofs.Common.{◌++◌, ap, ◌∙◌}
use Rattle.raster_core.proofs.decode.decode_at.Goals as goal

pub returns-clause-row : goal.returns-clause-row
returns-clause-row g c = λ s answers lines h.
    let cut = c.split_at_mut-front.ensures.value ∙ ap (λ l. c.split_at_mut-front.result.0.now ++ l) c.split_at_mut-row.ensures.value in
    c.decode_beside.ensures.row s answers lines (rw (← cut) h)
