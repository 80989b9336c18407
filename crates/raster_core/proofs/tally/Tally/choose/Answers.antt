use Rattle.std.proofs.Common.{◌∙◌, sym}
use Rattle.raster_core.proofs.BestIsFound.{some_if}
use Rattle.raster_core.proofs.TallyChoosesLag.{chosen_by}
use Rattle.raster_core.proofs.tally.Tally.choose.Goals as goal

pub returns-clause-chosen : goal.returns-clause-chosen
returns-clause-chosen c width rows k =
    rw (c.then_some.ensures, c.saturating_sub-gain.ensures, c.at.ensures)
    (some_if _ _ ∙ sym (chosen_by _ width c.args.offset rows _ k c.in_ok-best.ensures.low c.in_ok-best.ensures.reach (sym (c.in_ok-best.ensures.best width c.args.offset rows k))))
