use Rattle.std.proofs.Common.{refl}
use Rattle.raster_core.proofs.TallyChoosesLag.{none_counted}
use Rattle.raster_core.proofs.tally.Tally.new.Goals as goal

pub returns-clause-counts : goal.returns-clause-counts
returns-clause-counts c width current = none_counted _ width current refl refl refl refl c.none.ensures
