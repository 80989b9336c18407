use Rattle.std.proofs.Common.{refl}
use Rattle.raster_core.proofs.ChoiceCountsRows.{none_counted}
use Rattle.raster_core.proofs.choice.Choice.new.Goals as goal

pub returns-clause-counted : goal.returns-clause-counted
returns-clause-counted c = none_counted _ refl refl
