use Rattle.std.proofs.Common.{◌∙◌}
use Rattle.raster_core.proofs.TablesFillLanes.{first_around_is}
use Rattle.raster_core.proofs.lanes.first_around.Goals as goal

pub returns : goal.returns
returns c = λ j few. c.both_lanes.ensures.lanes j few ∙ first_around_is c.args.second_bytes c.args.above_bytes j few
