use Rattle.std.proofs.Common.{arith}
use Rattle.raster_core.proofs.TablesFillLanes.{sum_is}
use Rattle.raster_core.proofs.lanes.both_lanes.Goals as goal

pub returns-clause-lanes : goal.returns-clause-lanes
returns-clause-lanes c = λ j few.
    sum_is _ _ _ _ j few (λ i l. c.second_lanes.ensures.lanes i l) (λ i l. c.above_lanes.ensures.lanes i l) (λ i l. omega arith)
