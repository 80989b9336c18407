use Rattle.raster_core.proofs.TablesFillLanes.{far_says}
use Rattle.raster_core.proofs.lanes.far_lanes.Goals as goal

pub returns-clause-lanes : goal.returns-clause-lanes
returns-clause-lanes c = (far_says c.args.window c.requires).lanes
