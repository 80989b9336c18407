use Rattle.raster_core.proofs.TablesFillLanes.{moved_above_says}
use Rattle.raster_core.proofs.lanes.moved_above_lanes.Goals as goal

pub returns-clause-lanes : goal.returns-clause-lanes
returns-clause-lanes c = (moved_above_says c.args.window c.requires).lanes

pub returns-clause-small : goal.returns-clause-small
returns-clause-small c = (moved_above_says c.args.window c.requires).small
