use Rattle.raster_core.proofs.TablesFillLanes.{second_says}
use Rattle.raster_core.proofs.lanes.second_lanes.Goals as goal

pub returns-clause-lanes : goal.returns-clause-lanes
returns-clause-lanes c = (second_says c.args.window c.requires).lanes

pub returns-clause-small : goal.returns-clause-small
returns-clause-small c = (second_says c.args.window c.requires).small
