use Rattle.raster_core.proofs.TablesFillLanes.{row_says}
use Rattle.raster_core.proofs.lanes.row_lanes.Goals as goal

pub returns-clause-lanes : goal.returns-clause-lanes
returns-clause-lanes c = (row_says c.args.window c.requires).lanes

pub returns-clause-small : goal.returns-clause-small
returns-clause-small c = (row_says c.args.window c.requires).small
