use Rattle.raster_core.specs.Window.{held}
use Rattle.t85_core.proofs.ImagesEncode.PaddingIsCleared.{cleared_lined, cleared_stays}
use Rattle.t85_core.proofs.encoding.rows.clear_padding.Goals as goal

pub returns-clause-lined : goal.returns-clause-lined
returns-clause-lined c =
    cleared_lined c.args.size.some_width (held c.args.window.now) c.requires c.turn_cleared.ensures.rows c.turn_cleared-2.ensures.rows c.turn_cleared-3.ensures.rows
    c.masks.ensures.masked_is_packed c.turn_cleared.ensures.whole c.turn_cleared-2.ensures.whole c.turn_cleared-3.ensures.whole c.turn_cleared.ensures.small c.turn_cleared-2.ensures.small
    c.turn_cleared-3.ensures.small

pub returns-clause-stays : goal.returns-clause-stays
returns-clause-stays c =
    cleared_stays c.args.size.some_width (held c.args.window.now) c.requires c.turn_cleared.ensures.rows c.turn_cleared-2.ensures.rows c.turn_cleared-3.ensures.rows c.masks.ensures.packed_stays
