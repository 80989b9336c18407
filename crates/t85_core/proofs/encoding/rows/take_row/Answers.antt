use Rattle.std.proofs.Common.{◌≡◌, length, rules}
use Rattle.std.specs.Int.{div_ceil}
use Rattle.raster_core.specs.Window.{held}
use Rattle.t85_core.proofs.ImagesEncode.RowIsGiven.{row_below}
use Rattle.t85_core.proofs.ImagesEncode.EncoderTakesRow.{put_current}
use Rattle.t85_core.proofs.encoding.rows.take_row.Goals as goal

pub returns-clause-below : goal.returns-clause-below
returns-clause-below c =
    let wide : length c.copy_row.new.to ≡ div_ceil c.turn.new.self.width 8 = search rules in
    rw (put_current c.current_row-current.result.start c.current_row-current.result.end c.turn.new.self.rows.now c.copy_row.new.to c.place.ensures.place c.width.ensures c.turn.new.self.long wide
    c.current_row-current.ensures.put) (row_below c.args.row.now (held c.args.window.now) c.args.size.some_width c.requires.whole c.masks.ensures.mask_keeps_pixels
    c.masks.ensures.masked_is_packed c.copy_row.ensures.masked c.copy_row.ensures.small c.turn.ensures.turned c.requires.width)
