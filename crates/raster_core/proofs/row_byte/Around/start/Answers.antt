use Rattle.std.proofs.Common.{refl, sym}
use Rattle.raster_core.specs.Machine.Rows.{lines_in}
use Rattle.raster_core.proofs.PixelNumbersSplit.{before_none}
use Rattle.raster_core.proofs.BytesHoldRows.{above_in, second_in, first_read}
use Rattle.raster_core.proofs.row_byte.Around.start.Goals as goal

pub returns : goal.returns
returns c = record {
  template_is = refl;
  second_is = first_read (second_in c.args.rows) c.byte_at.ensures.byte c.byte_at.ensures.small;
  above_is = first_read (above_in c.args.rows) c.byte_at-2.ensures.byte c.byte_at-2.ensures.small;
  past_is = sym (before_none (lines_in c.args.rows).row _);
}
