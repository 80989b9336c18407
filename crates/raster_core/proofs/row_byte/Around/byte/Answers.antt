use Rattle.std.proofs.Common.{arith, refl}
use Rattle.raster_core.proofs.BytesHoldRows.{current_in, above_in, second_in, read_byte, next_read}
use Rattle.raster_core.proofs.row_byte.Around.byte.Goals as goal

pub returns : goal.returns
returns c = record {
  template_is = refl;
  at = record {
    second_is = next_read c.args.i (second_in c.args.rows) c.requires.stands.second_is c.byte_at.ensures.byte c.byte_at.ensures.small;
    above_is = next_read c.args.i (above_in c.args.rows) c.requires.stands.above_is c.byte_at-2.ensures.byte c.byte_at-2.ensures.small;
    byte_is = read_byte c.args.i (current_in c.args.rows) refl (omega arith);
  };
  past_is = c.requires.stands.past_is;
}
