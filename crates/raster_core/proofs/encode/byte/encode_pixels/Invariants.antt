use Rattle.std.proofs.Common.{◌≡◌, ◌+◌, ◌*◌, ◌/◌, ◌^◌, ◌<◌, Ok}
use Rattle.qm_core.specs.Encoder.{event_count}
use Rattle.raster_core.specs.Machine.Registers.{before, past_bits}
use Rattle.raster_core.specs.Machine.Bytes.{byte_events, byte_lines}
use Rattle.qm_core.specs.Puts.{Puts}
use Rattle.raster_core.proofs.encode.byte.encode_pixels.Given as goal

abbrev pub invariant-loop-j : goal.invariant-loop-j
invariant-loop-j g l = record {
  puts : Puts g.W.CodeSink (byte_events l.fn.byte l._j) l.fn.coder l.coder (Ok tt);
  events : event_count l.coder.encoder.now ≡ event_count l.fn.coder.encoder.now + l._j;
  same : g.W.CodeSink.failed l.coder.out.now ≡ g.W.CodeSink.failed l.fn.coder.out.now;
  offset : l.offset ≡ l.fn.byte.around.template.offset;
  second : l.second ≡ l.fn.byte.around.second / 2 ^ 7 * 2 ^ l._j;
  above : l.above ≡ l.fn.byte.around.above / 2 ^ 6 * 2 ^ l._j;
  row : l.row ≡ l.fn.byte.byte * 2 ^ l._j;
  past : l.past ≡ before (byte_lines l.fn.byte).row (128 + l._j) (past_bits l.fn.byte.around.template.offset);
  second_small : l.second < 2 ^ (17 + l._j);
  above_small : l.above < 2 ^ (18 + l._j);
  row_small : l.row < 2 ^ (8 + l._j);
}
