use Rattle.std.proofs.Common.{◌≡◌, ◌≤◌, ◌+◌, ◌-◌, ◌*◌, Ok}
use Rattle.qm_core.specs.Encoder.{event_count}
use Rattle.raster_core.specs.Machine.Bytes.{events_from}
use Rattle.raster_core.specs.Machine.Rows.{lines_in, StandsAt}
use Rattle.qm_core.specs.Puts.{Puts}
use Rattle.raster_core.proofs.encode.row.encode_bytes.Given as goal

abbrev pub invariant-bytes : goal.invariant-bytes
invariant-bytes g l = record {
  inside : l.i ≤ l.whole;
  puts : Puts g.W.CodeSink (events_from l.fn.template (lines_in l.fn.rows) 0 (8 * l.i)) l.fn.coder l.coder (Ok tt);
  events : event_count l.coder.encoder.now ≡ event_count l.fn.coder.encoder.now + 8 * l.i;
  same : g.W.CodeSink.failed l.coder.out.now ≡ g.W.CodeSink.failed l.fn.coder.out.now;
  stands : StandsAt l.around l.fn.template (lines_in l.fn.rows) l.i;
}

abbrev pub decreases-bytes : goal.decreases-bytes
decreases-bytes g l = l.whole - l.i
