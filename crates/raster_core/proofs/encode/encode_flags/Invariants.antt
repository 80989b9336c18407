use Rattle.std.proofs.Common.{◌≡◌, ◌+◌, replicate, Ok}
use Rattle.qm_core.specs.Encoder.{event_count}
use Rattle.qm_core.specs.Puts.{IsUnchanged, Puts}
use Rattle.raster_core.specs.Row.{again_event}
use Rattle.raster_core.proofs.encode.encode_flags.Given as goal

abbrev pub invariant-loop-row : goal.invariant-loop-row
invariant-loop-row g l = record {
  puts : Puts g.W.CodeSink (replicate l._row (again_event l.fn.shape)) l.fn.coder l.coder (Ok tt);
  events : event_count l.coder.encoder.now ≡ event_count l.fn.coder.encoder.now + l._row;
  none : l._row ≡ 0 → IsUnchanged l.fn.coder l.coder;
}
