use Rattle.std.proofs.Common.{◌≡◌, ◌≤◌, ◌+◌, ◌-◌, ◌*◌, Ok, replicate}
use Rattle.qm_core.specs.Encoder.{event_count}
use Rattle.raster_core.specs.Machine.Rows.{AreUniform}
use Rattle.raster_core.specs.Machine.Uniform.{uniform_event}
use Rattle.qm_core.specs.Puts.{Puts}
use Rattle.raster_core.proofs.encode.runs.skip_bytes.Given as goal

abbrev pub invariant-words : goal.invariant-words
invariant-words g l = record {
  from : l.i ≤ l.at;
  left : l.left + 8 * l.at ≡ l.rows.width;
  some : 1 ≤ l.left;
  uniform : AreUniform l.colour l.rows l.i (l.at - l.i);
  puts : Puts g.W.CodeSink (replicate (8 * (l.at - l.i)) (uniform_event l.colour)) l.fn.coder l.coder (Ok tt);
  events : event_count l.coder.encoder.now ≡ event_count l.fn.coder.encoder.now + 8 * (l.at - l.i);
  same : g.W.CodeSink.failed l.coder.out.now ≡ g.W.CodeSink.failed l.fn.coder.out.now;
}

abbrev pub decreases-words : goal.decreases-words
decreases-words g l = l.left
