use Rattle.std.proofs.Common.{◌≡◌, ◌≤◌, ◌-◌}
use Rattle.std.specs.Io.KnownBytes.{Appends}
use Rattle.t85_core.specs.RowSink.{copies}
use Rattle.t85_core.specs.States.Views.{target_view}
use Rattle.t85_core.proofs.row_sink.OutputBufferRowSink.put_rows.Given as goal

-- so many copies were taken
abbrev pub invariant-loop-copy : goal.invariant-loop-copy
invariant-loop-copy g l = record {
  within : l.copy ≤ l.count;
  text : Appends (target_view l.fn.self).text (target_view l.self).text (copies l.copy l.bytes);
  grows : (target_view l.fn.self).written ≤ (target_view l.self).written;
  unfailed : (target_view l.self).failures ≡ (target_view l.fn.self).failures;
  same_writer : (target_view l.self).writer ≡ (target_view l.fn.self).writer;
}

abbrev pub decreases-loop-copy : goal.decreases-loop-copy
decreases-loop-copy g l = l.count - l.copy
