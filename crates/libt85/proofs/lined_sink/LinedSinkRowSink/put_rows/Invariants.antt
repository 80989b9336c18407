use Rattle.std.proofs.Common.{◌≡◌, ◌≤◌, ◌-◌, ◌++◌}
use Rattle.t85_core.specs.RowSink.{copies}
use Rattle.libt85.specs.LinedSink.{lined_state, taken}
use Rattle.libt85.proofs.lined_sink.LinedSinkRowSink.put_rows.Given as goal

-- so many copies were taken
abbrev pub invariant-loop-copy : goal.invariant-loop-copy
invariant-loop-copy l = record {
  within : l.copy ≤ l.count;
  text : taken (lined_state l.self) ≡ taken (lined_state l.fn.self) ++ copies l.copy l.bytes;
  same_row : l.self.row ≡ l.fn.self.row;
  unfailed : l.self.failures ≡ l.fn.self.failures;
  same_target : l.self.bytes.ghost_name ≡ l.fn.self.bytes.ghost_name;
}

abbrev pub decreases-loop-copy : goal.decreases-loop-copy
decreases-loop-copy l = l.count - l.copy
