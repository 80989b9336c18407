use Rattle.std.proofs.Common.{◌≡◌, ◌≤◌, ◌-◌, ◌++◌}
use Rattle.t85_core.specs.RowSink.{copies}
use Rattle.libt85.proofs.RoomSuffices.{text_of}
use Rattle.libt85.proofs.memory.RoomRowSink.put_rows.Given as goal

-- so many copies were taken
abbrev pub invariant-loop-copy : goal.invariant-loop-copy
invariant-loop-copy l = record {
  within : l.copy ≤ l.count;
  text : text_of l.self ≡ text_of l.fn.self ++ copies l.copy l.bytes;
  unfailed : l.self.failures ≡ l.fn.self.failures;
  same_flushes : l.self.flushes ≡ l.fn.self.flushes;
  same_target : l.self.bytes.ghost_name ≡ l.fn.self.bytes.ghost_name;
}

abbrev pub decreases-loop-copy : goal.decreases-loop-copy
decreases-loop-copy l = l.count - l.copy
