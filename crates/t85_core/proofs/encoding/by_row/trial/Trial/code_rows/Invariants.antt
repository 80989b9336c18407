use Rattle.std.proofs.Common.{◌≡◌, ◌≤◌, ◌+◌, ◌*◌}
use Rattle.raster_core.specs.Window.{held}
use Rattle.t85_core.specs.Private.RowCalls.{HasRows}
use Rattle.t85_core.specs.Private.Trial.{CountsAsBefore, MayTry, TriesRows}
use Rattle.t85_core.specs.States.Trial.{packed_rows}
use Rattle.t85_core.proofs.encoding.by_row.trial.Trial.code_rows.Given as goal

abbrev pub invariant-loop-k : goal.invariant-loop-k
invariant-loop-k l = record {
  tries : TriesRows l.shape (packed_rows l.size.width l.rows l.k) (held l.fn.window) (held l.window) l.fn.self l.self;
  ready : MayTry l.shape l.self l.window (l.k * (l.shape.width + 1));
  lined : HasRows l.size.width l.window;
  tally : CountsAsBefore l.fn.self.tally l.self.tally;
  to : l.k ≤ l.count;
  is_counted : l.self.is_counted ≡ l.fn.self.is_counted;
}
