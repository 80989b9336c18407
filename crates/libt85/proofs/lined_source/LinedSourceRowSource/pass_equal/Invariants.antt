use Rattle.std.proofs.Common.{◌-◌, ◌≡◌, ◌≤◌, ◌++◌}
use Rattle.t85_core.specs.RowSink.{copies}
use Rattle.libt85.specs.Delivered.{lined}
use Rattle.libt85.proofs.lined_source.LinedSourceRowSource.pass_equal.Given as goal

abbrev pub invariant-rows : goal.invariant-rows
invariant-rows l = record {
  few : l.count ≤ l.most;
  passed : lined l.fn.self.rows l.fn.self.row l.fn.self.stride l.fn.self.rest.now ≡ copies l.count l.row ++ lined l.self.rows l.self.row l.self.stride l.self.rest.now;
  none : l.count ≡ 0 → l.self ≡ l.fn.self;
  same_row : l.self.row ≡ l.fn.self.row;
}

abbrev pub decreases-rows : goal.decreases-rows
decreases-rows l = l.most - l.count
