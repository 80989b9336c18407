use Rattle.std.proofs.Common.{◌≡◌, ◌*◌, ◌≤◌, ◌<◌, ℕ}
use Rattle.std.specs.Prelude.{slice_index}
use Rattle.raster_core.specs.Machine.Registers.{bit}
use Rattle.raster_core.proofs.uniform.paint.Given as goal

abbrev pub invariant-loop-k : goal.invariant-loop-k
invariant-loop-k l = record {
  inside : (j : ℕ) → l.from ≤ j → j < l.k → slice_index l.row j ≡ bit l.colour * 255;
  before : (j : ℕ) → j < l.from → slice_index l.row j ≡ slice_index l.fn.row j;
}
