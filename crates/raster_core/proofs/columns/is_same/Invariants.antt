use Rattle.std.proofs.Common.{◌≡◌, ℕ, ◌*◌, ◌<◌}
use Rattle.raster_core.specs.Lines.{Lines}
use Rattle.raster_core.specs.Counting.{AreLines}
use Rattle.raster_core.specs.Raster.{pixel_at}
use Rattle.raster_core.proofs.columns.is_same.Given as goal

abbrev pub invariant-loop-k : goal.invariant-loop-k
invariant-loop-k l = (lines : Lines) → AreLines l.row l.above lines → (x : ℕ) → x < 64 * l.k → x < l.width → pixel_at lines.row x ≡ pixel_at lines.above x
