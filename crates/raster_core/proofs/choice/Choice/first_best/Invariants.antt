use Rattle.std.proofs.Common.{◌≡◌, ◌⊎◌, ℕ, ◌+◌, ◌<◌, ◌≤◌}
use Rattle.std.specs.Prelude.{max}
use Rattle.raster_core.specs.Choice.{PixelCounts}
use Rattle.raster_core.specs.Counting.{HasCounts, counting_of}
use Rattle.raster_core.specs.Tally.{least_lag}
use Rattle.raster_core.proofs.choice.Choice.first_best.Given as goal

abbrev pub invariant-loop-lag : goal.invariant-loop-lag
invariant-loop-lag l = record {
  to : l.lag ≤ max (least_lag (counting_of l.self).mode.two_line) ((counting_of l.self).most + 1);
  place : (l.best ≡ 0) ⊎ ((least_lag (counting_of l.self).mode.two_line ≤ l.best) × (l.best < l.lag));
  small : l.best ≤ 127;
  nominal : (n : PixelCounts) → HasCounts l.self n → n.at 0 ≤ n.at l.best;
  most : (n : PixelCounts) → HasCounts l.self n → (u : ℕ) → least_lag (counting_of l.self).mode.two_line ≤ u → u < l.lag → n.at u ≤ n.at l.best;
  first_nominal : (n : PixelCounts) → HasCounts l.self n → 0 < l.best → n.at 0 < n.at l.best;
  first : (n : PixelCounts) → HasCounts l.self n → (u : ℕ) → least_lag (counting_of l.self).mode.two_line ≤ u → u < l.best → n.at u < n.at l.best;
}
