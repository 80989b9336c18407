use Rattle.std.proofs.Common.{◌≡◌, ◌+◌, ◌-◌, ◌≤◌}
use Rattle.std.specs.Prelude.{map, max}
use Rattle.raster_core.specs.Choice.{PixelCounts, greatest_of, least_of}
use Rattle.raster_core.specs.Counting.{HasCounts, counting_of}
use Rattle.raster_core.specs.Lines.{numbers_from}
use Rattle.raster_core.specs.Tally.{least_lag}
use Rattle.raster_core.proofs.choice.Choice.extremes.Given as goal

abbrev pub invariant-loop-lag : goal.invariant-loop-lag
invariant-loop-lag l = record {
  to : l.lag ≤ max (least_lag (counting_of l.self).mode.two_line) ((counting_of l.self).most + 1);
  best : (n : PixelCounts) → HasCounts l.self n → l.best ≡ greatest_of (map n.at (numbers_from (least_lag (counting_of l.self).mode.two_line) (l.lag - least_lag (counting_of l.self).mode.two_line)));
  worst : (n : PixelCounts) → HasCounts l.self n → l.worst ≡ least_of n.pixels
      (map n.at (numbers_from (least_lag (counting_of l.self).mode.two_line) (l.lag - least_lag (counting_of l.self).mode.two_line)));
}
