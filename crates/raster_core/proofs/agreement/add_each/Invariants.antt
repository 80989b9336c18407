use Rattle.std.proofs.Common.{◌≡◌, ℕ, ◌+◌, ◌*◌, ◌%◌, ◌^◌, ◌<◌, ◌≤◌, get_or, length}
use Rattle.raster_core.proofs.agreement.add_each.Given as goal

abbrev pub invariant-loop-lag : goal.invariant-loop-lag
invariant-loop-lag l = record {
  long : length l.counts ≡ 128;
  done : (j : ℕ) → l.from ≤ j → j < l.lag → get_or l.counts j 0 ≡ (get_or l.initial.counts j 0 + l.times * get_or l.more j 0) % 2 ^ 64;
  rest : (j : ℕ) → l.lag ≤ j → get_or l.counts j 0 ≡ get_or l.initial.counts j 0;
}
