use Rattle.std.proofs.Common.{◌≡◌, ℕ, ◌+◌, ◌%◌, ◌^◌, ◌<◌, ◌≤◌, get_or, length}
use Rattle.raster_core.proofs.choice.Choice.add_row.Given as goal

abbrev pub invariant-loop-lag : goal.invariant-loop-lag
invariant-loop-lag l = record {
  long : length l.self.counts ≡ 128;
  nominal : get_or l.self.counts 0 0 ≡ get_or l.initial.self.counts 0 0;
  done : (j : ℕ) → l.least ≤ j → j < l.lag → get_or l.self.counts j 0 ≡ (get_or l.initial.self.counts j 0 + get_or l.agreed j 0) % 2 ^ 32;
  rest : (j : ℕ) → l.lag ≤ j → get_or l.self.counts j 0 ≡ get_or l.initial.self.counts j 0;
  width : l.self.width ≡ l.initial.self.width;
  pixels : l.self.pixels ≡ l.initial.self.pixels;
  two_line : l.self.two_line ≡ l.initial.self.two_line;
  typical : l.self.typical ≡ l.initial.self.typical;
  most_lag : l.self.most ≡ l.initial.self.most;
  resets : l.self.reset ≡ l.initial.self.reset;
}
