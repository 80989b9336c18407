use Rattle.std.proofs.Common.{◌≡◌, ℕ, ◌+◌, ◌-◌, ◌*◌, ◌%◌, ◌^◌, ◌<◌, ◌≤◌, get_or, length}
use Rattle.raster_core.specs.Lines.{Lines}
use Rattle.raster_core.specs.Machine.Words.{word, led, is_within, part_agreement}
use Rattle.raster_core.proofs.narrow.add_wide.Given as goal

abbrev pub invariant-loop-lag : goal.invariant-loop-lag
invariant-loop-lag l = record {
  long : length l.counts ≡ 128;
  left : (lines : Lines) → l.pixels ≡ word (led lines.row) 128 128 → l.left ≡ word (led lines.row) (128 - l.lag) 128;
  done : (lines : Lines) (width : ℕ) → l.pixels ≡ word (led lines.row) 128 128 → l.mask ≡ word (is_within width) 0 128 → (j : ℕ) → l.least ≤ j → j < l.lag →
      get_or l.counts j 0 ≡ (get_or l.initial.counts j 0 + l.times * part_agreement lines width j 0 128) % 2 ^ 64;
  rest : (j : ℕ) → l.lag ≤ j → get_or l.counts j 0 ≡ get_or l.initial.counts j 0;
}
