use Rattle.std.proofs.Common.{◌≡◌, ℕ, ◌+◌, ◌*◌, ◌≤◌, get_or, Bool, List}
use Rattle.raster_core.specs.Lines.{Lines}
use Rattle.raster_core.specs.Packed.{packed_row}
use Rattle.raster_core.specs.Machine.Words.{word, led, part_agreement}
use Rattle.raster_core.proofs.counted.count_agreed.Given as goal

abbrev pub invariant-loop-k : goal.invariant-loop-k
invariant-loop-k l = record {
  second : (line : List Bool) → l.row ≡ packed_row line → l.second ≡ word (led line) (64 * l.k) 64;
  before : (line : List Bool) → l.row ≡ packed_row line → l.before ≡ word (led line) (64 * (l.k + 1)) 64;
  counts : (lines : Lines) → l.row ≡ packed_row lines.row → (lag : ℕ) → l.least ≤ lag → lag ≤ l.most →
      get_or l.counts lag 0 + l.alike ≡ part_agreement lines l.width lag 0 (64 * l.k);
  room : (lag : ℕ) → get_or l.counts lag 0 + l.alike ≤ 64 * l.k;
}
