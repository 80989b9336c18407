use Rattle.std.proofs.Common.{◌≡◌, ℕ, ◌+◌, ◌*◌, ◌≤◌, get_or, Bool, List}
use Rattle.raster_core.specs.Lines.{Lines}
use Rattle.raster_core.specs.Packed.{packed_row}
use Rattle.raster_core.specs.Machine.Words.{word, led, is_between, part_among}
use Rattle.raster_core.proofs.columns.count_columns.Given as goal

abbrev pub invariant-loop-k : goal.invariant-loop-k
invariant-loop-k l = record {
  second : (line : List Bool) → l.row ≡ packed_row line → l.second ≡ word (led line) (64 * l.k) 64;
  before : (line : List Bool) → l.row ≡ packed_row line → l.before ≡ word (led line) (64 * (l.k + 1)) 64;
  counts : (lines : Lines) → l.row ≡ packed_row lines.row → (lag : ℕ) → l.least ≤ lag → lag ≤ l.most →
      get_or l.counts lag 0 + l.alike ≡ part_among (is_between l.columns.first l.columns.end) lines lag 0 (64 * l.k);
  nominal : (lines : Lines) → l.row ≡ packed_row lines.row → l.above ≡ packed_row lines.above →
      l.nominal ≡ part_among (is_between l.columns.first l.columns.end) lines 0 0 (64 * l.k);
  room : (lag : ℕ) → get_or l.counts lag 0 + l.alike ≤ 64 * l.k;
  nominal_room : l.nominal ≤ 64 * l.k;
}
