use Rattle.std.proofs.Common.{◌≡◌, ◌+◌, ◌*◌, ◌≤◌, Bool, List}
use Rattle.raster_core.specs.Lines.{Lines}
use Rattle.raster_core.specs.Packed.{packed_row}
use Rattle.raster_core.specs.Machine.Words.{word, led, part_agreement}
use Rattle.raster_core.proofs.agreement.agreeing_in_row.Given as goal

abbrev pub invariant-loop-k : goal.invariant-loop-k
invariant-loop-k l = record {
  second : (line : List Bool) → l.row ≡ packed_row line → l.second ≡ word (led line) (64 * l.k) 64;
  before : (line : List Bool) → l.row ≡ packed_row line → l.before ≡ word (led line) (64 * (l.k + 1)) 64;
  agreeing : (lines : Lines) → l.row ≡ packed_row lines.row → l.above ≡ packed_row lines.above →
      l.agreeing ≡ part_agreement lines l.width l.offset 0 (64 * l.k);
  room : l.agreeing ≤ 64 * l.k;
}
