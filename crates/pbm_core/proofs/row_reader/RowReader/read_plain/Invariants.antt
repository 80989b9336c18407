use Rattle.std.proofs.Common.{◌≡◌, ◌≤◌, ◌-◌, ◌++◌, ℕ, List, length, take}
use Rattle.pbm_core.specs.RowPieces.{ScansPixels}
use Rattle.pbm_core.proofs.row_reader.RowReader.read_plain.Given as goal

-- the pixels of the consumed bytes
abbrev pub invariant-bytes : goal.invariant-bytes
invariant-bytes l = record {
  within : l.taken ≤ length l.fn.piece;
  long : length l.row ≡ length l.fn.row;
  scans : (before : List ℕ) → ScansPixels l.fn.self l.fn.size.width l.fn.row before → ScansPixels l.self l.fn.size.width l.row (before ++ take l.taken l.fn.piece);
}

abbrev pub decreases-bytes : goal.decreases-bytes
decreases-bytes l = length l.fn.piece - l.taken
