use Rattle.std.proofs.Common.{◌≤◌, ◌-◌, ◌++◌, ℕ, List, length, take}
use Rattle.pbm_core.specs.HeaderPieces.{HasScanned}
use Rattle.pbm_core.proofs.header_reader.HeaderReader.read.Given as goal

-- the state after the consumed bytes of the piece
abbrev pub invariant-bytes : goal.invariant-bytes
invariant-bytes l = record {
  within : l.taken ≤ length l.fn.piece;
  scanned : (before : List ℕ) → HasScanned l.fn.self before → HasScanned l.self (before ++ take l.taken l.fn.piece);
}

abbrev pub decreases-bytes : goal.decreases-bytes
decreases-bytes l = length l.fn.piece - l.taken
