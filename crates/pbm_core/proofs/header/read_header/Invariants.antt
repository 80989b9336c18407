use Rattle.std.proofs.Common.{ℕ, List}
use Rattle.pbm_core.specs.HeaderPieces.{HasScanned}
use Rattle.pbm_core.proofs.CallsRead.{Passes}
use Rattle.pbm_core.proofs.header.read_header.Given as goal

-- the reader represents the bytes that were passed
abbrev pub invariant-header : goal.invariant-header
invariant-header g l = record {
  given : List ℕ;
  passes : Passes (g.R.Input.view l.fn.input) (g.R.Input.view l.input) given;
  scanned : HasScanned l.reader given;
}

abbrev pub decreases-header : goal.decreases-header
decreases-header g l = (g.R.Input.view l.input).left
