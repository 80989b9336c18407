use Rattle.std.proofs.Common.{ℕ, List}
use Rattle.std.specs.List.{AllByRecursion}
use Rattle.pbm_core.specs.Pbm.{IsWhite}
use Rattle.pbm_core.proofs.CallsRead.{Passes}
use Rattle.pbm_core.proofs.rows.read_pixel.Given as goal

-- white space was passed
abbrev pub invariant-space : goal.invariant-space
invariant-space g l = record {
  space : List ℕ;
  passes : Passes (g.R.Input.view l.fn.input) (g.R.Input.view l.input) space;
  is_space : AllByRecursion IsWhite space;
}

abbrev pub decreases-space : goal.decreases-space
decreases-space g l = (g.R.Input.view l.input).left
