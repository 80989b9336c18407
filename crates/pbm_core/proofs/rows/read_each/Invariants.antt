use Rattle.std.proofs.Common.{◌≡◌, ℕ, Bool, List, length}
use Rattle.pbm_core.specs.Image.{binary, ArePixels}
use Rattle.pbm_core.proofs.CallsRead.{Passes}
use Rattle.pbm_core.proofs.rows.read_each.Given as goal

-- the pixels so far were passed
abbrev pub invariant-pixels : goal.invariant-pixels
invariant-pixels g l = record {
  given : List ℕ;
  pixels : List Bool;
  many : length pixels ≡ l.counter;
  byte_is : l.byte ≡ binary pixels;
  are_pixels : ArePixels given pixels;
  passes : Passes (g.R.Input.view l.fn.input) (g.R.Input.view l.input) given;
}
