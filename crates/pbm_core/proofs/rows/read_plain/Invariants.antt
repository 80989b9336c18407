use Rattle.std.proofs.Common.{◌≡◌, ◌<◌, ◌+◌, ◌*◌, ℕ, Bool, List, length, min, get_or}
use Rattle.pbm_core.specs.Image.{ArePixels}
use Rattle.pbm_core.specs.RowPieces.{byte_at}
use Rattle.pbm_core.proofs.CallsRead.{Passes}
use Rattle.pbm_core.proofs.rows.read_plain.Given as goal

-- the pixels so far were passed, and are in the bytes so far
abbrev pub invariant-loop-i : goal.invariant-loop-i
invariant-loop-i g l = record {
  given : List ℕ;
  pixels : List Bool;
  many : length pixels ≡ min (8 * l.i) l.fn.size.width;
  others : length pixels + l.left ≡ l.fn.size.width;
  bytes : (k : ℕ) → k < l.i → get_or l.row k 0 ≡ byte_at pixels k;
  are_pixels : ArePixels given pixels;
  passes : Passes (g.R.Input.view l.fn.input) (g.R.Input.view l.input) given;
}
