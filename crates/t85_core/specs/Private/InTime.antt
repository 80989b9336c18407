-- An end marker that is read only after the rows that the bytes before it fix were handed out.
use Rattle.std.specs.Prelude.{ℕ, ◌≡◌, List, ◌++◌}
use Rattle.t85_core.specs.Lent.{WalkView}
use Rattle.t85_core.specs.States.Pieces.{WalkStands}
use Rattle.t85_core.specs.States.SizedImage.{SizedImage}
use Rattle.t85_core.specs.States.PieceStands.{MarkerAfterRows}

-- A step takes bytes up to an end marker, and all rows that the bytes before it fix were handed out.
abbrev pub ReachesMarker : SizedImage → WalkView → List ℕ → List ℕ → Type 0
ReachesMarker image w piece piece' = (text out : List ℕ) → WalkStands image w text out → (given : List ℕ) × (piece ≡ given ++ piece') × MarkerAfterRows image (text ++ given) out
