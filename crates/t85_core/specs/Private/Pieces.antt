-- The position of a decoder that is fed in pieces.
use Rattle.std.specs.Prelude.{⊤, ℕ, ◌+◌, ◌-◌, ◌*◌, ◌≡◌, ◌≤◌, ◌<◌, Bool, true, false, List, [], ◌++◌, length, min, None, Result, Ok, OnOk, IfErr, IsErrOf}
use Rattle.qm_core.specs.Place.{Estimate}
use Rattle.raster_core.specs.Packed.{Held}
use Rattle.t85_core.specs.declared.fault.Fault.{Fault}
use Rattle.t85_core.specs.declared.fault.Fault.TheVariants.{Truncated}
use Rattle.t85_core.specs.declared.pieces.course.Course.{Course}
use Rattle.t85_core.specs.declared.pieces.code.InCode.{InCode}
use Rattle.t85_core.specs.Lent.{WalkView, code_view}
use Rattle.t85_core.specs.Stages.{Kind}
use Rattle.t85_core.specs.Stages as stage
use Rattle.t85_core.specs.States.SizedImage.{SizedImage}
use Rattle.t85_core.specs.States.Pieces.{CutOff, WalkStands}

-- whether the image is whole
abbrev pub IsOver : Kind → Type 0
IsOver stage.Head = ⊥
IsOver stage.Comment = ⊥
IsOver stage.Code = ⊥
IsOver stage.Row = ⊥
IsOver stage.Done = ⊤

-- it has, of some
abbrev pub SomeStands : SizedImage → WalkView → Type 0
SomeStands image w = (text : List ℕ) × (out : List ℕ) × WalkStands image w text out

-- A step takes bytes of the piece, and hands these out.
abbrev pub StepsOn : SizedImage → WalkView → WalkView → List ℕ → List ℕ → List ℕ → Type 0
StepsOn image w w' piece piece' row = (text out : List ℕ) → WalkStands image w text out → (given : List ℕ) × (piece ≡ given ++ piece') × WalkStands image w' (text ++ given) (out ++ row)

-- A step comes to the end of the piece: what it leaves begins an escape or a segment.
abbrev pub StepsToEnd : SizedImage → WalkView → WalkView → List ℕ → List ℕ → Type 0
StepsToEnd image w w' piece piece' = StepsOn image w w' piece piece' [] × (length piece' ≤ 7)

-- The bytes so far are broken, or end too early, and fix the returned rows.
abbrev pub StepsOff : SizedImage → WalkView → List ℕ → Fault → Type 0
StepsOff image w piece fault = (text out : List ℕ) → WalkStands image w text out → CutOff image (text ++ piece) out fault

-- The effect of a step that returns no row.
pub record Step {A : Type 0} (image : SizedImage) (w w' : WalkView) (piece piece' : List ℕ) (answer : Result A Fault) : Type 0 where
  pub ok : OnOk answer (StepsOn image w w' piece piece' [])
  pub err : IfErr answer (λ f. StepsOff image w piece f)
  pub more : IsErrOf answer Truncated → StepsToEnd image w w' piece piece'

-- a walk before the first byte
pub record IsFirstWalk (w : WalkView) : Type 0 where
  pub stage : w.stage ≡ stage.Head
  pub at : w.at ≡ None
  pub entities : w.entities ≡ 0
  pub given : w.given ≡ false

-- what a step leaves of a code, all rows of which are decoded, whatever the course is
abbrev pub AfterRows : ℕ → (WalkView → WalkView → Type 0) → InCode → InCode → Type 0
AfterRows l0 Leaves c c' =
    (course : Course) (rows : Held) (learned : List Estimate) → min course.left l0 ≤ c.row → Leaves (code_view course c rows learned) (code_view course c' rows learned)

-- the stripe stays the same
pub record KeepsPlace (w w' : WalkView) : Type 0 where
  pub entities : w'.entities ≡ w.entities
  pub left : w'.left ≡ w.left
  pub given : w'.given ≡ w.given
  pub at : w'.at ≡ w.at

-- the same stripe is current
abbrev pub KeepsStripes : Course → Course → Type 0
KeepsStripes c c' = (c'.entities ≡ c.entities) × (c'.left ≡ c.left)

-- the rows left are still those that are not in the stripes before
abbrev pub CountsOn : SizedImage → Course → Course → Type 0
CountsOn image c c' = c.left ≡ image.height - c.entities * image.fields.l0 → c'.left ≡ image.height - c'.entities * image.fields.l0

-- the next stripe is current, if one follows
pub record EndsCount (l0 : ℕ) (follows : Bool) (c c' : Course) : Type 0 where
  pub more : follows ≡ true → (l0 < c.left) × (c'.left ≡ c.left - l0) × (c'.entities ≡ c.entities + 1)
  pub last : follows ≡ false → (c.left ≤ l0) × KeepsStripes c c'

-- The effect of a step that may return a row, or find that the image is whole.
pub record Turn (image : SizedImage) (w w' : WalkView) (piece piece' : List ℕ) (answer : Result Bool Fault) : Type 0 where
  pub row : answer ≡ Ok true → StepsOn image w w' piece piece' w'.carried.held.current
  pub done : answer ≡ Ok false → StepsOn image w w' piece piece' [] × IsOver w'.stage
  pub err : IfErr answer (λ f. StepsOff image w piece f)
  pub more : IsErrOf answer Truncated → StepsToEnd image w w' piece piece'
