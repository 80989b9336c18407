-- The effects of the steps of a walk in the rows of a stripe.
use Rattle.std.specs.Prelude.{ℕ, ◌+◌, ◌≡◌, ◌≢◌, Bool, true, false, List, [], Result, Ok, IfErr, IsErrOf}
use Rattle.t85_core.specs.declared.fault.Fault.{Fault}
use Rattle.t85_core.specs.declared.fault.Fault.TheVariants.{Truncated, Changed}
use Rattle.t85_core.specs.Lent.{WalkView}
use Rattle.t85_core.specs.Stages as stage
use Rattle.t85_core.specs.Private.InTime.{ReachesMarker}
use Rattle.t85_core.specs.States.Pieces.{HasMarker, IsInCode}
use Rattle.t85_core.specs.Private.Pieces.{KeepsPlace, SomeStands, StepsOff, StepsOn, StepsToEnd}
use Rattle.t85_core.specs.States.SizedImage.{SizedImage}

-- The effect of a step that returns a row, or reads the end marker ahead if the code waits there.
pub record BegunStep (image : SizedImage) (w w' : WalkView) (piece piece' : List ℕ) (answer : Result Bool Fault) : Type 0 where
  pub row : answer ≡ Ok true → StepsOn image w w' piece piece' w'.carried.held.current
  pub marker : answer ≡ Ok false → (HasMarker w → ⊥) → StepsOn image w w' piece piece' [] × ReachesMarker image w piece piece'
  pub err : IfErr answer (λ f. StepsOff image w piece f)
  pub more : IsErrOf answer Truncated → StepsToEnd image w w' piece piece'

-- The effect of such a step besides.
pub record BegunLeaves (waits : Bool) (w w' : WalkView) (answer : Result Bool Fault) : Type 0 where
  pub place : KeepsPlace w w'
  pub row : answer ≡ Ok true → (w'.row ≡ w.row + 1) × (w'.stage ≡ stage.Code)
  pub code : IsInCode w'.stage
  pub waited : answer ≡ Ok false → (waits ≡ true) × ((HasMarker w → ⊥) → HasMarker w')
  pub whole : waits ≡ false → HasMarker w → (answer ≡ Ok true) × HasMarker w'
  pub unmarked : waits ≡ true → (HasMarker w → ⊥) → answer ≡ Ok true → HasMarker w' → ⊥
  pub unread : IsErrOf answer Truncated → HasMarker w' → ⊥
  pub other : IfErr answer (λ f. f ≢ Changed)

-- ---- while a height may still arrive

-- The effect of a step that returns a row, or reads the end marker of the code ahead after all rows that the bytes before it fix.
pub record CodeStep (image : SizedImage) (w w' : WalkView) (piece piece' : List ℕ) (answer : Result Bool Fault) : Type 0 where
  pub row : answer ≡ Ok true → StepsOn image w w' piece piece' w'.carried.held.current
  pub marker : answer ≡ Ok false → StepsOn image w w' piece piece' [] × ReachesMarker image w piece piece'
  pub err : IfErr answer (λ f. StepsOff image w piece f)
  pub more : IsErrOf answer Truncated → StepsToEnd image w w' piece piece'

-- The effect of such a step besides.
pub record CodeLeaves (w w' : WalkView) (answer : Result Bool Fault) : Type 0 where
  pub place : KeepsPlace w w'
  pub code : IsInCode w'.stage
  pub marker : answer ≡ Ok false → HasMarker w'
  pub unmarked : answer ≡ Ok true → HasMarker w' → ⊥
  pub unread : IsErrOf answer Truncated → HasMarker w' → ⊥
  pub other : IfErr answer (λ f. f ≢ Changed)

-- A code whose end marker was not read.
pub record CodeGoes (image : SizedImage) (w w' : WalkView) (piece piece' : List ℕ) (answer : Result Bool Fault) : Type 0 where
  pub step : CodeStep image w w' piece piece' answer
  pub leaves : SomeStands image w → CodeLeaves w w' answer
