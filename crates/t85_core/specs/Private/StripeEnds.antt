-- A stripe that ends at its end marker.
use Rattle.std.specs.Prelude.{ℕ, ◌+◌, ◌≡◌, ◌≤◌, ◌<◌, Bool, List, [], min, Some, None, if◌then◌else◌}
use Rattle.t85_core.specs.Lent.{WalkView}
use Rattle.t85_core.specs.Stages as stage
use Rattle.t85_core.specs.States.DecodeStripes.{StripesRead}
use Rattle.t85_core.specs.States.Passage.{passage}
use Rattle.t85_core.specs.States.Pieces.{IsInCode, WalkStands}
use Rattle.t85_core.specs.States.PieceCode.{MarkerIs}
use Rattle.t85_core.specs.States.SizedImage.{SizedImage}

-- A stripe ended, and the next one follows, or none.
pub record StripeEnds (image : SizedImage) (w w' : WalkView) : Type 0 where
  pub on : (text out : List ℕ) → WalkStands image w text out → WalkStands image w' text out
  pub read : (text out : List ℕ) → WalkStands image w text out →
      StripesRead image.fields image.height (passage (Some text) (Some []) (Some []) (Some out)) (w.entities + 1) (if w.given then 1 else 0) w'.carried
  pub left : image.fields.l0 < w.left → w'.stage ≡ stage.Head
  pub entities : image.fields.l0 < w.left → w'.entities ≡ w.entities + 1
  pub given : w'.given ≡ w.given
  pub at : w'.at ≡ None

-- It does, if this is its end marker, and it has all rows.
abbrev pub EndsAtMarker : SizedImage → Bool → WalkView → WalkView → Type 0
EndsAtMarker image reset w w' = IsInCode w.stage → min w.left image.fields.l0 ≤ w.row → MarkerIs reset w.marker w.first → StripeEnds image w w'
