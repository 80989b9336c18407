-- The result of one step of the walk.
use Rattle.std.specs.Prelude.{◌≡◌, ◌<◌, ◌+◌, ◌-◌, ◌^◌, ⊤, ℕ, Bool, List, [], ◌∷◌, Option, length, min, count_by, flat_map, option_map, is_some, if◌then◌else◌}
use Rattle.std.specs.Io.KnownBytes.{Consumes}
use Rattle.qm_core.specs.Code.{stuffed}
use Rattle.t85_core.specs.declared.segments.Code.{Code}
use Rattle.t85_core.specs.declared.segments.Code.TheVariants as code
use Rattle.t85_core.specs.declared.segments.atmove.Move as move
use Rattle.t85_core.specs.declared.segments.Place.{Place}
use Rattle.t85_core.specs.Header.{Fields}
use Rattle.t85_core.specs.Grammar.{Segment, segment_bytes, is_move, is_comment, lengths, GiveOnly, marker_bytes, IsBegun}
use Rattle.t85_core.specs.Coding.{move_of}

-- a byte of a code, stuffed, or an end marker
abbrev pub code_bytes : Code → List ℕ
code_bytes (code.Byte b) = stuffed (b ∷ [])
code_bytes (code.Marker reset) = marker_bytes reset

abbrev pub IsByteOrMarker : Code → Type 0
IsByteOrMarker (code.Byte b) = b < 256
IsByteOrMarker (code.Marker reset) = ⊤

-- The segments of a stripe so far: the move among them, whether one was in or before them, whether the height was in or before
-- them, and the number of comments.
pub record SegmentsSoFar : Type 0 where
  pub at : Option move.Move
  pub moved : Bool
  pub given : Bool
  pub comments : ℕ

abbrev pub segments_so_far : Option move.Move → (moved given : Bool) → ℕ → SegmentsSoFar
segments_so_far at moved given comments = record { at = at; moved = moved; given = given; comments = comments }

-- segments of a stripe, and the move among them, or the one before them or none
pub record HasPassed (h : Fields) (place : Place) (before : Bool) (old new : Option (List ℕ)) (passed : SegmentsSoFar) : Type 0 where
  pub segments : List Segment
  pub begun : IsBegun h segments []
  pub gives : GiveOnly place.height (if place.given then 1 else 0) segments
  pub given_is : (if passed.given then 1 else 0) ≡ (if place.given then 1 else 0) + length (lengths segments)
  pub move_is : option_map (λ to. (to.row, to.offset)) passed.at ≡ move_of segments
  pub counted : (if passed.moved then 1 else 0) ≡ (if before then 1 else 0) + count_by is_move segments
  pub found : (if is_some passed.at then 1 else 0) ≡ count_by is_move segments
  pub told : passed.comments ≡ min (count_by is_comment segments) (2 ^ 64 - 1)
  pub taken : Consumes old new (flat_map segment_bytes segments)
