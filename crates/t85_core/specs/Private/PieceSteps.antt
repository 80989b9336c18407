-- The effects of the steps of a decoder of a stream in pieces.
use Rattle.std.specs.Prelude.{ℕ, ◌+◌, ◌*◌, ◌≡◌, ◌≤◌, ◌<◌, Bool, true, false, List, [], ◌++◌, length, Option, Some, None, if◌then◌else◌}
use Rattle.t85_core.specs.declared.fault.Fault.{Fault}
use Rattle.t85_core.specs.declared.fault.Fault.TheVariants.{Truncated}
use Rattle.t85_core.specs.Lent.{PieceView, WalkView, waits_behind}
use Rattle.t85_core.specs.declared.pieces.Outcome.{Outcome}
use Rattle.t85_core.specs.declared.pieces.PieceDecoder.{PieceDecoder}
use Rattle.t85_core.specs.declared.pieces.Outcome.TheVariants as outcome
use Rattle.t85_core.specs.Options.{fields_of}
use Rattle.t85_core.specs.States.PieceStands.{DecoderStands, WalkWaits, last_behind, place_behind}
use Rattle.t85_core.specs.declared.pieces.phase.Behind.{Behind}
use Rattle.t85_core.specs.Stages.{code_kind, head_kind}
use Rattle.t85_core.specs.Stages as stage
use Rattle.t85_core.specs.declared.segments.Place.{Place}
use Rattle.t85_core.specs.Header.{Fields}
use Rattle.t85_core.specs.Grammar.{NewLength, segment_bytes, is_valid_length, IsLegal}
use Rattle.t85_core.specs.Height.{IsHeight}
use Rattle.t85_core.specs.States.DecodeStripes.{StripesRead}
use Rattle.t85_core.specs.Private.HeightWalk.{LookEnds}
use Rattle.t85_core.specs.States.Behind.{BehindStands, behind_at}
use Rattle.t85_core.specs.States.Pieces.{WalkStands, IsInCode, HasMarker}
use Rattle.t85_core.specs.States.SizedImage.{sized}
use Rattle.t85_core.specs.Pieces.{AwaitsHeight, HandsOut, HoldsImage, MayFollow, row_held, rows_given, stream_of, stripes_ended}
use Rattle.t85_core.specs.Consumed.{ConsumesImage}
use Rattle.t85_core.specs.States.Passage.{passage}

-- it is at some position
abbrev pub SomeStand : PieceView → Type 0
SomeStand d = (text : List ℕ) × (out : List ℕ) × DecoderStands d text out

-- bytes of a piece were taken, and these rows given
abbrev pub DecoderOn : PieceView → PieceView → List ℕ → List ℕ → List ℕ → Type 0
DecoderOn d d' piece piece' row = (text out : List ℕ) → DecoderStands d text out → (given : List ℕ) × (piece ≡ given ++ piece') × DecoderStands d' (text ++ given) (out ++ row)

-- what is the end of a stream with the piece, whatever may follow it
abbrev pub EndsWhole : Bool → PieceView → List ℕ → ℕ → Type 0
EndsWhole is_all d piece n = (text out rest : List ℕ) → DecoderStands d text out → MayFollow is_all rest → HoldsImage (stream_of d) ((text ++ piece) ++ rest) n out

-- the bytes that were consumed at such an end
abbrev pub EndsConsumed : Bool → PieceView → PieceView → List ℕ → List ℕ → ℕ → Type 0
EndsConsumed is_all d d' piece piece' n =
    (text out rest : List ℕ) → DecoderStands d text out → MayFollow is_all rest → (given : List ℕ) × (piece ≡ given ++ piece') ×
    ConsumesImage (stream_of d) (waits_behind d') n (text ++ given) ((text ++ piece) ++ rest)

abbrev pub EndsBroken : Bool → PieceView → List ℕ → ℕ → Fault → Type 0
EndsBroken is_all d piece height fault = (text out rest : List ℕ) → DecoderStands d text out → MayFollow is_all rest → HandsOut (stream_of d) ((text ++ piece) ++ rest) height fault out

-- no height that may come is below the rows that were given, if the end marker of the last one's code was read
abbrev pub NoHeightBelow : Bool → PieceView → PieceView → List ℕ → Type 0
NoHeightBelow is_all d d' piece =
    d'.is_open ≡ true → HasMarker d'.walk → (text out rest : List ℕ) (n : ℕ) → DecoderStands d text out → MayFollow is_all rest → IsHeight (stream_of d) ((text ++ piece) ++ rest) n → rows_given d' ≤ n

-- it is not known yet whether a height follows the piece
abbrev pub StaysOpen : PieceView → PieceView → List ℕ → Type 0
StaysOpen d d' piece = (text out : List ℕ) → DecoderStands d text out → AwaitsHeight (stream_of d) (text ++ piece) (stripes_ended d') out

-- The effect of a step: no result if another step follows.
pub record StepLeaves (is_all : Bool) (d d' : PieceView) (piece piece' : List ℕ) (answer : Option Outcome) : Type 0 where
  pub header : d'.header ≡ d.header
  pub going : d'.end ≡ d.end
  pub on : answer ≡ None → DecoderOn d d' piece piece' []
  pub row : answer ≡ Some outcome.Row → DecoderOn d d' piece piece' (row_held d')
  pub waits : answer ≡ Some outcome.Row → NoHeightBelow is_all d d' piece
  pub more : answer ≡ Some outcome.More → (is_all ≡ false) × DecoderOn d d' piece piece' [] × (waits_behind d' ≡ false → EndsBroken true d piece d'.height Truncated) × (length piece' ≤ 7) ×
      (waits_behind d' ≡ true → StaysOpen d d' piece)
  pub done : (n : ℕ) → answer ≡ Some (outcome.Done n) → (d'.height ≡ n) × EndsWhole is_all d piece n × EndsConsumed is_all d d' piece piece' n
  pub broken : (f : Fault) → answer ≡ Some (outcome.Broken f) → EndsBroken is_all d piece d'.height f

-- ---- behind an end marker

-- the fields beside the walk stay the same
pub record KeepsDecoder (d d' : PieceView) : Type 0 where
  pub header : d'.header ≡ d.header
  pub height : d'.height ≡ d.height
  pub is_open : d'.is_open ≡ d.is_open
  pub waits : d'.waits ≡ d.waits
  pub behind : d'.behind ≡ d.behind
  pub going : d'.end ≡ d.end

-- a row that waited was given, below this one of the stripe before
pub record GivesBelow (d d' : PieceView) (limit : ℕ) : Type 0 where
  pub keeps : KeepsDecoder d d'
  pub code : IsInCode d.walk.stage
  pub entities : d'.walk.entities ≡ d.walk.entities
  pub below : d'.walk.row ≤ limit
  pub on : DecoderOn d d' [] [] (row_held d')

-- The stripe before was ended.
pub record StripeLeft (d d' : PieceView) : Type 0 where
  pub keeps : KeepsDecoder d d'
  pub entities : d.header.l0 < d.walk.left → d'.walk.entities ≡ d.walk.entities + 1
  pub given : d'.walk.given ≡ d.walk.given
  pub at : d'.walk.at ≡ None
  pub stage : d.header.l0 < d.walk.left → d'.walk.stage ≡ stage.Head
  pub stands : (text out : List ℕ) → WalkStands (sized (fields_of d.header) d.header.yd) d.walk text out → WalkStands (sized (fields_of d.header) d.header.yd) d'.walk text out
  pub read : (text out : List ℕ) → WalkStands (sized (fields_of d.header) d.header.yd) d.walk text out →
      StripesRead (fields_of d.header) d.header.yd (passage (Some text) (Some []) (Some []) (Some out)) (d.walk.entities + 1) (if d.walk.given then 1 else 0) d'.walk.carried

-- The stripe before was ended, if there was one.
pub record StripeClosed (d d' : PieceView) : Type 0 where
  pub keeps : KeepsDecoder d d'
  pub stage : d'.walk.stage ≡ stage.Head
  pub entities : d'.walk.entities ≡ (place_behind (fields_of d.header) d.walk.stage d.walk.entities).entities
  pub given : d'.walk.given ≡ false
  pub at : d'.walk.at ≡ None
  pub stands : (text out : List ℕ) → (w : WalkWaits (fields_of d.header) d.walk d.behind text out) → WalkStands (sized (fields_of d.header) d.header.yd) d'.walk w.done out

-- The stripe before was ended: what came behind it is the head of the next.
pub record HeadEntered (d d' : PieceView) : Type 0 where
  pub keeps : KeepsDecoder d d'
  pub stage : d'.walk.stage ≡ head_kind d.behind.comment
  pub comment : (left : ℕ) → d.behind.comment ≡ Some left → d'.walk.comment ≡ left
  pub entities : d'.walk.entities ≡ (place_behind (fields_of d.header) d.walk.stage d.walk.entities).entities
  pub given : d'.walk.given ≡ false
  pub at : d'.walk.at ≡ d.behind.at
  pub stands : (text out : List ℕ) → WalkWaits (fields_of d.header) d.walk d.behind text out → WalkStands (sized (fields_of d.header) d.header.yd) d'.walk text out

-- a valid height comes next
pub record HeightComes (h : Fields) (w : WalkView) (n : ℕ) (piece rest : List ℕ) : Type 0 where
  pub valid : is_valid_length h (place_behind h w.stage w.entities).entities n ≡ true
  pub legal : IsLegal h (NewLength n)
  pub piece_is : piece ≡ segment_bytes (NewLength n) ++ rest

-- no height comes behind the last stripe, whatever follows the piece
abbrev pub LookIsOver : Bool → PieceView → List ℕ → Type 0
LookIsOver is_all d piece =
    (back rest : List ℕ) → BehindStands (fields_of d.header) (behind_at (place_behind (fields_of d.header) d.walk.stage d.walk.entities) true) d.behind back → MayFollow is_all rest →
    LookEnds (fields_of d.header) (place_behind (fields_of d.header) d.walk.stage d.walk.entities).entities ((back ++ piece) ++ rest)

-- whether the last stripe is over there that the header's height makes
abbrev pub is_last_of : PieceDecoder → Behind → Bool
is_last_of d b = last_behind (fields_of d.image.header) (code_kind b.code.begun) d.course.left

-- where what comes behind stands
abbrev pub place_after : PieceDecoder → Behind → Place
place_after d b = place_behind (fields_of d.image.header) (code_kind b.code.begun) d.course.entities

-- how many steps may be left: each takes bytes, or is the one that begins to wait
abbrev pub steps_left : Bool → List ℕ → ℕ
steps_left waits piece = 2 * length piece + (if waits then 0 else 1)

-- no bytes are added, and fewer steps are left if another one follows
abbrev pub Lowers : (waits waits' : Bool) → List ℕ → List ℕ → Option Outcome → Type 0
Lowers waits waits' piece piece' answer = (length piece' ≤ length piece) × (answer ≡ None → steps_left waits' piece' < steps_left waits piece)
