-- The position of a decoder that is fed in pieces.
use Rattle.std.specs.Prelude.{ℕ, ◌+◌, ◌-◌, ◌*◌, ◌^◌, ◌≡◌, ◌≤◌, ◌<◌, Bool, false, List, [], ◌∷◌, ◌++◌, length, min, Option, Some, None, IfSome, is_some, if◌then◌else◌, ◌⊎◌}
use Rattle.byteorder.specs.Endian.{big_bytes}
use Rattle.qm_core.specs.declared.decoder.Decoder.{Decoder}
use Rattle.raster_core.specs.declared.shape.Shape.{Shape}
use Rattle.raster_core.specs.declared.place.RowPlace.{RowPlace}
use Rattle.t85_core.specs.declared.fault.Fault.{Fault}
use Rattle.t85_core.specs.declared.fault.Fault.TheVariants.{Truncated}
use Rattle.t85_core.specs.declared.segments.Code.{Code}
use Rattle.t85_core.specs.declared.segments.atmove.Move as move
use Rattle.t85_core.specs.Lent.{Carried, WalkView}
use Rattle.t85_core.specs.Stages.{Kind}
use Rattle.t85_core.specs.Stages as stage
use Rattle.t85_core.specs.States.SizedImage.{SizedImage}
use Rattle.t85_core.specs.Header.{Fields}
use Rattle.t85_core.specs.Grammar.{stripe_count, ESC, COMMENT}
use Rattle.t85_core.specs.Failures.{counted_as}
use Rattle.t85_core.specs.States.Segments.{HasPassed, IsByteOrMarker, segments_so_far}
use Rattle.t85_core.specs.States.DecodeStripes.{StripesRead, ImageRead, ImageCut}
use Rattle.t85_core.specs.States.PieceCode.{RowsKnown, RowBegun, CodeText, MarkerRead, open_row}
use Rattle.t85_core.specs.States.Cut.{open_stripe}
use Rattle.t85_core.specs.States.DecodeRows.{rows_done}
use Rattle.t85_core.specs.States.Passage.{passage}

-- These bytes are broken, or end too early, and fix the rows that were handed out.
pub record CutOff (image : SizedImage) (text out : List ℕ) (fault : Fault) : Type 0 where
  pub counted : counted_as Truncated fault ≡ fault
  pub unread : List ℕ
  pub cut : ImageCut image.fields image.height (passage (Some text) (Some unread) (Some []) (Some out)) fault

-- A position in the head of a stripe: the number of stripe data entities, whether there was a height, the move, and the state
-- carried from the rows before it.
pub record HeadPlace : Type 0 where
  pub entities : ℕ
  pub given : Bool
  pub at : Option move.Move
  pub carried : Carried

abbrev pub head_place : ℕ → Bool → Option move.Move → Carried → HeadPlace
head_place entities given at carried = record { entities = entities; given = given; at = at; carried = carried }

-- there a walk is
abbrev pub head_place_of : WalkView → HeadPlace
head_place_of w = head_place w.entities w.given w.at w.carried

-- A position in the code of a stripe: the next row, the byte or marker that was read ahead, and the decoder.
pub record CodePlace : Type 0 where
  pub row : ℕ
  pub first : Option Code
  pub marker : Option Bool
  pub decoder : Decoder

abbrev pub code_place : ℕ → Option Code → Option Bool → Decoder → CodePlace
code_place row first marker d = record { row = row; first = first; marker = marker; decoder = d }

-- there a walk is
abbrev pub code_place_of : WalkView → CodePlace
code_place_of w = code_place w.row w.first w.marker w.decoder

-- A place in the head of a stripe: the stripes before it are decoded, and these segments of it were read.
pub record HeadStands (image : SizedImage) (here : HeadPlace) (text out : List ℕ) : Type 0 where
  pub before : Bool
  pub front : List ℕ
  pub back : List ℕ
  pub text_is : text ≡ front ++ back
  pub stripes : StripesRead image.fields image.height (passage (Some front) (Some []) (Some []) (Some out)) here.entities (if before then 1 else 0) here.carried
  pub comments : ℕ
  pub passed : HasPassed image.fields (record { height = image.height; entities = here.entities; given = before }) false (Some back) (Some [])
      (segments_so_far here.at (is_some here.at) here.given comments)
  pub fewer : here.entities < stripe_count image.height image.fields.l0

-- A place in a comment there, of which this many bytes are to come.
pub record CommentStands (image : SizedImage) (here : HeadPlace) (left : ℕ) (text out : List ℕ) : Type 0 where
  pub before : List ℕ
  pub head : HeadStands image here before out
  pub part : List ℕ
  pub small : length part + left < 2 ^ 32
  pub text_is : text ≡ before ++ (ESC ∷ COMMENT ∷ (big_bytes 4 (length part + left) ++ part))

-- how many rows a stripe has
abbrev pub rows_in : Fields → ℕ → ℕ → ℕ
rows_in h height entities = min (height - entities * h.l0) h.l0

-- A place in the code of a stripe, of which this many rows are decoded.
pub record CodeStands (image : SizedImage) (here : HeadPlace) (in_code : CodePlace) (text out : List ℕ) : Type 0 where
  pub before : List ℕ
  pub began : List ℕ
  pub start : Carried
  pub head : HeadStands image (head_place here.entities here.given here.at start) before began
  pub shape : Shape
  pub read : RowsKnown (open_stripe image.fields head.stripes.next head.passed.segments) shape (rows_done in_code.row here.carried in_code.decoder) began out
  pub few : in_code.row ≤ rows_in image.fields image.height here.entities
  pub extra : List ℕ
  pub rows_first : in_code.row < rows_in image.fields image.height here.entities → extra ≡ []
  pub code : List ℕ
  pub code_is : CodeText in_code.first in_code.marker read.answers extra code
  pub text_is : text ≡ before ++ code

-- A place in a row of a stripe, of which not all code came yet.
pub record InRowStands (image : SizedImage) (here : HeadPlace) (in_code : CodePlace) (place : RowPlace) (text out : List ℕ) : Type 0 where
  pub before : List ℕ
  pub began : List ℕ
  pub start : Carried
  pub head : HeadStands image (head_place here.entities here.given here.at start) before began
  pub shape : Shape
  pub begun : RowBegun (open_stripe image.fields head.stripes.next head.passed.segments) shape (open_row in_code.row here.carried in_code.decoder place) began out
  pub few : in_code.row < rows_in image.fields image.height here.entities
  pub code : List ℕ
  pub code_is : CodeText in_code.first in_code.marker (begun.read.answers ++ begun.since) [] code
  pub text_is : text ≡ before ++ code

abbrev pub StageStands : Kind → SizedImage → WalkView → List ℕ → List ℕ → Type 0
StageStands stage.Head image w text out = HeadStands image (head_place_of w) text out
StageStands stage.Comment image w text out = CommentStands image (head_place_of w) w.comment text out
StageStands stage.Code image w text out = CodeStands image (head_place_of w) (code_place_of w) text out
StageStands stage.Row image w text out = InRowStands image (head_place_of w) (code_place_of w) w.place text out
-- whatever comes after it
StageStands stage.Done image w text out = ImageRead image.fields image.height (passage (Some text) (Some []) (Some []) (Some out))

-- A walk has taken these bytes, and has handed out these.
pub record WalkStands (image : SizedImage) (w : WalkView) (text out : List ℕ) : Type 0 where
  pub left_is : w.left ≡ image.height - w.entities * image.fields.l0
  pub width_is : w.carried.held.width ≡ image.fields.xd
  pub code_is : IfSome w.first IsByteOrMarker
  pub behind : IfSome w.marker (λ _. w.first ≡ None)
  pub within : w.place.done < image.fields.xd
  pub stands : StageStands w.stage image w text out

abbrev pub HasMarker : WalkView → Type 0
HasMarker w = MarkerRead w.marker w.first

-- the code of a stripe has begun
abbrev pub IsInCode : Kind → Type 0
IsInCode s = (s ≡ stage.Code) ⊎ (s ≡ stage.Row)
