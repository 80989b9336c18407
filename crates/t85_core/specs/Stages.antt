-- The next item in a stream that arrives in pieces, and what is stored of it.
use Rattle.std.specs.Prelude.{ℕ, ◌≡◌, true, false, Bool, Option, Some, None, Result, Ok, Err}
use Rattle.raster_core.specs.declared.place.RowPlace.{RowPlace}
use Rattle.t85_core.specs.declared.pieces.code.InCode.{InCode}
use Rattle.t85_core.specs.declared.fault.Fault.{Fault}
use Rattle.t85_core.specs.declared.pieces.course.Stage.{Stage}
use Rattle.t85_core.specs.declared.pieces.course.Stage.TheVariants as stage
use Rattle.t85_core.specs.declared.pieces.head.Head as head
use Rattle.t85_core.specs.declared.segments.Code.{Code as CodeItem}
use Rattle.t85_core.specs.declared.segments.atmove.Move.{Move}

-- a marker segment of a stripe or its code, the rest of a comment, a row or the rest of a code, the rest of a row, or nothing
pub data Kind : Type 0 where
  Head : Kind
  Comment : Kind
  Code : Kind
  Row : Kind
  Done : Kind

abbrev pub head_kind : Option ℕ → Kind
head_kind None = Head
head_kind (Some left) = Comment

abbrev pub code_kind : Option RowPlace → Kind
code_kind None = Code
code_kind (Some place) = Row

abbrev pub stage_kind : Stage → Kind
stage_kind (stage.Head head) = head_kind head.comment
stage_kind (stage.Code code) = code_kind code.begun
stage_kind stage.Done = Done

-- the move of the stripe
abbrev pub stage_move : Stage → Option Move
stage_move (stage.Head head) = head.at
stage_move (stage.Code code) = code.at
stage_move stage.Done = None

-- how many bytes of a comment are still to come
abbrev pub comment_left : Option ℕ → ℕ
comment_left None = 0
comment_left (Some left) = left

abbrev pub stage_comment : Stage → ℕ
stage_comment (stage.Head head) = comment_left head.comment
stage_comment (stage.Code code) = 0
stage_comment stage.Done = 0

-- how many rows of the stripe are decoded
abbrev pub stage_row : Stage → ℕ
stage_row (stage.Head head) = 0
stage_row (stage.Code code) = code.row
stage_row stage.Done = 0

-- how far the next row is decoded: its beginning, if it has not begun
abbrev pub place_from : Option RowPlace → RowPlace
place_from None = record { is_begun = false; done = 0; past = 0 }
place_from (Some place) = place

abbrev pub stage_place : Stage → RowPlace
stage_place (stage.Head head) = place_from None
stage_place (stage.Code code) = place_from code.begun
stage_place stage.Done = place_from None

-- what was read ahead of the rows
abbrev pub stage_first : Stage → Option CodeItem
stage_first (stage.Head head) = None
stage_first (stage.Code code) = code.first
stage_first stage.Done = None

-- the end marker that a row has read
abbrev pub stage_marker : Stage → Option Bool
stage_marker (stage.Head head) = None
stage_marker (stage.Code code) = code.marker
stage_marker stage.Done = None

-- a code of which only the first element was read
pub record StartsCode (at : Option Move) (first : CodeItem) (c : InCode) : Type 0 where
  pub at_is : c.at ≡ at
  pub row_is : c.row ≡ 0
  pub begun_is : c.begun ≡ None
  pub first_is : c.first ≡ Some first
  pub marker_is : c.marker ≡ None

-- marker segments of which none has arrived
abbrev pub head_start : head.Head
head_start = record { at = None; comment = None }

-- what comes behind the end marker of a stripe, by whether another stripe follows
abbrev pub stage_behind : Bool → Stage
stage_behind true = stage.Head head_start
stage_behind false = stage.Done

-- what comes after marker segments were read, of which these have arrived
abbrev pub stage_read : head.Head → Result Stage Fault → Stage
stage_read head (Ok next) = next
stage_read head (Err fault) = stage.Head head
