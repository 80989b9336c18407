-- A decoder in pieces, as plain numbers.
use Rattle.std.specs.Prelude.{ℕ, ◌+◌, ◌<◌, ◌≤◌, ◌≡◌, ⊤, min, ◌==◌, not, Bool, true, false, Option, Some, None}
use Rattle.std.specs.Int.{from_bool}
use Rattle.std.specs.Option.{unwrap_or}
use Rattle.qm_core.specs.Decoder.{decoder_registers, has_stopped}
use Rattle.raster_core.specs.Row.{row_place_numbers}
use Rattle.raster_core.specs.declared.place.RowPlace.{RowPlace}
use Rattle.raster_core.specs.declared.place.RowPlaceNumbers.{RowPlaceNumbers}
use Rattle.t85_core.specs.Header.{Fields}
use Rattle.t85_core.specs.Options.{fields_of}
use Rattle.t85_core.specs.Phases.{phase_behind, phase_is_open, phase_stage}
use Rattle.t85_core.specs.declared.pieces.PieceDecoder.{PieceDecoder}
use Rattle.t85_core.specs.declared.pieces.code.InCode.{InCode}
use Rattle.t85_core.specs.declared.pieces.head.Head.{Head}
use Rattle.t85_core.specs.declared.pieces.numbers.HeadNumbers.{HeadNumbers}
use Rattle.t85_core.specs.declared.pieces.numbers.MoveNumbers.{MoveNumbers}
use Rattle.t85_core.specs.declared.pieces.numbers.PieceNumbers.{PieceNumbers}
use Rattle.t85_core.specs.declared.pieces.numbers.StageNumbers.{StageNumbers}
use Rattle.t85_core.specs.declared.pieces.phase.Phase.{Phase}
use Rattle.t85_core.specs.declared.pieces.phase.Phase.TheVariants as phase
use Rattle.t85_core.specs.declared.pieces.course.Course.{Course}
use Rattle.t85_core.specs.declared.pieces.course.Stage.{Stage}
use Rattle.t85_core.specs.declared.pieces.course.Stage.TheVariants as stage
use Rattle.t85_core.specs.declared.segments.Code.{Code}
use Rattle.t85_core.specs.declared.segments.Code.TheVariants as code
use Rattle.t85_core.specs.declared.segments.atmove.Move.{Move}

-- whether a flag is set
abbrev pub is_set : ℕ → Bool
is_set byte = not (byte == 0)

-- the number of an end marker, by whether it resets
abbrev pub reset_number : Bool → ℕ
reset_number false = 1
reset_number true = 2

abbrev pub marker_number : Option Bool → ℕ
marker_number None = 0
marker_number (Some reset) = reset_number reset

-- the number of the bytes read ahead of a code
abbrev pub code_number : Option Code → ℕ
code_number None = 0
code_number (Some (code.Marker reset)) = reset_number reset
code_number (Some (code.Byte b)) = 256 + b

-- ---- the numbers that a decoder stores: one that its state does not have is 0

abbrev pub move_numbers : Option Move → MoveNumbers
move_numbers None = record { row = 0; offset = 0; is_there = 0 }
move_numbers (Some to) = record { row = to.row; offset = to.offset; is_there = 1 }

abbrev pub comment_number : Option ℕ → ℕ
comment_number comment = unwrap_or comment 0

abbrev pub is_there_number : Option ℕ → ℕ
is_there_number None = 0
is_there_number (Some _) = 1

abbrev pub head_numbers : Head → HeadNumbers
head_numbers head = record { at = move_numbers head.at; comment = comment_number head.comment; has_comment = is_there_number head.comment }

abbrev pub place_numbers : Option RowPlace → RowPlaceNumbers
place_numbers None = record { is_begun = 0; done = 0; past_high = 0; past_low = 0 }
place_numbers (Some place) = row_place_numbers place

abbrev pub code_next : Option RowPlace → ℕ
code_next None = 2
code_next (Some _) = 3

abbrev pub stage_numbers : Stage → StageNumbers
stage_numbers (stage.Head head) = record {
  at = move_numbers head.at;
  comment = comment_number head.comment;
  row = 0;
  place = place_numbers None;
  ahead = 0;
  marker = 0;
  next = is_there_number head.comment;
}
stage_numbers (stage.Code c) = record {
  at = move_numbers c.at;
  comment = 0;
  row = c.row;
  place = place_numbers c.begun;
  ahead = code_number c.first;
  marker = marker_number c.marker;
  next = code_next c.begun;
}
stage_numbers stage.Done = record { at = move_numbers None; comment = 0; row = 0; place = place_numbers None; ahead = 0; marker = 0; next = 4 }

abbrev pub waits_number : Phase → ℕ
waits_number (phase.Known s) = 0
waits_number (phase.First head) = 1
waits_number (phase.Code code) = 0
waits_number (phase.Behind behind) = 1
waits_number phase.Late = 2

-- the numbers of a decoder, without its end
abbrev pub piece_numbers : PieceDecoder → PieceNumbers
piece_numbers d = record {
  stage = stage_numbers (phase_stage d.phase);
  decoder = decoder_registers d.course.decoder;
  behind = head_numbers (phase_behind d.phase);
  height = d.image.height;
  entities = d.course.entities;
  left = d.course.left;
  offset = d.course.kept.offset;
  is_previous_typical = from_bool d.course.kept.previous_typical;
  is_open = from_bool (phase_is_open d.phase);
  waits = waits_number d.phase;
  is_given = from_bool d.course.given;
}

-- ---- the numbers from which a decoder resumes: one that its state does not have may be any

-- These are the numbers of a move, or of none.
abbrev pub AreMoveNumbers : MoveNumbers → Option Move → Type 0
AreMoveNumbers n None = is_set n.is_there ≡ false
AreMoveNumbers n (Some to) = (is_set n.is_there ≡ true) × (n.row ≡ to.row) × (n.offset ≡ to.offset)

-- the numbers of marker segments that arrived
abbrev pub AreCommentNumbers : HeadNumbers → Option ℕ → Type 0
AreCommentNumbers n None = is_set n.has_comment ≡ false
AreCommentNumbers n (Some left) = (is_set n.has_comment ≡ true) × (n.comment ≡ left)

abbrev pub AreHeadNumbers : HeadNumbers → Head → Type 0
AreHeadNumbers n head = AreMoveNumbers n.at head.at × AreCommentNumbers n head.comment

-- what comes next in a head, and in a code
abbrev pub IsHeadNext : StageNumbers → Option ℕ → Type 0
IsHeadNext n None = n.next ≡ 0
IsHeadNext n (Some left) = (n.next ≡ 1) × (n.comment ≡ left)

abbrev pub IsCodeNext : StageNumbers → Option RowPlace → Type 0
IsCodeNext n None = n.next ≡ 2
IsCodeNext n (Some place) = (n.next ≡ 3) × (n.place ≡ row_place_numbers place)

pub record AreCodeNumbers (n : StageNumbers) (c : InCode) : Type 0 where
  pub at_are : AreMoveNumbers n.at c.at
  pub row_is : n.row ≡ c.row
  pub next_is : IsCodeNext n c.begun
  pub first_is : n.ahead ≡ code_number c.first
  pub marker_is : n.marker ≡ marker_number c.marker

abbrev pub AreStageNumbers : StageNumbers → Stage → Type 0
AreStageNumbers n (stage.Head head) = AreMoveNumbers n.at head.at × IsHeadNext n head.comment
AreStageNumbers n (stage.Code c) = AreCodeNumbers n c
AreStageNumbers n stage.Done = n.next ≡ 4

-- At most all rows of a stripe are decoded. A row that has begun is another one of them, and has a pixel left.
abbrev pub PlaceFits : Fields → (left row : ℕ) → Option RowPlace → Type 0
PlaceFits h left row None = row ≤ min left h.l0
PlaceFits h left row (Some place) = (row < min left h.l0) × (place.done < h.xd)

abbrev pub StageFits : Fields → (left : ℕ) → Stage → Type 0
StageFits h left (stage.Head head) = ⊤
StageFits h left (stage.Code c) = PlaceFits h left c.row c.begun
StageFits h left stage.Done = ⊤

-- what a decoder has decoded is in its image
abbrev pub StaysInImage : PieceDecoder → Type 0
StaysInImage d = StageFits (fields_of d.image.header) d.course.left (phase_stage d.phase)

-- whether a height may still arrive
abbrev pub ArePhaseNumbers : PieceNumbers → Phase → Type 0
ArePhaseNumbers n (phase.Known s) = is_set n.is_open ≡ false
ArePhaseNumbers n (phase.First head) = (is_set n.is_open ≡ true) × (n.waits ≡ 1) × AreHeadNumbers n.behind head
ArePhaseNumbers n (phase.Code code) = (is_set n.is_open ≡ true) × (n.waits ≡ 0)
ArePhaseNumbers n (phase.Behind behind) = (is_set n.is_open ≡ true) × (n.waits ≡ 1) × AreHeadNumbers n.behind behind.head
ArePhaseNumbers n phase.Late = (is_set n.is_open ≡ true) × (n.waits ≡ 2)

-- the numbers of a stripe and of the state carried there
pub record AreCourseNumbers (n : PieceNumbers) (c : Course) : Type 0 where
  pub entities_are : n.entities ≡ c.entities
  pub left_is : n.left ≡ c.left
  pub given_is : is_set n.is_given ≡ c.given
  pub offset_is : n.offset ≡ c.kept.offset
  pub typical_is : is_set n.is_previous_typical ≡ c.kept.previous_typical
  pub decoder_is : n.decoder ≡ decoder_registers c.decoder

-- the numbers of a decoder, without its end
pub record ArePieceNumbers (n : PieceNumbers) (d : PieceDecoder) : Type 0 where
  pub height_is : n.height ≡ d.image.height
  pub phase_is : ArePhaseNumbers n d.phase
  pub stage_is : AreStageNumbers n.stage (phase_stage d.phase)
  pub course_is : AreCourseNumbers n d.course

-- The same, but for a decoder that has stopped.
pub record IsCourseAs (c c' : Course) : Type 0 where
  pub decoder_is : has_stopped c.decoder ≡ false → c'.decoder ≡ c.decoder
  pub same : c' ≡ record c { decoder = c'.decoder }
