-- The view of a decoder: its own numbers, and the memory that it borrows.
use Rattle.std.specs.Prelude.{ℕ, ◌≡◌, Bool, true, ◌&&◌, List, Option}
use Rattle.qm_core.specs.declared.decoder.Decoder.{Decoder}
use Rattle.qm_core.specs.Place.{Estimate}
use Rattle.raster_core.specs.Packed.{Held, next_place}
use Rattle.raster_core.specs.Window.{current_place, held, memory_of, width_of}
use Rattle.raster_core.specs.declared.shape.Kept.{Kept}
use Rattle.raster_core.specs.declared.place.RowPlace.{RowPlace}
use Rattle.raster_core.specs.declared.window.Window.{Window}
use Rattle.t85_core.specs.declared.header.Header.{Header}
use Rattle.t85_core.specs.declared.lent.Lent.{Lent}
use Rattle.t85_core.specs.declared.segments.Code.{Code}
use Rattle.t85_core.specs.declared.segments.atmove.Move.{Move}
use Rattle.t85_core.specs.declared.pieces.End.{End}
use Rattle.t85_core.specs.declared.pieces.PieceDecoder.{PieceDecoder}
use Rattle.t85_core.specs.declared.pieces.head.Head.{Head}
use Rattle.t85_core.specs.declared.pieces.course.Course.{Course}
use Rattle.t85_core.specs.declared.pieces.course.Stage.{Stage}
use Rattle.t85_core.specs.declared.pieces.course.Stage.TheVariants as stage
use Rattle.t85_core.specs.declared.pieces.phase.Phase.{Phase}
use Rattle.t85_core.specs.declared.pieces.walk.Walk.{Walk}
use Rattle.t85_core.specs.declared.pieces.code.InCode.{InCode}
use Rattle.t85_core.specs.Phases.{phase_behind, phase_is_open, phase_stage, phase_waits}
use Rattle.t85_core.specs.Stages.{Kind, stage_kind, stage_move, stage_comment, stage_row, stage_place, stage_first, stage_marker}

-- a window of the same width over the same memory
abbrev pub KeepsWindow : Window → Window → Type 0
KeepsWindow old new = (width_of new ≡ width_of old) × (memory_of new ≡ memory_of old)

-- with its current row at the same place
abbrev pub StaysWindow : Window → Window → Type 0
StaysWindow old new = KeepsWindow old new × (current_place new ≡ current_place old)

-- one row further: the previous current row is above the row at the current place
abbrev pub TurnsWindow : Window → Window → Type 0
TurnsWindow old new = KeepsWindow old new × (current_place new ≡ next_place (next_place (current_place old)))

-- the same two are borrowed: the same contexts, and the same window, which keeps its width and its memory
abbrev pub KeepsLent : Lent → Lent → Type 0
KeepsLent old new = (new.window.ghost_name ≡ old.window.ghost_name) × (new.learned.ghost_name ≡ old.learned.ghost_name) × KeepsWindow old.window.now new.window.now

-- the state carried from row to row and from stripe to stripe
pub record Carried : Type 0 where
  pub held : Held
  pub kept : Kept
  pub learned : List Estimate

abbrev pub carried_by : Window → Kept → List Estimate → Carried
carried_by window kept learned = record { held = held window; kept = kept; learned = learned }

-- how far a stream has been decoded, with the rows and the contexts that were borrowed
pub record WalkView : Type 0 where
  pub carried : Carried
  pub decoder : Decoder
  pub stage : Kind
  pub entities : ℕ
  pub left : ℕ
  pub given : Bool
  pub at : Option Move
  pub comment : ℕ
  pub row : ℕ
  pub place : RowPlace
  pub first : Option Code
  pub marker : Option Bool

-- the view at this stage of a course
abbrev pub stage_view : Course → Stage → Held → List Estimate → WalkView
stage_view c s rows learned = record {
  carried = record { held = rows; kept = c.kept; learned = learned };
  decoder = c.decoder;
  stage = stage_kind s;
  entities = c.entities;
  left = c.left;
  given = c.given;
  at = stage_move s;
  comment = stage_comment s;
  row = stage_row s;
  place = stage_place s;
  first = stage_first s;
  marker = stage_marker s;
}

abbrev pub stage_lent : Course → Stage → Lent → WalkView
stage_lent c s lent = stage_view c s (held lent.window.now) lent.learned.now

abbrev pub walk_lent : Walk → Lent → WalkView
walk_lent w lent = stage_lent w.course w.stage lent

-- in the code of a stripe
abbrev pub code_view : Course → InCode → Held → List Estimate → WalkView
code_view course c rows learned = stage_view course (stage.Code c) rows learned

abbrev pub code_lent : Course → InCode → Lent → WalkView
code_lent course c lent = stage_lent course (stage.Code c) lent

-- a decoder in pieces, with these
pub record PieceView : Type 0 where
  pub header : Header
  pub height : ℕ
  pub walk : WalkView
  pub is_open : Bool
  pub waits : Bool
  pub behind : Head
  pub end : Option End

-- whether it waits for the bytes behind an end marker, or for a height before the first stripe
abbrev pub waits_behind : PieceView → Bool
waits_behind d = d.is_open && d.waits

-- the same decoder, still behind an end marker with these marker segments
abbrev pub waiting : Head → PieceView → PieceView
waiting head d = record d { is_open = true; waits = true; behind = head }

-- the view of a decoder in this phase
abbrev pub phase_view : PieceDecoder → Phase → Held → List Estimate → PieceView
phase_view d phase rows learned = record {
  header = d.image.header;
  height = d.image.height;
  walk = stage_view d.course (phase_stage phase) rows learned;
  is_open = phase_is_open phase;
  waits = phase_waits phase;
  behind = phase_behind phase;
  end = d.end;
}

abbrev pub phase_lent : PieceDecoder → Phase → Lent → PieceView
phase_lent d phase lent = phase_view d phase (held lent.window.now) lent.learned.now

abbrev pub decoder_view : PieceDecoder → Held → List Estimate → PieceView
decoder_view d rows learned = phase_view d d.phase rows learned

abbrev pub decoder_over : PieceDecoder → Window → List Estimate → PieceView
decoder_over d window learned = decoder_view d (held window) learned

abbrev pub decoder_lent : PieceDecoder → Lent → PieceView
decoder_lent d lent = decoder_over d lent.window.now lent.learned.now
