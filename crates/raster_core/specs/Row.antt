-- The effect of encoding or decoding a row.
use Rattle.std.specs.Prelude.{ℕ, ◌≡◌, ◌/◌, ◌%◌, ◌^◌, List, ◌++◌, Result, OnOk, OnErr, ◌↔◌, Bool, true, false, [], ◌∷◌, length, IsErr, IsTrue, if◌then◌else◌, replicate}
use Rattle.std.specs.Int.{from_bool}
use Rattle.qm_core.specs.Place.{State, Event, Estimate, Place, IsPlace, after}
use Rattle.qm_core.specs.Encoder.{EncoderState}
use Rattle.qm_core.specs.Sink.{SinkAt}
use Rattle.qm_core.specs.declared.encoder.CoderFault.{CoderFault}
use Rattle.raster_core.specs.Lines.{Lines, row_events, pixel_events, may_be_typical, Mode, pseudo_event, IsLegalFlag}
use Rattle.raster_core.specs.Window.{shape_mode}
use Rattle.qm_core.specs.Puts.{Encodes, FailsIn}
use Rattle.raster_core.specs.Events.{Decodes, Stops}
use Rattle.raster_core.specs.declared.shape.Shape.{Shape}
use Rattle.raster_core.specs.declared.shape.Kept.{Kept}
use Rattle.qm_core.specs.Code.{Lies, IsBytes}
use Rattle.qm_core.specs.Skipping.{IsDetermined}
use Rattle.qm_core.specs.Source.{bytes_of, heard_of, IsClosed, Agrees, Gives, SourceAt, before_fault, source_at}
use Rattle.qm_core.specs.Decoder.{DecoderIsAt, DecoderState}
use Rattle.qm_core.specs.declared.source.Pulled.{Pulled}
use Rattle.qm_core.specs.declared.source.Heard.TheVariants.{More, Stopped}
use Rattle.qm_core.specs.declared.decoder.Decoder.{Decoder}
use Rattle.qm_core.specs.declared.decoder.Stop.{Stop}
use Rattle.raster_core.specs.Packed.{Held, HasLines, packed_row}
use Rattle.raster_core.specs.Enough.{AreEnough}
use Rattle.raster_core.specs.Machine.Decoded.{PixelsHeld, PixelsSoFar, PlainRow, plain_row, with_row}
use Rattle.raster_core.specs.declared.place.RowPlace.{RowPlace}
use Rattle.raster_core.specs.declared.place.RowPlaceNumbers.{RowPlaceNumbers}

-- the events of a row that is coded as typical if it may be
abbrev pub canonical_events : Shape → Kept → Lines → List Event
canonical_events shape kept lines = row_events (shape_mode shape) lines kept.offset kept.previous_typical (may_be_typical (shape_mode shape) lines)

-- The inputs for coding a row: its shape, the values kept from the row before it, the state before it, and the lines.
pub record RowTask : Type 0 where
  pub shape : Shape
  pub kept : Kept
  pub state : State
  pub lines : Lines

abbrev pub row_task : Shape → Kept → State → Lines → RowTask
row_task shape kept state lines = record { shape = shape; kept = kept; state = state; lines = lines }

-- A row was encoded.
pub record RowCoded {S : Type 0} (old : SinkAt S) (task : RowTask) (kept' : Kept) (new : EncoderState S) : Type 0 where
  pub encodes : Encodes old task.state (canonical_events task.shape task.kept task.lines) new
  pub offset_is : kept'.offset ≡ task.kept.offset
  pub flag_is : kept'.previous_typical ≡ may_be_typical (shape_mode task.shape) task.lines

-- The effect of a call of `encode_row` on an encoder at a state, after `old.pushed` was written, and a window with these lines.
pub record RowEncoded {S : Type 0} (old : SinkAt S) (task : RowTask) (kept' : Kept) (new : EncoderState S) (result : Result (Unit {0}) CoderFault) : Type 0 where
  pub ok : OnOk result (RowCoded old task kept' new)
  pub err : OnErr result (FailsIn old task.state (canonical_events task.shape task.kept task.lines) new.out)

-- the events before a row's pixels
abbrev pub first_events : Mode → Bool → Bool → List Event
first_events mode previous flag = if mode.typical then pseudo_event mode previous flag ∷ [] else []

-- the events before a row's pixels were decoded
pub record FirstDecoded {S : Type 0} (old : SourceAt S) (mode : Mode) (previous flag : Bool) (s : State) (new : DecoderState S) : Type 0 where
  pub more : List Pulled
  pub decodes : Decodes old s more (first_events mode previous flag) new

-- the source stopped there
pub record FirstStopped {S : Type 0} (old : SourceAt S) (mode : Mode) (s : State) (new : DecoderState S) : Type 0 where
  pub more : List Pulled
  pub stops : Stops old s more [] new
  pub typical : IsTrue mode.typical

-- the events of a row, after a row that left these values
abbrev pub events_after : Shape → Kept → Lines → Bool → List Event
events_after shape kept lines flag = row_events (shape_mode shape) lines kept.offset kept.previous_typical flag

-- The results of decoding a row: the values kept for the row after it, and the rows of the window.
pub record RowLeft : Type 0 where
  pub kept : Kept
  pub window : Held

abbrev pub row_left : Kept → Held → RowLeft
row_left kept window = record { kept = kept; window = window }

-- the events of a row with these pixels and this flag
abbrev pub task_events : RowTask → List Bool → Bool → List Event
task_events task row flag = events_after task.shape task.kept (with_row task.lines row) flag

-- The row is decoded: it has a legal flag, and the interval after its events contains every continuation of the code.
pub record RowIs (task : RowTask) (answers : List Pulled) (left : RowLeft) (learned : List Estimate) (d : Decoder) : Type 0 where
  pub row : List Bool
  pub flag : Bool
  pub wide : length row ≡ task.shape.width
  pub legal : IsLegalFlag (shape_mode task.shape) (with_row task.lines row) flag
  pub inside : (c : List ℕ) → Agrees answers c → Lies c (after task.state (task_events task row flag)).place
  pub lines_are : HasLines left.window (with_row task.lines row)
  pub offset_is : left.kept.offset ≡ task.kept.offset
  pub flag_is : left.kept.previous_typical ≡ flag
  pub stands : DecoderIsAt d (after task.state (task_events task row flag)).place answers
  pub taught : learned ≡ (after task.state (task_events task row flag)).learned
  -- if the source has not ended, the bytes read were enough for each of the row's events
  pub enough : heard_of answers ≡ More → AreEnough (length (bytes_of answers)) task.state (task_events task row flag)

-- the bytes read do not determine all events of any row
abbrev pub IsRowUndecided : Shape → Kept → State → List Pulled → Lines → Type 0
IsRowUndecided shape kept s answers lines =
    (row : List Bool) (flag : Bool) → length row ≡ shape.width → IsLegalFlag (shape_mode shape) (with_row lines row) flag →
    Lies (bytes_of answers) (after s (events_after shape kept (with_row lines row) flag)).place →
    AreEnough (length (bytes_of answers)) s (events_after shape kept (with_row lines row) flag) → ⊥

-- a decoder that stays stopped
abbrev pub StaysStopped : Decoder → List Pulled → Type 0
StaysStopped d answers = (p : Place) × DecoderIsAt d p answers

-- The effect of a call of `decode_row` on a decoder at a state, after `old.answers`, and a window with these lines.
pub record RowDecoded {S : Type 0} (old : SourceAt S) (task : RowTask) (left : RowLeft) (new : DecoderState S) (result : Result (Unit {0}) Stop) : Type 0 where
  -- the answers of the source in this call
  pub more : List Pulled
  pub gives : Gives old.pull old.from more new.source
  pub ok : OnOk result (RowIs task (old.answers ++ more) left new.learned new.decoder)
  -- it stops if and only if the source has
  pub stop : IsErr result ↔ (heard_of (old.answers ++ more) ≡ Stopped)
  pub undecided : OnErr result (IsPlace task.state.place → IsRowUndecided task.shape task.kept task.state (old.answers ++ more) task.lines)
  pub stays : OnErr result (StaysStopped new.decoder (old.answers ++ more))

-- ---- typical rows, several at once

-- the event of a typical row after a typical row
abbrev pub again_event : Shape → Event
again_event shape = pseudo_event (shape_mode shape) true true

-- After a typical row, `count` typical rows were encoded. If the sink refused a byte, it did so at the event of one of them.
pub record RowsEncodedAgain {S : Type 0} (old : SinkAt S) (shape : Shape) (s : State) (count : ℕ) (new : EncoderState S) (result : Result (Unit {0}) CoderFault) : Type 0 where
  pub ok : OnOk result (Encodes old s (replicate count (again_event shape)) new)
  pub err : OnErr result (FailsIn old s (replicate count (again_event shape)) new.out)

-- after a typical row, the bits already read determine that the next row is typical
pub record CanSkipRow (shape : Shape) (kept : Kept) (d : Decoder) (s : State) (answers : List Pulled) : Type 0 where
  pub typical : shape.typical ≡ true
  pub previous : kept.previous_typical ≡ true
  pub next : IsDetermined d s answers (again_event shape)

-- ---- a row whose code arrives in parts

-- the beginning of a row
pub record IsRowStart (place : RowPlace) : Type 0 where
  pub is_begun : place.is_begun ≡ false
  pub done : place.done ≡ 0
  pub past : place.past ≡ 0

-- a position in a row as numbers
abbrev pub row_place_numbers : RowPlace → RowPlaceNumbers
row_place_numbers place = record {
  is_begun = from_bool place.is_begun;
  done = place.done;
  past_high = place.past / 2 ^ 64;
  past_low = place.past % 2 ^ 64;
}

-- a window contains the two rows above a row
pub record HasAbove (w : Held) (lines : Lines) : Type 0 where
  pub above_is : w.above ≡ packed_row lines.above
  pub second_is : w.second ≡ packed_row lines.second
  pub above_wide : length lines.above ≡ w.width
  pub second_wide : length lines.second ≡ w.width

-- the first events of a plain row, up to these pixels
abbrev pub plain_events_of : Shape → Kept → Lines → List Bool → List Event
plain_events_of shape kept lines done =
    first_events (shape_mode shape) kept.previous_typical false ++ pixel_events (shape_mode shape) (with_row lines done) kept.offset

-- the row, if it is plain
abbrev pub plain_row_of : RowTask → PlainRow
plain_row_of task =
    plain_row (shape_mode task.shape) task.kept.offset (first_events (shape_mode task.shape) task.kept.previous_typical false) task.state task.lines

-- Pixels of a plain row are decoded, from the state of the task before the row. The answers are those of the source since
-- the beginning of the code, and they were enough for these pixels.
pub record StandsInPixels (task : RowTask) (place : RowPlace) (answers : List Pulled) (window : Held) (learned : List Estimate) (d : Decoder) : Type 0 where
  pub done : List Bool
  pub held : PixelsHeld task.kept.offset place window.current done
  pub stands : DecoderIsAt d (after task.state (plain_events_of task.shape task.kept task.lines done)).place answers
  pub taught : learned ≡ (after task.state (plain_events_of task.shape task.kept task.lines done)).learned
  pub enough : AreEnough (length (bytes_of answers)) task.state (plain_events_of task.shape task.kept task.lines done)

-- nothing of a row is decoded
pub record StandsBeforeRow (place : RowPlace) (s : State) (answers : List Pulled) (learned : List Estimate) (d : Decoder) : Type 0 where
  pub start : IsRowStart place
  pub stands : DecoderIsAt d s.place answers
  pub taught : learned ≡ s.learned

-- A row is decoded as far as its position says.
pub record StandsInRow (task : RowTask) (place : RowPlace) (answers : List Pulled) (window : Held) (learned : List Estimate) (d : Decoder) : Type 0 where
  pub above : HasAbove window task.lines
  pub before_it : place.is_begun ≡ false → StandsBeforeRow place task.state answers learned d
  pub in_it : place.is_begun ≡ true → StandsInPixels task place answers window learned d

-- The effect of a step on a row that is decoded as far as its position says, for every earlier state and code.
abbrev pub FromRowPlace : {S : Type 0} (pull : S → Pulled → S → Type 0) (shape : Shape) (kept : Kept) (place : RowPlace) (old : DecoderState S) (Leaves : SourceAt S → RowTask → Held → Type 0) → Type 0
FromRowPlace {S} pull shape kept place old Leaves =
    (s : State) (answers : List Pulled) (lines : Lines) (window : Held) → StandsInRow (row_task shape kept s lines) place answers window old.learned old.decoder →
    Leaves (source_at pull old.source answers) (row_task shape kept s lines) window

-- The events before a row's pixels are decoded, for a row that was decoded as far as its position says.
pub record RowBegins {S : Type 0} (old : SourceAt S) (task : RowTask) (place : RowPlace) (window : Held) (flag : Bool) (new : DecoderState S) : Type 0 where
  pub plain : flag ≡ false → (done : List Bool) × PixelsHeld task.kept.offset place window.current done
      × PixelsSoFar old (plain_row_of task) done place.past new
  pub typical : flag ≡ true → (task.shape.typical ≡ true) × FirstDecoded old (shape_mode task.shape) task.kept.previous_typical true task.state new

-- The effect of continuing a row, after which a stopped decoder remains stopped.
pub record RowGoesOn {S : Type 0} (old : SourceAt S) (task : RowTask) (left : RowLeft) (place : RowPlace) (new : DecoderState S) (result : Result (Unit {0}) Stop) : Type 0 where
  pub decoded : RowDecoded old task left new result
  pub waits : OnErr result (StandsInRow task place (old.answers ++ decoded.more) left.window new.learned new.decoder)

-- The effect of a call of `go_on_row` on a row that was decoded so far with `old.answers`.
pub record RowPasses {S : Type 0} (old : SourceAt S) (task : RowTask) (left : RowLeft) (place : RowPlace) (new : DecoderState S) (result : Result (Unit {0}) Stop) : Type 0 where
  -- the answers of the source in this call
  pub more : List Pulled
  pub gives : Gives old.pull old.from more new.source
  pub ok : OnOk result (RowIs task (old.answers ++ more) left new.learned new.decoder)
  -- it stops if and only if the source has
  pub stop : IsErr result ↔ (heard_of (old.answers ++ more) ≡ Stopped)
  pub undecided : OnErr result (IsPlace task.state.place → IsRowUndecided task.shape task.kept task.state (old.answers ++ more) task.lines)
  pub closed : OnErr result (IsClosed (old.answers ++ more) × IsBytes (bytes_of (old.answers ++ more)))
  -- more of the row is decoded, and the decoder waits for the bytes that follow
  pub waits : OnErr result (StandsInRow task place (before_fault (old.answers ++ more)) left.window new.learned new.decoder)
