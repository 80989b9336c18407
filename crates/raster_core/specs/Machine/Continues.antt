-- Continuing a row: the state before a call and after it.
use Rattle.std.specs.Prelude.{Bool, List, Result}
use Rattle.qm_core.specs.Place.{State}
use Rattle.qm_core.specs.Decoder.{source_of}
use Rattle.qm_core.specs.Source.{SourceAt}
use Rattle.qm_core.specs.declared.source.CodeBytes.{Ghosts}
use Rattle.qm_core.specs.declared.source.Pulled.{Pulled}
use Rattle.qm_core.specs.declared.decoder.Stop.{Stop}
use Rattle.qm_core.specs.Reads.{reader_state}
use Rattle.qm_core.specs.declared.reader.Reader.{Reader}
use Rattle.raster_core.specs.Lines.{Lines}
use Rattle.raster_core.specs.Packed.{Held}
use Rattle.raster_core.specs.Row.{FirstStopped, IsRowStart, RowBegins, RowGoesOn, RowTask, StandsInRow, row_task, row_left}
use Rattle.raster_core.specs.Window.{shape_mode}
use Rattle.raster_core.specs.declared.place.RowPlace.{RowPlace}
use Rattle.raster_core.specs.declared.shape.Kept.{Kept}
use Rattle.raster_core.specs.declared.shape.Shape.{Shape}

-- the state carried from the row before, the position in the row, the rows, and the reader
pub record RowProgress (S : Type 0) : Type 0 where
  pub kept : Kept
  pub place : RowPlace
  pub rows : Held
  pub reader : Reader S

abbrev pub row_progress : {S : Type 0} → Kept → RowPlace → Held → Reader S → RowProgress S
row_progress kept place rows reader = record { kept = kept; place = place; rows = rows; reader = reader }

-- the effect of continuing a row, for every row and code that is decoded this far
abbrev pub RowContinues : {S : Type 0} → Ghosts S → Shape → RowProgress S → RowProgress S → Result (Unit {0}) Stop → Type 0
RowContinues source shape old new result =
    (s : State) (answers : List Pulled) (lines : Lines) →
    StandsInRow (row_task shape old.kept s lines) old.place answers old.rows old.reader.learned.now old.reader.decoder.now →
    RowGoesOn (source_of source old.reader.source.now answers) (row_task shape old.kept s lines) (row_left new.kept new.rows) new.place (reader_state new.reader) result

-- from this position of a row, the events before its pixels were decoded
abbrev pub BeginsRow : {S : Type 0} → RowPlace → Bool → Reader S → SourceAt S → RowTask → Held → Type 0
BeginsRow place flag r from task window = RowBegins from task place window flag (reader_state r)

-- from the beginning of a row, the source stopped in the events before its pixels
abbrev pub StopsBeforeRow : {S : Type 0} → RowPlace → Reader S → SourceAt S → RowTask → Held → Type 0
StopsBeforeRow place r from task window = IsRowStart place × FirstStopped from (shape_mode task.shape) task.state (reader_state r)
