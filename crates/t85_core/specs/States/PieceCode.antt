-- The position of a decoder in the code of a stripe, whose pieces arrive one by one.
use Rattle.std.specs.Prelude.{ℕ, ◌≡◌, ◌<◌, ◌⊎◌, Bool, List, [], ◌++◌, Option, Some, None, ◌≤◌, length, IfSome}
use Rattle.qm_core.specs.Code.{stuffed}
use Rattle.qm_core.specs.declared.source.Pulled.{Pulled}
use Rattle.t85_core.specs.declared.segments.Code.{Code}
use Rattle.t85_core.specs.declared.segments.Code.TheVariants as code
use Rattle.t85_core.specs.Grammar.{marker_bytes}
use Rattle.t85_core.specs.States.Segments.{code_bytes, IsByteOrMarker}
use Rattle.std.specs.List.{AllByRecursion}
use Rattle.qm_core.specs.Source.{bytes_of, heard_of}
use Rattle.qm_core.specs.declared.source.Heard.TheVariants.{More, Ended, Stopped}
use Rattle.qm_core.specs.declared.decoder.Decoder.{Decoder}
use Rattle.raster_core.specs.Row.{StandsInRow, row_task}
use Rattle.raster_core.specs.declared.place.RowPlace.{RowPlace}
use Rattle.raster_core.specs.declared.shape.Shape.{Shape}
use Rattle.t85_core.specs.Lent.{Carried}
use Rattle.t85_core.specs.Coding.{move_of}
use Rattle.t85_core.specs.States.State.{offset_at}
use Rattle.t85_core.specs.States.Cut.{OpenStripe}
use Rattle.t85_core.specs.States.DecodeRows.{Leads, RowsDone, rows_done, RowsRead}

-- what was read ahead of a code
abbrev pub ahead_bytes : Option Code → List ℕ
ahead_bytes None = []
ahead_bytes (Some c) = code_bytes c

-- a source of which only the answers count
abbrev pub Anything : Unit {0} → Pulled → Unit {0} → Type 0
Anything s answer t = Unit {0}

-- the first rows of a stripe: decoded from these answers, and handed out
abbrev pub RowsKnown : OpenStripe → Shape → RowsDone → List ℕ → List ℕ → Type 0
RowsKnown stripe shape done began out = RowsRead (Leads Anything tt tt) stripe shape done (Some began) (Some out)

-- The text of a code so far: its bytes that were answered, those that were skipped after them, and what was read ahead.
pub record CodeOpen (first : Option Code) (answers : List Pulled) (extra text : List ℕ) : Type 0 where
  pub going : heard_of answers ≡ More
  pub bytes : AllByRecursion (λ b. b < 256) (bytes_of answers)
  pub small : AllByRecursion (λ b. b < 256) extra
  pub ahead : IfSome first IsByteOrMarker
  pub begun : first ≡ None → 1 ≤ length (bytes_of answers ++ extra)
  pub text_is : text ≡ stuffed (bytes_of answers ++ extra) ++ ahead_bytes first

-- the same where its end marker was answered
pub record EntityEnded (first : Option Code) (reset : Bool) (answers : List Pulled) (extra text : List ℕ) : Type 0 where
  pub ended : heard_of answers ≡ Ended
  pub bytes : AllByRecursion (λ b. b < 256) (bytes_of answers)
  pub none : extra ≡ []
  pub behind : first ≡ None
  pub text_is : text ≡ stuffed (bytes_of answers) ++ marker_bytes reset

abbrev pub CodeText : Option Code → Option Bool → List Pulled → List ℕ → List ℕ → Type 0
CodeText first None answers extra text = CodeOpen first answers extra text
CodeText first (Some reset) answers extra text = EntityEnded first reset answers extra text

-- the end marker of the code was read: one that resets, or one that does not
abbrev pub MarkerIs : Bool → Option Bool → Option Code → Type 0
MarkerIs reset marker first = (marker ≡ Some reset) ⊎ (first ≡ Some (code.Marker reset))

abbrev pub MarkerRead : Option Bool → Option Code → Type 0
MarkerRead marker first = (reset : Bool) × MarkerIs reset marker first

-- A row that has begun: how many rows come before it, what is carried, the decoder of its pixels, and how far it is.
pub record OpenRow : Type 0 where
  pub row : ℕ
  pub carried : Carried
  pub decoder : Decoder
  pub place : RowPlace

abbrev pub open_row : ℕ → Carried → Decoder → RowPlace → OpenRow
open_row row carried decoder place = record { row = row; carried = carried; decoder = decoder; place = place }

-- A row of a stripe that has begun: the rows before it, the answers since, and its position.
pub record RowBegun (stripe : OpenStripe) (shape : Shape) (at : OpenRow) (began out : List ℕ) : Type 0 where
  pub start : Carried
  pub decoder : Decoder
  pub read : RowsKnown stripe shape (rows_done at.row start decoder) began out
  pub since : List Pulled
  pub unstopped : heard_of (read.answers ++ since) ≡ Stopped → ⊥
  pub offset_is : at.carried.kept.offset ≡ offset_at (move_of stripe.segments) at.row start.kept.offset
  pub previous_is : at.carried.kept.previous_typical ≡ start.kept.previous_typical
  pub stands : StandsInRow (row_task shape at.carried.kept read.last.state (record { row = read.is_carried.third; above = read.last.above; second = read.last.second })) at.place
      (read.answers ++ since)
      at.carried.held at.carried.learned at.decoder
