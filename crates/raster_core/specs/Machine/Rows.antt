-- Rows in bytes: their pixels, and the pixels that a coder carries along them.
use Rattle.std.specs.Prelude.{ℕ, ◌+◌, ◌-◌, ◌*◌, ◌<◌, ◌≡◌, Bool, false, List, [], ◌∷◌, ◌++◌, if◌then◌else◌, Ok}
use Rattle.qm_core.specs.Place.{Place, Event}
use Rattle.qm_core.specs.Encoder.{EncoderIsAt, has_failed}
use Rattle.qm_core.specs.Skipping.{has_room}
use Rattle.qm_core.specs.declared.sink.CodeSink.{Ghosts}
use Rattle.raster_core.specs.Lines.{Lines, Mode}
use Rattle.raster_core.specs.Packed.{Held}
use Rattle.qm_core.specs.Puts.{state_at, HasRoom, Puts}
use Rattle.raster_core.specs.Row.{first_events}
use Rattle.raster_core.specs.Window.{shape_mode}
use Rattle.raster_core.specs.Machine.Registers.{before, past_bits, ByteAt}
use Rattle.raster_core.specs.Machine.Uniform.{filled, run_of, uniform_event, AreFilled}
use Rattle.raster_core.specs.Machine.Bytes.{bits, events_from}
use Rattle.qm_core.specs.declared.coder.Coder.{Coder}
use Rattle.raster_core.specs.declared.shape.Shape.{Shape}
use Rattle.raster_core.specs.declared.rows.Rows.{Rows}
use Rattle.raster_core.specs.declared.row_byte.Template.{Template}
use Rattle.raster_core.specs.declared.row_byte.Around.{Around}
use Rattle.raster_core.specs.declared.row_byte.RowByte.{RowByte}

-- a window contains these rows
abbrev pub held_in : Rows → Held
held_in rows = record { width = rows.width; current = rows.current.now; above = rows.above.now; second = rows.second.now }

-- the pixels in bytes
unfoldable pub row_in : List ℕ → List Bool
row_in [] = []
row_in (b ∷ bytes) = bits 8 b ++ row_in bytes

unfoldable pub lines_in : Rows → Lines
lines_in rows = record { row = row_in rows.current.now; above = row_in rows.above.now; second = row_in rows.second.now }

-- the pixels of this many bytes from byte i on, each in its context
abbrev pub bytes_events : Template → Rows → ℕ → ℕ → List Event
bytes_events template rows i count = events_from template (lines_in rows) (8 * i) (8 * count)

-- there are pixels from byte i on, and a coder accepts them all
pub record HasRest {S : Type 0} (sink : Ghosts S) (rows : Rows) (i : ℕ) (c : Coder S) : Type 0 where
  pub inside : 8 * i < rows.width
  pub room : HasRoom (rows.width - 8 * i) c

-- the pixels carried to byte i
pub record StandsAt (a : Around) (template : Template) (lines : Lines) (i : ℕ) : Type 0 where
  pub template_is : a.template ≡ template
  pub second_is : a.second ≡ before lines.second (8 * i + 8) 24
  pub above_is : a.above ≡ before lines.above (8 * i + 8) 24
  pub past_is : a.past ≡ before lines.row (8 * i) (past_bits template.offset)

-- byte i, and the bytes around it
pub record IsByte (b : RowByte) (template : Template) (lines : Lines) (i : ℕ) : Type 0 where
  pub template_is : b.around.template ≡ template
  pub at : ByteAt lines b.around.second b.around.above b.byte (8 * i)
  pub past_is : b.around.past ≡ before lines.row (8 * i) (past_bits template.offset)

-- the pixels carried behind a byte of any lines
abbrev pub PassesByte : RowByte → Around → Type 0
PassesByte b a = (lines : Lines) (i : ℕ) → IsByte b b.around.template lines i → StandsAt a b.around.template lines (i + 1)

-- `count` bytes of a colour from byte i on, and above them such bytes up to the one after them
pub record AreUniform (colour : Bool) (rows : Rows) (i count : ℕ) : Type 0 where
  pub row_filled : AreFilled colour rows.current.now i count
  pub above_filled : AreFilled colour rows.above.now (i + 1) count
  pub second_filled : AreFilled colour rows.second.now (i + 1) count

-- A run of a colour ends at byte i: if more than eight bytes of the row are left and the next eight have the colour, like those
-- above them, the coder has no room for their pixels.
pub record StopsAt {S : Type 0} (colour : Bool) (rows : Rows) (i : ℕ) (c : Coder S) : Type 0 where
  pub no_room : 8 * i + 64 < rows.width → AreUniform colour rows i 8 → (p : Place) (pushed : List ℕ) →
      has_failed c.encoder.now ≡ false → EncoderIsAt c.encoder.now p pushed →
      has_room (state_at c p) (uniform_event colour) 64 ≡ false

-- the pixels carried to a byte have only this colour
pub record RemembersOnly (colour : Bool) (a : Around) : Type 0 where
  pub second_is : a.second ≡ filled colour 24
  pub above_is : a.above ≡ filled colour 24
  pub past_is : a.past ≡ filled colour (past_bits a.template.offset)

-- this many bytes of rows, from a first one on
pub record ByteRange : Type 0 where
  pub rows : Rows
  pub first : ℕ
  pub count : ℕ

abbrev pub byte_range : Rows → (first count : ℕ) → ByteRange
byte_range rows first count = record { rows = rows; first = first; count = count }

-- a coder has put exactly these bytes, which have one colour, and the row continues
pub record PutsRun {S : Type 0} (sink : Ghosts S) (colour : Bool) (bytes : ByteRange) (c c' : Coder S) : Type 0 where
  pub inside : 8 * (bytes.first + bytes.count) < bytes.rows.width
  pub uniform : AreUniform colour bytes.rows bytes.first bytes.count
  pub puts : Puts sink (run_of colour (8 * bytes.count)) c c' (Ok tt)
  pub stops : StopsAt colour bytes.rows (bytes.first + bytes.count) c'

-- a coder has put these bytes, and as many as it can if the carried pixels have only this colour; the carried pixels are
-- unchanged, and the row continues
pub record PassesRun {S : Type 0} (sink : Ghosts S) (a : Around) (bytes : ByteRange) (c c' : Coder S) : Type 0 where
  pub inside : 8 * (bytes.first + bytes.count) < bytes.rows.width
  pub stands : StandsAt a a.template (lines_in bytes.rows) (bytes.first + bytes.count)
  pub puts : Puts sink (bytes_events a.template bytes.rows bytes.first bytes.count) c c' (Ok tt)
  pub stops : (colour : Bool) → RemembersOnly colour a → StopsAt colour bytes.rows (bytes.first + bytes.count) c'

-- the pixels of a row, each in its context
abbrev pub plain_events : Template → Rows → List Event
plain_events template rows = events_from template (lines_in rows) 0 rows.width

-- the events before a row's pixels
abbrev pub flag_events : Shape → Bool → Bool → List Event
flag_events shape previous flag = first_events (shape_mode shape) previous flag

-- the events of a row, typical or plain as the flag says
unfoldable pub coded_events : Mode → Template → Rows → Bool → Bool → List Event
coded_events mode template rows previous flag = first_events mode previous flag ++ (if flag then [] else plain_events template rows)
