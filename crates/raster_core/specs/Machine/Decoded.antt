-- The effect of decoding some of the pixels of a row.
use Rattle.std.specs.Prelude.{ℕ, ◌+◌, ◌*◌, ◌%◌, ◌≡◌, ◌≤◌, ◌<◌, Bool, true, false, List, ◌++◌, length, replicate, slice_index, Result, IfOk, IfErr, OnOk}
use Rattle.std.specs.Int.{div_ceil}
use Rattle.qm_core.specs.Place.{Place, State, Event, Estimate, after}
use Rattle.qm_core.specs.Source.{Pulls, SourceAt, bytes_of, heard_of, source_at}
use Rattle.qm_core.specs.Code.{wanted_bytes}
use Rattle.qm_core.specs.Skipping.{IsRun}
use Rattle.qm_core.specs.Decoder.{DecoderIsAt, DecoderState, has_stopped}
use Rattle.qm_core.specs.declared.source.Heard.TheVariants.{More}
use Rattle.qm_core.specs.declared.source.Pulled.{Pulled}
use Rattle.qm_core.specs.declared.source.CodeBytes.{Ghosts}
use Rattle.qm_core.specs.declared.decoder.Decoder.{Decoder}
use Rattle.qm_core.specs.Reads.{reader_state}
use Rattle.qm_core.specs.declared.reader.Reader.{Reader}
use Rattle.raster_core.specs.Lines.{Lines, Mode, pixel_events}
use Rattle.raster_core.specs.Machine.Registers.{bit, before, past_bits}
use Rattle.raster_core.specs.Events.{Decodes, Stops}
use Rattle.raster_core.specs.Packed.{packed_row}
use Rattle.raster_core.specs.Window.{shape_mode}
use Rattle.raster_core.specs.declared.place.Pause.{Pause}
use Rattle.raster_core.specs.declared.decode.registers.Registers.{Registers}
use Rattle.raster_core.specs.declared.decode.registers.RowContext.{RowContext}
use Rattle.raster_core.specs.declared.place.RowPlace.{RowPlace}
use Rattle.raster_core.specs.Machine.Uniform.{uniform_event, StaysUniform, AreFilled}

-- the lines with another current row
abbrev pub with_row : Lines → List Bool → Lines
with_row lines row = record { row = row; above = lines.above; second = lines.second }

-- A plain row: mode, position of the adaptive pixel, the events before its pixels, the state before those, and the lines.
pub record PlainRow : Type 0 where
  pub mode : Mode
  pub offset : ℕ
  pub first : List Event
  pub state : State
  pub lines : Lines

abbrev pub plain_row : Mode → ℕ → List Event → State → Lines → PlainRow
plain_row mode offset first state lines = record { mode = mode; offset = offset; first = first; state = state; lines = lines }

-- its events up to these pixels
abbrev pub events_up_to : PlainRow → List Bool → List Event
events_up_to row done = row.first ++ pixel_events row.mode (with_row row.lines done) row.offset

-- After the first events the pixels `done` of a row are decoded; `past` are the last of them.
pub record PixelsSoFar {S : Type 0} (old : SourceAt S) (row : PlainRow) (done : List Bool) (past : ℕ) (new : DecoderState S) : Type 0 where
  pub past_is : past ≡ before done (length done) (past_bits row.offset)
  pub more : List Pulled
  pub decodes : Decodes old row.state more (events_up_to row done) new

-- the same, after n more pixels
pub record MorePixels {S : Type 0} (old : SourceAt S) (row : PlainRow) (done : List Bool) (n past : ℕ) (new : DecoderState S) : Type 0 where
  pub pixels : List Bool
  pub count : length pixels ≡ n
  pub so_far : PixelsSoFar old row (done ++ pixels) past new

-- The source stopped at one of the n pixels after these; `pause.count` of them were decoded.
pub record PixelsStop {S : Type 0} (old : SourceAt S) (row : PlainRow) (done : List Bool) (n : ℕ) (pause : Pause) (new : DecoderState S) : Type 0 where
  pub few : pause.count < n
  pub pixels : List Bool
  pub many : length pixels ≡ pause.count
  pub past_is : pause.past ≡ before (done ++ pixels) (length (done ++ pixels)) (past_bits row.offset)
  pub more : List Pulled
  pub stops : Stops old row.state more (events_up_to row (done ++ pixels)) new

-- The inputs for decoding a byte: mode, position of the adaptive pixel, registers of the rows above, the last pixels.
pub record ByteAround : Type 0 where
  pub mode : Mode
  pub offset : ℕ
  pub second : ℕ
  pub above : ℕ
  pub past : ℕ

abbrev pub byte_around : Mode → (offset second above past : ℕ) → ByteAround
byte_around mode offset second above past = record { mode = mode; offset = offset; second = second; above = above; past = past }

abbrev pub around_of : Registers → ByteAround
around_of r = byte_around (shape_mode r.shape) r.offset r.second r.above r.past

-- n more pixels of a byte were decoded; past' contains the last pixels of the row
pub record Along {S : Type 0} (pull : S → Pulled → S → Type 0) (b : ByteAround) (old : DecoderState S) (n past' : ℕ) (new : DecoderState S) : Type 0 where
  pub any : (from : S) (first : List Event) (s : State) (answers : List Pulled) (lines : Lines) (done : List Bool) →
      PixelsSoFar (source_at pull from answers) (plain_row b.mode b.offset first s lines) done b.past old →
      b.second ≡ before lines.second (length done + 16) 24 → b.above ≡ before lines.above (length done + 16) 24 →
      MorePixels (source_at pull from answers) (plain_row b.mode b.offset first s lines) done n past' new

-- the source stopped at one of n pixels
pub record StopsAlong {S : Type 0} (pull : S → Pulled → S → Type 0) (b : ByteAround) (old : DecoderState S) (n : ℕ) (pause : Pause) (new : DecoderState S) : Type 0 where
  pub any : (from : S) (first : List Event) (s : State) (answers : List Pulled) (lines : Lines) (done : List Bool) →
      PixelsSoFar (source_at pull from answers) (plain_row b.mode b.offset first s lines) done b.past old →
      b.second ≡ before lines.second (length done + 16) 24 → b.above ≡ before lines.above (length done + 16) 24 →
      PixelsStop (source_at pull from answers) (plain_row b.mode b.offset first s lines) done n pause new

-- The effect of decoding n pixels of a byte: they were decoded, or the source stopped at one of them.
abbrev pub DecodesPixels : {S : Type 0} (source : Ghosts S) (b : ByteAround) (n : ℕ) (r r' : Reader S) (result : Result ℕ Pause) → Type 0
DecodesPixels source b n r r' result =
    IfOk result (λ past. Along (Pulls source.gives source.failed) b (reader_state r) n past (reader_state r'))
    × IfErr result (λ pause. (pause.count < n) × StopsAlong (Pulls source.gives source.failed) b (reader_state r) n pause (reader_state r'))

-- A byte of one colour was decoded in one step, without a pull: all pixels of its contexts have that colour.
pub record SkipsAlong (b : ByteAround) (byte : ℕ) (d : Decoder) (learned : List Estimate) (d' : Decoder) : Type 0 where
  pub colour : Bool
  pub byte_is : byte ≡ bit colour * 255
  pub going : has_stopped d ≡ false
  pub uniform : (lines : Lines) (x : ℕ) → b.second ≡ before lines.second (x + 16) 24 → b.above ≡ before lines.above (x + 16) 24 → b.past ≡ before lines.row x (past_bits b.offset) →
      StaysUniform b.mode lines b.offset colour x 8
  pub decoded : (p : Place) (answers : List Pulled) → DecoderIsAt d p answers →
      IsRun (record { place = p; learned = learned }) (uniform_event colour) 8
      × DecoderIsAt d' (after (record { place = p; learned = learned }) (replicate 8 (uniform_event colour))).place answers
      × (heard_of answers ≡ More → wanted_bytes p.doublings ≤ length (bytes_of answers))

-- `count` bytes of a colour, from byte `first` on
pub record FilledRun : Type 0 where
  pub colour : Bool
  pub first : ℕ
  pub count : ℕ

abbrev pub filled_run : Bool → (first count : ℕ) → FilledRun
filled_run colour first count = record { colour = colour; first = first; count = count }

-- A run of bytes of a colour was decoded in one step, without a pull; above, its second byte to the one after it have the colour.
pub record SkipsFilledAlong (run : FilledRun) (above second : List ℕ) (d : Decoder) (learned : List Estimate) (d' : Decoder) : Type 0 where
  pub above_filled : AreFilled run.colour above (run.first + 1) run.count
  pub second_filled : AreFilled run.colour second (run.first + 1) run.count
  pub none : run.count ≡ 0 → d' ≡ d
  pub decoded : (p : Place) (answers : List Pulled) → DecoderIsAt d p answers →
      IsRun (record { place = p; learned = learned }) (uniform_event run.colour) (8 * run.count)
      × DecoderIsAt d' (after (record { place = p; learned = learned }) (replicate (8 * run.count) (uniform_event run.colour))).place answers
      × (1 ≤ run.count → heard_of answers ≡ More → wanted_bytes p.doublings ≤ length (bytes_of answers))

-- The progress in a row: pixels left, the next byte, the registers of the rows above, the last pixels, the row's bytes.
pub record BytesAt : Type 0 where
  pub left : ℕ
  pub i : ℕ
  pub second : ℕ
  pub above : ℕ
  pub past : ℕ
  pub current : List ℕ

abbrev pub bytes_at : (left i second above past : ℕ) → List ℕ → BytesAt
bytes_at left i second above past current = record { left = left; i = i; second = second; above = above; past = past; current = current }

-- The inputs for decoding a row: mode, position of the adaptive pixel, and the bytes of the two rows above.
pub record RowAround : Type 0 where
  pub mode : Mode
  pub offset : ℕ
  pub above : List ℕ
  pub second : List ℕ

abbrev pub row_around : RowContext → RowAround
row_around c = record { mode = shape_mode c.shape; offset = c.offset; above = c.above.now; second = c.second.now }

-- the inputs for decoding the next byte
abbrev pub next_around : RowAround → BytesAt → ByteAround
next_around a b = byte_around a.mode a.offset (b.second % 65536 * 256 + slice_index a.second (b.i + 1)) (b.above % 65536 * 256 + slice_index a.above (b.i + 1)) b.past

-- The bytes of a row have been decoded up to the next one.
pub record BytesSoFar {S : Type 0} (old : SourceAt S) (row : PlainRow) (width : ℕ) (b : BytesAt) (new : DecoderState S) : Type 0 where
  pub done : List Bool
  pub rest : length done + b.left ≡ width
  pub so_far : PixelsSoFar old row done b.past new
  pub bytes : (k : ℕ) → k < b.i → slice_index b.current k ≡ before done (8 * k + 8) 8
  pub second_is : b.second ≡ before row.lines.second (8 * b.i + 8) 24
  pub above_is : b.above ≡ before row.lines.above (8 * b.i + 8) 24

-- These pixels of a row are decoded, as many as its place says, and complete bytes of them are stored.
pub record PixelsHeld (offset : ℕ) (place : RowPlace) (current : List ℕ) (done : List Bool) : Type 0 where
  pub count : place.done ≡ length done
  pub past_is : place.past ≡ before done (length done) (past_bits offset)
  pub bytes : (k : ℕ) → 8 * k + 8 ≤ length done → slice_index current k ≡ before done (8 * k + 8) 8

-- How far a row is decoded: its position, its bytes, and the state of the decoder.
pub record RowPart (S : Type 0) : Type 0 where
  pub place : RowPlace
  pub current : List ℕ
  pub state : DecoderState S

abbrev pub row_part : {S : Type 0} → RowPlace → List ℕ → Reader S → RowPart S
row_part place current r = record { place = place; current = current; state = reader_state r }

-- The effect of a step on a row, for all pixels of it that were decoded before.
pub record FromPixels {S : Type 0} (pull : S → Pulled → S → Type 0) (a : RowAround) (part : RowPart S) (Leaves : SourceAt S → PlainRow → Type 0) : Type 0 where
  pub any : (from : S) (first : List Event) (s : State) (answers : List Pulled) (lines : Lines) (done : List Bool) → PixelsHeld a.offset part.place part.current done →
      PixelsSoFar (source_at pull from answers) (plain_row a.mode a.offset first s lines) done part.place.past part.state →
      a.above ≡ packed_row lines.above → a.second ≡ packed_row lines.second →
      Leaves (source_at pull from answers) (plain_row a.mode a.offset first s lines)

-- some bytes of the row were decoded
abbrev pub BytesAlong : {S : Type 0} (pull : S → Pulled → S → Type 0) (a : RowAround) (part : RowPart S) (width : ℕ) (b : BytesAt) (new : DecoderState S) → Type 0
BytesAlong pull a part width b new = FromPixels pull a part (λ old row. BytesSoFar old row width b new)

-- a row was decoded
pub record RowPixels {S : Type 0} (old : SourceAt S) (task : PlainRow) (width : ℕ) (current : List ℕ) (new : DecoderState S) : Type 0 where
  pub row : List Bool
  pub wide : length row ≡ width
  pub packed : current ≡ packed_row row
  pub more : List Pulled
  pub decodes : Decodes old task.state more (events_up_to task row) new

-- the rest of the row was decoded
abbrev pub RowAlong : {S : Type 0} (pull : S → Pulled → S → Type 0) (a : RowAround) (part : RowPart S) (width : ℕ) (current' : List ℕ) (new : DecoderState S) → Type 0
RowAlong pull a part width current' new = FromPixels pull a part (λ old row. RowPixels old row width current' new)

-- The source stopped in a row, at this place.
pub record RowPaused {S : Type 0} (old : SourceAt S) (row : PlainRow) (width : ℕ) (part : RowPart S) : Type 0 where
  pub begun : part.place.is_begun ≡ true
  pub done : List Bool
  pub few : length done < width
  pub held : PixelsHeld row.offset part.place part.current done
  pub more : List Pulled
  pub stops : Stops old row.state more (events_up_to row done) part.state

-- the source stopped in the rest of the row
abbrev pub RowStops : {S : Type 0} (pull : S → Pulled → S → Type 0) (a : RowAround) (part : RowPart S) (width : ℕ) (part' : RowPart S) → Type 0
RowStops pull a part width part' = FromPixels pull a part (λ old row. RowPaused old row width part')

-- The effect of decoding the rest of a row: it was decoded, or the source stopped in it, at the position in the result.
abbrev pub DecodesRow : {S T : Type 0} (pull : S → Pulled → S → Type 0) (a : RowAround) (part : RowPart S) (width : ℕ) (part' : RowPart S) → Result T RowPlace → Type 0
DecodesRow pull a part width part' result = OnOk result (RowAlong pull a part width part'.current part'.state) × IfErr result (λ at. RowStops pull a part width (record { place = at; current = part'.current; state = part'.state }))

-- The rest of a byte was decoded and stored, up to its last pixel or the last pixel of the row.
pub record ByteEnded {S : Type 0} (old : SourceAt S) (row : PlainRow) (part : RowPart S) : Type 0 where
  pub done : List Bool
  pub count : part.place.done ≡ length done
  pub bytes : (k : ℕ) → k < div_ceil (length done) 8 → slice_index part.current k ≡ before done (8 * k + 8) 8
  pub so_far : PixelsSoFar old row done part.place.past part.state

-- the rest of a byte was decoded
abbrev pub ByteEnds : {S : Type 0} (pull : S → Pulled → S → Type 0) (a : RowAround) (part part' : RowPart S) → Type 0
ByteEnds pull a part part' = FromPixels pull a part (λ old row. ByteEnded old row part')
