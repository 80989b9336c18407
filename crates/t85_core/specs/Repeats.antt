-- The effect of `repeat` on a decoder in pieces.
use Rattle.std.specs.Prelude.{ℕ, ◌≡◌, ◌≤◌, ◌<◌, true, false, min, option_map, Option, List, ◌++◌}
use Rattle.qm_core.specs.Decoder.{DecoderIsAt}
use Rattle.qm_core.specs.Place.{Place, Estimate, state_of}
use Rattle.qm_core.specs.declared.source.Pulled.{Pulled}
use Rattle.raster_core.specs.Packed.{Held}
use Rattle.raster_core.specs.Row.{CanSkipRow}
use Rattle.raster_core.specs.declared.shape.Shape.{Shape}
use Rattle.t85_core.specs.Coding.{mode_of}
use Rattle.t85_core.specs.Header.{Fields}
use Rattle.t85_core.specs.Lent.{PieceView, WalkView, decoder_view, waits_behind}
use Rattle.t85_core.specs.Numbers.{ArePieceNumbers}
use Rattle.t85_core.specs.Options.{fields_of}
use Rattle.t85_core.specs.Pieces.{HasDecoded, row_held, stream_of}
use Rattle.t85_core.specs.Stages as stage
use Rattle.t85_core.specs.RowSink.{copies}
use Rattle.t85_core.specs.States.DecodeRows.{pair_of}
use Rattle.t85_core.specs.States.Pieces.{HasMarker}
use Rattle.t85_core.specs.States.State.{offset_at}
use Rattle.t85_core.specs.declared.pieces.PieceDecoder.{PieceDecoder}
use Rattle.t85_core.specs.declared.pieces.numbers.PieceNumbers.{PieceNumbers}
use Rattle.t85_core.specs.declared.segments.atmove.Move.{Move}

-- So many rows were decoded and returned, at most `most`. Each equals the row that was decoded last.
pub record Repeats (most : ℕ) (old new : PieceView) (count : ℕ) : Type 0 where
  pub few : count ≤ most
  pub row : row_held new ≡ row_held old
  pub rows : (text out : List ℕ) → HasDecoded old text out → HasDecoded new text (out ++ copies count (row_held new))
  -- while a height may arrive, the end marker of the code has not been read, so the height is not below these rows
  pub in_time : 0 < count → new.is_open ≡ true → HasMarker new.walk → ⊥
  pub same : stream_of new ≡ stream_of old
  pub height : new.height ≡ old.height
  pub ended : new.end ≡ old.end
  pub none : count ≡ 0 → new ≡ old

-- ---- when rows repeat

-- how the rows of a stream are coded
abbrev pub shape_of : Fields → Shape
shape_of h = record { width = h.xd; two_line = (mode_of h.options).two_line; typical = (mode_of h.options).typical }

-- from this row of a stripe on, no move takes effect
abbrev pub IsSettled : Option Move → ℕ → Type 0
IsSettled at row = (k o : ℕ) → row ≤ k → offset_at (option_map pair_of at) k o ≡ o

-- In the code of a stripe, before a row: the stripe has this row, no move takes effect, and the bits already read determine that
-- it equals the row before. Both are typical.
pub record RowsCanRepeat (h : Fields) (w : WalkView) : Type 0 where
  pub in_code : w.stage ≡ stage.Code
  pub row_left : w.row < min w.left h.l0
  pub settled : IsSettled w.at w.row
  pub place : Place
  pub answers : List Pulled
  pub stands : DecoderIsAt w.decoder place answers
  pub skips : CanSkipRow (shape_of h) w.carried.kept w.decoder (state_of place w.carried.learned) answers

-- The same for a decoder which, while a height may arrive, has not read the end marker of the code.
pub record CanRepeat (d : PieceView) : Type 0 where
  pub rows : RowsCanRepeat (stream_of d) d.walk
  pub goes_on : waits_behind d ≡ false
  pub in_time : d.is_open ≡ true → HasMarker d.walk → ⊥

-- If the row of a decoder can repeat, so can that of each decoder with the same numbers that can continue.
abbrev pub RepeatsByNumbers : Type 0
RepeatsByNumbers =
    (d d' : PieceDecoder) (numbers : PieceNumbers) (rows : Held) (learned : List Estimate) (text out : List ℕ) → HasDecoded (decoder_view d' rows learned) text out →
    fields_of d'.image.header ≡ fields_of d.image.header → ArePieceNumbers numbers d → ArePieceNumbers numbers d' → CanRepeat (decoder_view d rows learned) → CanRepeat (decoder_view d' rows learned)
