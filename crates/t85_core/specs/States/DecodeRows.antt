-- The effect of a decoder of the rows of a stripe.
use Rattle.std.specs.Prelude.{ℕ, ◌≡◌, Bool, List, length, Option, flat_map}
use Rattle.std.specs.Io.KnownBytes.{Appends}
use Rattle.qm_core.specs.Source.{heard_of, Gives}
use Rattle.qm_core.specs.Decoder.{DecoderIsAt}
use Rattle.qm_core.specs.declared.source.Pulled.{Pulled}
use Rattle.qm_core.specs.declared.source.Heard.TheVariants.{Stopped}
use Rattle.qm_core.specs.declared.decoder.Decoder.{Decoder}
use Rattle.raster_core.specs.Window.{shape_mode}
use Rattle.raster_core.specs.Packed.{HasLines, packed_row}
use Rattle.raster_core.specs.declared.shape.Shape.{Shape}
use Rattle.t85_core.specs.Lent.{Carried}
use Rattle.t85_core.specs.declared.segments.atmove.Move.{Move}
use Rattle.t85_core.specs.Header.{Fields}
use Rattle.t85_core.specs.Coding.{mode_of}
use Rattle.t85_core.specs.States.State.{RowStart}
use Rattle.t85_core.specs.States.Cut.{OpenStripe, RowsSoFar}

-- a move as the grammar sees it
abbrev pub pair_of : Move → ℕ × ℕ
pair_of to = (to.row, to.offset)

-- the shape of a stream's rows
pub record IsShapeOf (h : Fields) (shape : Shape) : Type 0 where
  pub width_is : shape.width ≡ h.xd
  pub mode_is : shape_mode shape ≡ mode_of h.options

-- The state of a decoder between two rows. The row to be written next may contain anything.
pub record IsCarried (b : RowStart) (carried : Carried) : Type 0 where
  pub offset_is : carried.kept.offset ≡ b.offset
  pub previous_is : carried.kept.previous_typical ≡ b.previous
  pub learned_is : carried.learned ≡ b.state.learned
  pub third : List Bool
  pub lines_are : HasLines carried.held (record { row = b.above; above = b.second; second = third })

-- these answers lead a source from one state to another
abbrev pub Leads : {S : Type 0} → (S → Pulled → S → Type 0) → S → S → List Pulled → Type 0
Leads pull from to answers = Gives pull from answers to

-- Rows of a stripe that are decoded: how many, what is carried to the next one, and the decoder of its pixels.
pub record RowsDone : Type 0 where
  pub row : ℕ
  pub carried : Carried
  pub decoder : Decoder

abbrev pub rows_done : ℕ → Carried → Decoder → RowsDone
rows_done row carried decoder = record { row = row; carried = carried; decoder = decoder }

-- The first rows of a stripe: decoded from what came, and written.
pub record RowsRead (came : List Pulled → Type 0) (stripe : OpenStripe) (shape : Shape) (done : RowsDone) (text text' : Option (List ℕ)) : Type 0 where
  pub answers : List Pulled
  pub gives : came answers
  pub rows : List (List Bool)
  pub flags : List Bool
  pub last : RowStart
  pub so_far : RowsSoFar stripe answers rows flags last
  pub many : length rows ≡ done.row
  pub stands : DecoderIsAt done.decoder last.state.place answers
  pub unstopped : heard_of answers ≡ Stopped → ⊥
  pub shape_is : IsShapeOf stripe.fields shape
  pub is_carried : IsCarried last done.carried
  pub appended : Appends text text' (flat_map packed_row rows)
