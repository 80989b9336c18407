-- How far a decoder is in a stripe, and what it has decoded of a broken one.
use Rattle.std.specs.Prelude.{ℕ, ◌≡◌, ◌≤◌, ◌⊎◌, Bool, List, length}
use Rattle.qm_core.specs.Place.{after}
use Rattle.qm_core.specs.Code.{Lies}
use Rattle.raster_core.specs.Lines.{IsLegalFlag, Lines}
use Rattle.raster_core.specs.Enough.{AreEnough}
use Rattle.t85_core.specs.States.State.{RowStart, lines_with, offset_at, RowCoding, Run}
use Rattle.raster_core.specs.Window.{shape_mode}
use Rattle.raster_core.specs.declared.shape.Shape.{Shape}
use Rattle.raster_core.specs.declared.shape.Kept.{Kept}
use Rattle.t85_core.specs.States.Cut.{events_with, RunEnough, OpenStripe, rows_coding, rows_start}

-- no next row has events that are all determined by the bytes of the code
abbrev pub NoneDecided : RowCoding → ℕ → RowStart → List ℕ → Type 0
NoneDecided coding r b code =
    (row : List Bool) (flag : Bool) → length row ≡ coding.width → IsLegalFlag coding.mode (lines_with b row) flag →
    Lies code (after b.state (events_with coding.mode coding.move r b row flag)).place →
    AreEnough (length code) b.state (events_with coding.mode coding.move r b row flag) → ⊥

-- The first rows of a stripe of this many rows, with this code so far: the code determines them, and they are all of the
-- stripe's rows, or it determines no further row.
pub record BegunRun (stripe : OpenStripe) (count : ℕ) (code : List ℕ) (rows : List (List Bool)) (flags : List Bool) : Type 0 where
  pub last : RowStart
  pub run : Run (rows_coding stripe) 0 (rows_start stripe) rows flags last
  pub few : length rows ≤ count
  pub lies : Lies code last.state.place
  pub enough : RunEnough (length code) (rows_coding stripe) 0 (rows_start stripe) rows flags
  pub ends : (length rows ≡ count) ⊎ NoneDecided (rows_coding stripe) (length rows) last code

-- The first rows of a stripe of this many rows, with this code so far: the code lies in the place to which they lead.
pub record FrontRun (stripe : OpenStripe) (count : ℕ) (code : List ℕ) (rows : List (List Bool)) (flags : List Bool) : Type 0 where
  pub last : RowStart
  pub run : Run (rows_coding stripe) 0 (rows_start stripe) rows flags last
  pub few : length rows ≤ count
  pub lies : Lies code last.state.place

-- Row r of a stripe is decoded with the state carried to it. Its move is made.
pub record IsReady (coding : RowCoding) (shape : Shape) (kept : Kept) (lines : Lines) (r : ℕ) (b : RowStart) : Type 0 where
  pub width_is : shape.width ≡ coding.width
  pub mode_is : shape_mode shape ≡ coding.mode
  pub offset_is : kept.offset ≡ offset_at coding.move r b.offset
  pub previous_is : kept.previous_typical ≡ b.previous
  pub above_is : lines.above ≡ b.above
  pub second_is : lines.second ≡ b.second
