-- The results of encoding rows that equal the row before them.
use Rattle.std.specs.Prelude.{ℕ, ◌≡◌, ◌≤◌, ◌<◌, Bool, true, List, ◌++◌, length, replicate, Option, Result, OnOk, OnErr, IfErr, is_err}
use Rattle.std.specs.Io.KnownBytes.{Appends}
use Rattle.pbm_core.specs.declared.form.Form.{Form}
use Rattle.qm_core.specs.Place.{State, Event, after}
use Rattle.qm_core.specs.Encoder.{EncoderIsAt, EncoderState}
use Rattle.raster_core.specs.Packed.{packed_row}
use Rattle.t85_core.specs.declared.encoding.by_row.RowEncoder.{RowEncoder}
use Rattle.t85_core.specs.declared.fault.Fault.{Fault}
use Rattle.t85_core.specs.declared.fault.Fault.TheVariants.{Write}
use Rattle.t85_core.specs.Private.EncodeRows.{ReadsRows}
use Rattle.t85_core.specs.Private.RowSteps.{RowCut}
use Rattle.t85_core.specs.RowImage.{Image}
use Rattle.t85_core.specs.States.ByRow.{EncoderAt, MayGoOn, Stands}
use Rattle.t85_core.specs.States.RowStream.{StreamCut}
use Rattle.t85_core.specs.States.Sent.{Origin}

-- These events were encoded, by an encoder that had pushed these bytes.
pub record EventsPut (s : State) (pushed : List ℕ) (events : List Event) (text : Option (List ℕ)) (new : EncoderState (Option (List ℕ))) : Type 0 where
  pub more : List ℕ
  pub appended : Appends text new.out more
  pub codes : EncoderIsAt new.encoder (after s events).place (pushed ++ more)
  pub taught : new.learned ≡ (after s events).learned

-- The result of encoding them.
pub record EventsOutcome {E : Type 0} (s : State) (pushed : List ℕ) (events : List Event) (text : Option (List ℕ)) (new : EncoderState (Option (List ℕ))) (answer : Result (Unit {0}) E) : Type 0 where
  pub ok : OnOk answer (EventsPut s pushed events text new)
  pub cut : OnErr answer (RowCut s pushed events text new.out)

-- The current row of the stripe in progress is typical.
abbrev pub IsTypical : RowEncoder → Type 0
IsTypical e = (0 < e.in_stripe) × (e.shape.typical ≡ true) × (e.kept.previous_typical ≡ true)

-- Either rows were encoded and the encoder continues, or a write failed and the encoder is closed.
abbrev pub TakesMore : {T : Type 0} → RowEncoder → RowEncoder → Result T Fault → Type 0
TakesMore e e' result = (e'.is_closed ≡ is_err result) × OnOk result (MayGoOn e') × (e.rows ≤ e'.rows) × (e'.size ≡ e.size) × IfErr result (λ f. f ≡ Write)

-- The row in these bytes.
pub record IsPackedIn (width : ℕ) (bytes : List ℕ) (row : List Bool) : Type 0 where
  pub wide : length row ≡ width
  pub packed : bytes ≡ packed_row row

-- The window's current row was encoded so many times more.
abbrev pub CodesAgain : ℕ → EncoderAt → EncoderAt → Type 0
CodesAgain count e e' =
    (image : Image) (rows : List (List Bool)) (origin : Origin) → Stands image rows e.view e.window origin e.text →
    (row : List Bool) × IsPackedIn image.width e.window.current row × Stands image (rows ++ replicate count row) e'.view e'.window origin e'.text

-- A prefix was written.
abbrev pub CutsAgain : ℕ → EncoderAt → Option (List ℕ) → Type 0
CutsAgain count e new =
    (image : Image) (rows : List (List Bool)) (origin : Origin) → Stands image rows e.view e.window origin e.text →
    (row : List Bool) × IsPackedIn image.width e.window.current row × StreamCut image (rows ++ replicate count row) origin new

-- Rows were read and encoded.
abbrev pub CodesEqual : Form → Option (List ℕ) → Option (List ℕ) → EncoderAt → EncoderAt → Type 0
CodesEqual form known known' e e' =
    (image : Image) (rows : List (List Bool)) (origin : Origin) → Stands image rows e.view e.window origin e.text →
    (more : List (List Bool)) × ReadsRows form image.width known known' more × Stands image (rows ++ more) e'.view e'.window origin e'.text

-- Rows were read, and a prefix of the stream was written.
abbrev pub CutsEqual : Form → Option (List ℕ) → Option (List ℕ) → EncoderAt → Option (List ℕ) → Type 0
CutsEqual form known known' e new =
    (image : Image) (rows : List (List Bool)) (origin : Origin) → Stands image rows e.view e.window origin e.text →
    (more : List (List Bool)) × ReadsRows form image.width known known' more × (length (rows ++ more) ≤ image.limit) × StreamCut image (rows ++ more) origin new
