-- The results of the steps of a row encoder.
use Rattle.std.specs.Prelude.{ℕ, ◌+◌, ◌*◌, ◌≡◌, ◌≤◌, ◌<◌, Bool, List, [], ◌∷◌, ◌++◌, length, Option, IfSome, flat_map, unwrap_or, Result, Ok, Err, OnOk, OnErr}
use Rattle.std.specs.Io.KnownBytes.{Appends}
use Rattle.devices.specs.Device.{AppendsBeginning}
use Rattle.qm_core.specs.Place.{Place, State, start, fresh}
use Rattle.qm_core.specs.Encoder.{EncoderIsAt, EncoderState, IsStuffedFront}
use Rattle.qm_core.specs.Code.{stuffed, IsCode}
use Rattle.qm_core.specs.Place as place
use Rattle.qm_core.specs.declared.encoder.CoderFault.{CoderFault}
use Rattle.raster_core.specs.Packed.{Held, HasLines, white_lines}
use Rattle.raster_core.specs.Row.{RowTask, canonical_events}
use Rattle.raster_core.specs.Window.{shape_mode}
use Rattle.raster_core.specs.Lines.{may_be_typical}
use Rattle.raster_core.specs.Tally.{CountsLines, is_two_line, most_of}
use Rattle.raster_core.specs.declared.shape.Kept.{Kept}
use Rattle.t85_core.specs.Grammar.{marker_bytes, segment_bytes, stripe_bytes, stripe_count}
use Rattle.t85_core.specs.declared.fault.Fault.{Fault}
use Rattle.t85_core.specs.declared.fault.Fault.TheVariants.{Write}
use Rattle.t85_core.specs.declared.encoding.learning.Learning.{Learning}
use Rattle.t85_core.specs.Coding.{mode_of}
use Rattle.t85_core.specs.Encode.{raster_of}
use Rattle.t85_core.specs.Jbg.{Settings, head_of, jbg_up_to, move_segments}
use Rattle.t85_core.specs.States.State.{offset_at}
use Rattle.t85_core.specs.States.Written.{EncoderStart}
use Rattle.t85_core.specs.Private.Written.{next_stripe, next_encoder_start}
use Rattle.t85_core.specs.States.Sent.{Origin, Sends, SendsBeginning, here}
use Rattle.t85_core.specs.States.RowStream.{HaveCome, StripesWhole, StreamCut}
use Rattle.t85_core.specs.States.ByRow.{EncoderAt, IsPlan, encoder_at, IsStart, RowView, Stands, Waits, Runs, IsBelow, TakesNextRow, CutsRow, move_bytes}
use Rattle.t85_core.specs.RowImage.{Image}

-- The move of a stripe was written and made. The offset before it is this one.
pub record MoveMade (move : Option (ℕ × ℕ)) (offset : ℕ) (text text' : Option (List ℕ)) (kept kept' : Kept) : Type 0 where
  pub at_top : IfSome move (λ m. m.0 ≡ 0)
  pub offset_is : kept'.offset ≡ offset_at move 0 offset
  pub previous_is : kept'.previous_typical ≡ kept.previous_typical
  pub appended : Appends text text' (flat_map segment_bytes (move_segments move))

-- A prefix of the move was written.
abbrev pub MoveCut : Settings → ℕ → EncoderStart → Option (List ℕ) → Option (List ℕ) → Type 0
MoveCut s width at text text' = AppendsBeginning text text' (move_bytes s width at)

-- A row was encoded, by an encoder that had pushed these bytes. In place of a sink, this names the bytes written.
pub record RowPut (task : RowTask) (pushed : List ℕ) (kept' : Kept) (text : Option (List ℕ)) (new : EncoderState (Option (List ℕ))) : Type 0 where
  pub more : List ℕ
  pub appended : Appends text new.out more
  pub codes : EncoderIsAt new.encoder (place.after task.state (canonical_events task.shape task.kept task.lines)).place (pushed ++ more)
  pub taught : new.learned ≡ (place.after task.state (canonical_events task.shape task.kept task.lines)).learned
  pub offset_is : kept'.offset ≡ task.kept.offset
  pub flag_is : kept'.previous_typical ≡ may_be_typical (shape_mode task.shape) task.lines

-- The target rejected a byte of the row's code.
pub record RowCut (s : State) (pushed : List ℕ) (all : List place.Event) (text text' : Option (List ℕ)) : Type 0 where
  pub events : List place.Event
  pub rest : List place.Event
  pub all_are : all ≡ events ++ rest
  pub done : List ℕ
  pub left : List ℕ
  pub appended : Appends text text' done
  pub begins : IsStuffedFront ((pushed ++ done) ++ left) (place.after s events).place

-- The result of a call, from the coder's result.
abbrev pub sent_as : Result (Unit {0}) CoderFault → Result (Unit {0}) Fault
sent_as (Ok u) = Ok u
sent_as (Err f) = Err Write

-- The result of encoding a row.
pub record RowOutcome {E : Type 0} (task : RowTask) (pushed : List ℕ) (kept' : Kept) (text : Option (List ℕ)) (new : EncoderState (Option (List ℕ))) (answer : Result (Unit {0}) E) : Type 0 where
  pub ok : OnOk answer (RowPut task pushed kept' text new)
  pub cut : OnErr answer (RowCut task.state pushed (canonical_events task.shape task.kept task.lines) text new.out)

-- After the bytes already pushed, the rest of the code of an interval was written, or a prefix of the rest.
pub record CodeFinished {E : Type 0} (p : Place) (pushed : List ℕ) (text text' : Option (List ℕ)) (answer : Result (Unit {0}) E) : Type 0 where
  pub code : List ℕ
  pub is : IsCode p code
  pub more : List ℕ
  pub all : pushed ++ more ≡ stuffed code
  pub ok : OnOk answer (Appends text text' more)
  pub cut : OnErr answer (AppendsBeginning text text' more)

-- The same, with the end marker after the code.
pub record CodeEnded {E : Type 0} (p : Place) (reset : Bool) (pushed : List ℕ) (text text' : Option (List ℕ)) (answer : Result (Unit {0}) E) : Type 0 where
  pub code : List ℕ
  pub is : IsCode p code
  pub more : List ℕ
  pub all : pushed ++ more ≡ stuffed code ++ marker_bytes reset
  pub ok : OnOk answer (Appends text text' more)
  pub cut : OnErr answer (AppendsBeginning text text' more)

-- A stripe with this number of rows was ended.
pub record StripeEnded (image : Image) (count : ℕ) (rows : List (List Bool)) (e : EncoderAt) (origin : Origin) : Type 0 where
  pub plan_is : IsPlan image e.view.plan
  pub come : HaveCome image.width image.limit rows e.view.rows
  pub i : ℕ
  pub whole : List (List Bool)
  pub part : List (List Bool)
  pub all : rows ≡ whole ++ part
  pub at : EncoderStart
  pub front : List ℕ
  pub stripes : StripesWhole image i whole at front
  pub many : length part ≡ count
  pub some : 0 < length part
  pub few : length part ≤ image.settings.stripe_rows
  pub in_stripe : e.view.in_stripe ≡ 0
  pub codes : EncoderIsAt e.view.encoder start []
  pub names_to : length image.settings.named ≤ i + 1
  pub on_course : (i + 1) * image.settings.stripe_rows < image.limit → IsStart image.settings image.width (next_encoder_start image.settings image.width at part) e.view e.window
  pub sent : Sends origin e.text (front ++ stripe_bytes (next_stripe image.settings image.width at part))

-- A prefix of the stripe was written.
pub record StripeBegun (image : Image) (count : ℕ) (rows : List (List Bool)) (origin : Origin) (text : Option (List ℕ)) : Type 0 where
  pub i : ℕ
  pub whole : List (List Bool)
  pub part : List (List Bool)
  pub all : rows ≡ whole ++ part
  pub at : EncoderStart
  pub front : List ℕ
  pub stripes : StripesWhole image i whole at front
  pub many : length part ≡ count
  pub some : 0 < length part
  pub few : length part ≤ image.settings.stripe_rows
  pub sent : SendsBeginning origin text (front ++ stripe_bytes (next_stripe image.settings image.width at part))

-- All stripes of an image that may end here were written.
pub record StripesEnded (image : Image) (rows : List (List Bool)) (v : RowView) (origin : Origin) (text : Option (List ℕ)) : Type 0 where
  pub rows_are : v.rows ≡ length rows
  pub reset_is : v.plan.reset ≡ image.settings.reset
  pub announced_is : v.plan.announced ≡ unwrap_or image.settings.announced (length rows)
  pub sent : Sends origin text (jbg_up_to image.settings (raster_of image.width rows) (stripe_count (length rows) image.settings.stripe_rows))

-- ---- the steps of a call, for any stream

-- A stripe is in progress afterwards.
abbrev pub StandsToRun : RowView → RowView → Option (List ℕ) → Option (List ℕ) → Type 0
StandsToRun v v' old new =
    (image : Image) (rows : List (List Bool)) (before : Held) (origin : Origin) → Stands image rows v before origin old →
    Runs image rows v' before origin new

-- The next stripe begins.
abbrev pub WaitsToRun : RowView → RowView → Option (List ℕ) → Option (List ℕ) → Type 0
WaitsToRun v v' old new =
    (image : Image) (rows : List (List Bool)) (before : Held) (origin : Origin) → Waits image rows v before origin old →
    Runs image rows v' before origin new

-- A prefix of its move was written.
abbrev pub CutsMove : RowView → Option (List ℕ) → Option (List ℕ) → Type 0
CutsMove v old new =
    (image : Image) (rows : List (List Bool)) (row : List Bool) (before : Held) (origin : Origin) → Waits image rows v before origin old →
    StreamCut image (rows ++ row ∷ []) origin new

-- The window's current row was encoded as a row of the current stripe.
abbrev pub CodesRow : RowView → RowView → Held → Option (List ℕ) → Option (List ℕ) → Type 0
CodesRow v v' window old new =
    (image : Image) (rows : List (List Bool)) (row : List Bool) (before : Held) (origin : Origin) → IsBelow row before window →
    Runs image rows v before origin old →
    Runs image (rows ++ row ∷ []) v' window origin new

-- A prefix was written.
abbrev pub CutsCode : RowView → Held → Option (List ℕ) → Option (List ℕ) → Type 0
CutsCode v window old new =
    (image : Image) (rows : List (List Bool)) (row : List Bool) (before : Held) (origin : Origin) → IsBelow row before window →
    Runs image rows v before origin old →
    StreamCut image (rows ++ row ∷ []) origin new

-- The current stripe was ended if it has all its rows.
abbrev pub RunsToStand : RowView → RowView → Held → Held → Option (List ℕ) → Option (List ℕ) → Type 0
RunsToStand v v' window window' old new =
    (image : Image) (rows : List (List Bool)) (origin : Origin) → Runs image rows v window origin old →
    Stands image rows v' window' origin new

abbrev pub CutsRunning : RowView → Held → Option (List ℕ) → Option (List ℕ) → Type 0
CutsRunning v window old new =
    (image : Image) (rows : List (List Bool)) (origin : Origin) → Runs image rows v window origin old →
    StreamCut image rows origin new

-- The current stripe was ended.
abbrev pub EndsStripe : RowView → RowView → Held → Held → Option (List ℕ) → Option (List ℕ) → Type 0
EndsStripe v v' window window' old new =
    (image : Image) (rows : List (List Bool)) (origin : Origin) → Runs image rows v window origin old →
    StripeEnded image v.in_stripe rows (encoder_at v' window' new) origin

abbrev pub CutsStripe : RowView → Held → Option (List ℕ) → Option (List ℕ) → Type 0
CutsStripe v window old new =
    (image : Image) (rows : List (List Bool)) (origin : Origin) → Runs image rows v window origin old →
    StripeBegun image v.in_stripe rows origin new

-- All stripes of an image that may end here were written.
abbrev pub EndsStripes : RowView → RowView → Held → Option (List ℕ) → Option (List ℕ) → Type 0
EndsStripes v v' window old new =
    (image : Image) (rows : List (List Bool)) (origin : Origin) → Stands image rows v window origin old →
    StripesEnded image rows v' origin new

-- The window's current row was encoded, below the lines of the window before.
abbrev pub TakesBelow : RowView → RowView → Held → Held → Option (List ℕ) → Option (List ℕ) → Type 0
TakesBelow v v' window window' old new = (row : List Bool) (before : Held) → IsBelow row before window → TakesNextRow row (encoder_at v before old) (encoder_at v' window' new)

abbrev pub CutsBelow : RowView → Held → Option (List ℕ) → Option (List ℕ) → Type 0
CutsBelow v window old new = (row : List Bool) (before : Held) → IsBelow row before window → CutsRow row v before old new

-- The context states and counts are the initial ones for an image.
pub record IsUntaught (s : Settings) (l : Learning) : Type 0 where
  pub learned_is : l.learned ≡ fresh
  pub two_line : is_two_line l.tally ≡ (mode_of s.options).two_line
  pub most : most_of l.tally ≡ s.most_offset
  pub counts : (width current : ℕ) → CountsLines l.tally width current []

-- With the head of the stream written and a white window, the encoder is in the state before the first row.
abbrev pub StandsFirst : Image → RowView → Type 0
StandsFirst image v =
    (window : Held) (text text' : Option (List ℕ)) → HasLines window (white_lines image.width) → Appends text text' (head_of image.settings image.width image.limit) →
    Stands image [] v window (here text) text'
