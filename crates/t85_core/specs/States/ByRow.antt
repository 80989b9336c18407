-- The state of a row encoder after some rows, and how it relates to the stream.
use Rattle.std.specs.Prelude.{ℕ, ◌+◌, ◌*◌, ◌%◌, ◌^◌, ◌≡◌, ◌≤◌, ◌<◌, ◌⊎◌, Bool, true, false, List, [], ◌∷◌, ◌++◌, length, flat_map, if◌then◌else◌, Option, None, Some, IfSome, is_some, unwrap_or}
use Rattle.qm_core.specs.Place.{Estimate, Place, start}
use Rattle.qm_core.specs.Encoder.{EncoderIsAt, event_count, has_failed}
use Rattle.qm_core.specs.declared.encoder.Encoder.{Encoder}
use Rattle.raster_core.specs.Lines.{Lines}
use Rattle.raster_core.specs.Packed.{Held, HasLines}
use Rattle.raster_core.specs.Tally.{is_two_line, most_of}
use Rattle.raster_core.specs.declared.shape.Shape.{Shape}
use Rattle.raster_core.specs.declared.shape.Kept.{Kept}
use Rattle.raster_core.specs.declared.tally.Tally.{Tally}
use Rattle.t85_core.specs.declared.encoding.by_row.RowEncoder.{RowEncoder}
use Rattle.t85_core.specs.declared.encoding.learning.Learning.{Learning}
use Rattle.t85_core.specs.Grammar.{segment_bytes}
use Rattle.t85_core.specs.Coding.{mode_of}
use Rattle.t85_core.specs.Encode.{raster_of}
use Rattle.t85_core.specs.Jbg.{Settings, named_for, jbg, move_segments}
use Rattle.t85_core.specs.RowImage.{Image, named_after}
use Rattle.t85_core.specs.States.State.{RowStart, first_row_start, offset_at}
use Rattle.t85_core.specs.States.RowStream.{HaveCome, StripesWhole, StreamCut}
use Rattle.t85_core.specs.States.Written.{EncoderStart, next_move, row_start_in, lines_down, IsShape, IsCountedTo, IsTallied, has_choice}
use Rattle.t85_core.specs.States.Sent.{Origin, Sends, SendsBeginning}

-- The parameters of a stream.
pub record RowPlan : Type 0 where
  pub width : ℕ
  pub limit : ℕ
  pub shape : Shape
  pub stripe_rows : ℕ
  pub announced : ℕ
  pub may_end : Bool
  pub has_candidates : Bool
  pub reset : Bool
  pub most_offset : ℕ

-- The fields of a row encoder except whether it is closed, with the context states and counts that a call borrows.
pub record RowView : Type 0 where
  pub plan : RowPlan
  pub kept : Kept
  pub learned : List Estimate
  pub tally : Tally
  pub encoder : Encoder
  pub rows : ℕ
  pub in_stripe : ℕ
  pub is_counted : Bool
  pub named : Option ℕ

abbrev pub plan_of : RowEncoder → RowPlan
plan_of e = record {
  width = e.size.width;
  limit = e.size.height;
  shape = e.shape;
  stripe_rows = e.stripe_rows;
  announced = e.announced;
  may_end = e.may_end;
  has_candidates = e.has_candidates;
  reset = e.reset;
  most_offset = e.most_offset;
}

abbrev pub view_of : RowEncoder → Learning → RowView
view_of e l = record {
  plan = plan_of e;
  kept = e.kept;
  learned = l.learned;
  tally = l.tally;
  encoder = e.encoder;
  rows = e.rows;
  in_stripe = e.in_stripe;
  is_counted = e.is_counted;
  named = e.named;
}

-- The coder's registers are those of some coding interval.
abbrev pub IsSomewhere : Encoder → Type 0
IsSomewhere e = (p : Place) × (pushed : List ℕ) × EncoderIsAt e p pushed

-- The window contains some lines.
abbrev pub IsLined : Held → Type 0
IsLined window = (lines : Lines) × HasLines window lines

-- The precondition of a call that encodes a row.
pub record IsAble (e : RowEncoder) : Type 0 where
  pub wide : e.shape.width ≡ e.size.width
  pub named : IfSome e.named (λ t. t ≤ 127)
  pub most : e.most_offset ≤ 127
  pub few : e.in_stripe ≤ e.stripe_rows
  pub few_rows : e.stripe_rows < 2 ^ 32
  pub rows_to : e.rows ≤ e.size.height
  pub inside : e.in_stripe ≤ e.rows
  pub events : event_count e.encoder ≤ e.in_stripe * (e.size.width + 1)
  pub going : has_failed e.encoder ≡ false
  pub somewhere : IsSomewhere e.encoder

-- The state between two calls, for any context states and counts.
pub record MayGoOn (e : RowEncoder) : Type 0 where
  pub able : IsAble e
  pub fewer : e.in_stripe < e.stripe_rows

-- The parameters are those of these settings.
pub record IsPlan (image : Image) (p : RowPlan) : Type 0 where
  pub width_is : p.width ≡ image.width
  pub limit_is : p.limit ≡ image.limit
  pub shape_is : IsShape image.settings image.width p.shape
  pub stripe_rows_is : p.stripe_rows ≡ image.settings.stripe_rows
  pub some : 1 ≤ image.settings.stripe_rows
  pub announced_is : p.announced ≡ unwrap_or image.settings.announced image.limit
  pub may_end_is : p.may_end ≡ is_some image.settings.announced
  pub candidates_are : p.has_candidates ≡ has_choice image.settings
  pub reset_is : p.reset ≡ image.settings.reset
  pub most_is : p.most_offset ≡ image.settings.most_offset
  pub width_from : 1 ≤ image.width
  pub width_to : image.width ≤ 1048576
  pub limit_to : image.limit < 2 ^ 32

-- The state before row r of a stripe, after the stripe's move.
pub record IsHeldBy (move : Option (ℕ × ℕ)) (r : ℕ) (b : RowStart) (kept : Kept) (learned : List Estimate) (window : Held) : Type 0 where
  pub at_top : IfSome move (λ m. m.0 ≡ 0)
  pub offset_is : kept.offset ≡ offset_at move r b.offset
  pub previous_is : kept.previous_typical ≡ b.previous
  pub learned_is : learned ≡ b.state.learned
  pub third : List Bool
  pub lines_are : HasLines window (record { row = b.above; above = b.second; second = third })

-- The offset with which the rows of the stripe are compared, if they are counted.
abbrev pub counted_of : RowView → Option ℕ
counted_of v = if v.is_counted then Some (if v.plan.reset then 0 else v.kept.offset) else None

-- The bytes of the next stripe's move.
abbrev pub move_bytes : Settings → ℕ → EncoderStart → List ℕ
move_bytes s width at = flat_map segment_bytes (move_segments (next_move s width at))

-- The rows of the current stripe are counted if another stripe follows and there are offsets to choose from.
abbrev pub CountsForNext : Settings → ℕ → ℕ → RowView → Type 0
CountsForNext s limit i v = (i + 1) * s.stripe_rows < limit → has_choice s ≡ true → v.is_counted ≡ true

-- These rows of the stripe were encoded. Its move and the final bytes of its code were written.
pub record IsRunning (image : Image) (at : EncoderStart) (part : List (List Bool)) (v : RowView) (window : Held) (pushed : List ℕ) : Type 0 where
  pub codes : EncoderIsAt v.encoder (row_start_in image.settings image.width at part).state.place pushed
  pub is_held : IsHeldBy (next_move image.settings image.width at) (length part) (row_start_in image.settings image.width at part) v.kept v.learned window
  pub two_line : is_two_line v.tally ≡ (mode_of image.settings.options).two_line
  pub most : most_of v.tally ≡ image.settings.most_offset
  pub tallied : IsCountedTo image.width (counted_of v) v.tally (lines_down at.carry.above at.carry.second part)

-- A stripe is in progress, after complete stripes.
pub record Runs (image : Image) (rows : List (List Bool)) (v : RowView) (window : Held) (origin : Origin) (text : Option (List ℕ)) : Type 0 where
  pub plan_is : IsPlan image v.plan
  pub come : HaveCome image.width image.limit rows v.rows
  pub i : ℕ
  pub whole : List (List Bool)
  pub part : List (List Bool)
  pub all : rows ≡ whole ++ part
  pub at : EncoderStart
  pub front : List ℕ
  pub stripes : StripesWhole image i whole at front
  pub in_stripe : v.in_stripe ≡ length part
  pub few : length part ≤ image.settings.stripe_rows
  pub pushed : List ℕ
  pub running : IsRunning image at part v window pushed
  pub names_to : length image.settings.named ≤ i + 1
  pub none_named : v.named ≡ None
  pub counts : CountsForNext image.settings image.limit i v
  pub sent : Sends origin text (front ++ (move_bytes image.settings image.width at ++ pushed))

-- The state at the beginning of a stripe.
pub record IsStart (s : Settings) (width : ℕ) (at : EncoderStart) (v : RowView) (window : Held) : Type 0 where
  pub is_held : IsHeldBy None 0 (first_row_start at.carry) v.kept v.learned window
  pub is_tallied : IsTallied s width at v.tally
  pub named_is : v.named ≡ named_for s at.stripe

-- No stripe is in progress.
pub record Waits (image : Image) (rows : List (List Bool)) (v : RowView) (window : Held) (origin : Origin) (text : Option (List ℕ)) : Type 0 where
  pub plan_is : IsPlan image v.plan
  pub come : HaveCome image.width image.limit rows v.rows
  pub i : ℕ
  pub at : EncoderStart
  pub front : List ℕ
  pub stripes : StripesWhole image i rows at front
  pub in_stripe : v.in_stripe ≡ 0
  pub codes : EncoderIsAt v.encoder start []
  pub names_to : length image.settings.named ≤ i + 1
  pub on_course : i * image.settings.stripe_rows < image.limit → IsStart image.settings image.width at v window
  pub sent : Sends origin text front

-- The state after these rows of an image of this width, and of this height or, if a height is announced, at most this height.
abbrev pub Stands : Image → List (List Bool) → RowView → Held → Origin → Option (List ℕ) → Type 0
Stands image rows v window origin text =
    Waits image rows v window origin text ⊎ (Runs image rows v window origin text × (0 < v.in_stripe) × (v.in_stripe < v.plan.stripe_rows))

-- This row is the current row, below the two lower lines of the old window.
abbrev pub IsBelow : List Bool → Held → Held → Type 0
IsBelow row old new = (lines : Lines) → HasLines old lines → HasLines new (record { row = row; above = lines.row; second = lines.above })

-- An encoder between two steps: its fields, the borrowed window, and the bytes written.
pub record EncoderAt : Type 0 where
  pub view : RowView
  pub window : Held
  pub text : Option (List ℕ)

abbrev pub encoder_at : RowView → Held → Option (List ℕ) → EncoderAt
encoder_at view window text = record { view = view; window = window; text = text }

-- The same, from an encoder and what it borrows.
abbrev pub lent_to : RowEncoder → Learning → Held → Option (List ℕ) → EncoderAt
lent_to e learning window text = encoder_at (view_of e learning) window text

-- A row is encoded. For any stream, the state after the old rows becomes the state after these and the new row.
abbrev pub TakesNextRow : List Bool → EncoderAt → EncoderAt → Type 0
TakesNextRow row e e' =
    (image : Image) (rows : List (List Bool)) (origin : Origin) → Stands image rows e.view e.window origin e.text →
    Stands image (rows ++ row ∷ []) e'.view e'.window origin e'.text

-- An offset is named for the next stripe. For any stream, the stripes before it do not change.
abbrev pub NamesOffset : ℕ → RowView → RowView → Type 0
NamesOffset t v v' =
    (image : Image) (rows : List (List Bool)) (window : Held) (origin : Origin) (text : Option (List ℕ)) → Stands image rows v window origin text →
    (length rows % image.settings.stripe_rows ≡ 0) × Stands (named_after t (length rows) image) rows v' window origin text

-- A prefix of the stream was written.
abbrev pub CutsRow : List Bool → RowView → Held → Option (List ℕ) → Option (List ℕ) → Type 0
CutsRow row v window old new =
    (image : Image) (rows : List (List Bool)) (origin : Origin) → Stands image rows v window origin old →
    StreamCut image (rows ++ row ∷ []) origin new

-- The image ends. For any stream, the whole stream was written.
abbrev pub EndsImage : RowView → Held → Option (List ℕ) → Option (List ℕ) → Type 0
EndsImage v window old new =
    (image : Image) (rows : List (List Bool)) (origin : Origin) → Stands image rows v window origin old →
    Sends origin new (jbg image.settings (raster_of image.width rows))

abbrev pub CutsImage : RowView → Held → Option (List ℕ) → Option (List ℕ) → Type 0
CutsImage v window old new =
    (image : Image) (rows : List (List Bool)) (origin : Origin) → Stands image rows v window origin old →
    SendsBeginning origin new (jbg image.settings (raster_of image.width rows))
