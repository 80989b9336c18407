-- How a stripe is encoded without output, to count its bytes.
use Rattle.std.specs.Prelude.{ℕ, ◌+◌, ◌%◌, ◌-◌, ◌^◌, ◌≡◌, ◌≤◌, ◌<◌, ◌⊎◌, true, false, Bool, List, ◌∷◌, [], ◌++◌, length, flat_map, Option, Some, None, option_map}
use Rattle.qm_core.specs.Code.{code_of, stuffed}
use Rattle.qm_core.specs.Encoder.{EncoderIsAt, event_count, has_failed}
use Rattle.qm_core.specs.Place.{Estimate}
use Rattle.raster_core.specs.Lines.{Lines, Mode}
use Rattle.raster_core.specs.Offset.{best_offset, candidates}
use Rattle.raster_core.specs.Packed.{Held}
use Rattle.raster_core.specs.Tally.{CountsLines, is_two_line, most_of}
use Rattle.raster_core.specs.Window.{shape_mode}
use Rattle.raster_core.specs.declared.shape.Shape.{Shape}
use Rattle.raster_core.specs.declared.tally.Tally.{Tally}
use Rattle.raster_core.specs.declared.window.Window.{Window}
use Rattle.raster_core.specs.Machine.Places.{MayCodeRow}
use Rattle.t85_core.specs.declared.encoding.by_row.RowEncoder.{RowEncoder}
use Rattle.t85_core.specs.declared.encoding.by_row.trial.Trial.{Trial}
use Rattle.t85_core.specs.declared.encoding.by_row.best_offset.Choice.{Choice}
use Rattle.t85_core.specs.BestOffset.{plain_lines, IsNoWorse}
use Rattle.t85_core.specs.Grammar.{segment_bytes}
use Rattle.t85_core.specs.Jbg.{moved_to, move_segments}
use Rattle.t85_core.specs.States.State.{RowStart, StripeStart, first_row_start}
use Rattle.t85_core.specs.States.Written.{after_rows, lines_down}
use Rattle.t85_core.specs.States.ByRow.{IsHeldBy, IsBelow}

-- The move before a stripe for which offset t is named, if this one is in use.
abbrev pub named_move : ℕ → ℕ → Option (ℕ × ℕ)
named_move t current = option_map (λ u. (0, u)) (moved_to (Some t) current None)

-- How a stripe is tried: the mode of its rows, the greatest offset, the state carried to it, and the offset named for it.
pub record TrialOf : Type 0 where
  pub mode : Mode
  pub most : ℕ
  pub carry : StripeStart
  pub offset : ℕ

abbrev pub trial_of : Mode → ℕ → StripeStart → ℕ → TrialOf
trial_of mode most carry offset = record { mode = mode; most = most; carry = carry; offset = offset }

-- The state after these rows of it.
abbrev pub tried_to : TrialOf → List (List Bool) → RowStart
tried_to t part = after_rows t.mode (named_move t.offset t.carry.offset) 0 (first_row_start t.carry) part

-- The lines of the rows that are not typical.
abbrev pub plain_down : TrialOf → List (List Bool) → List Lines
plain_down t part = plain_lines t.mode (lines_down t.carry.above t.carry.second part)

-- These rows were encoded, with this window.
pub record IsTried (t : TrialOf) (part : List (List Bool)) (width : ℕ) (trial : Trial) (window : Held) : Type 0 where
  pub pushed : List ℕ
  pub codes : EncoderIsAt trial.encoder (tried_to t part).state.place pushed
  pub bytes : trial.sink.bytes ≡ length pushed % 2 ^ 64
  pub is_held : IsHeldBy (named_move t.offset t.carry.offset) (length part) (tried_to t part) trial.kept trial.learned window
  pub two_line : is_two_line trial.tally ≡ t.mode.two_line
  pub most_is : most_of trial.tally ≡ t.most
  pub counts : trial.is_counted ≡ true → CountsLines trial.tally width 0 (plain_down t part)

-- The bytes of the code.
abbrev pub tried_code : TrialOf → List (List Bool) → List ℕ
tried_code t part = stuffed (code_of (tried_to t part).state.place)

-- The number of bytes of the stripe: its move, its code and its end marker.
abbrev pub tried_length : TrialOf → List (List Bool) → ℕ
tried_length t part = (length (tried_code t part) + (length (flat_map segment_bytes (move_segments (named_move t.offset t.carry.offset))) + 2)) % 2 ^ 64

-- The lag that its rows choose.
abbrev pub tried_lag : TrialOf → List (List Bool) → Option ℕ
tried_lag t part = best_offset (plain_down t part) (candidates t.mode.two_line t.most)

-- A tally counts the same lags.
abbrev pub CountsAsBefore : Tally → Tally → Type 0
CountsAsBefore old new = (is_two_line new ≡ is_two_line old) × (most_of new ≡ most_of old)

-- A row may be encoded.
pub record MayTry (shape : Shape) (trial : Trial) (window : Window) (events : ℕ) : Type 0 where
  pub row : MayCodeRow shape trial.kept window
  pub going : has_failed trial.encoder ≡ false
  pub few : event_count trial.encoder ≤ events

-- It was encoded, whatever stripe it is in.
abbrev pub TriesRow : Shape → Held → Trial → Trial → Type 0
TriesRow shape window trial trial' =
    (most : ℕ) (carry : StripeStart) (offset : ℕ) (part : List (List Bool)) (row : List Bool) (before : Held) → length part < 2 ^ 32 - 1 → IsBelow row before window →
    IsTried (trial_of (shape_mode shape) most carry offset) part shape.width trial before →
    IsTried (trial_of (shape_mode shape) most carry offset) (part ++ row ∷ []) shape.width trial' window

-- The first rows of the stripe were.
abbrev pub TriesRows : Shape → List (List Bool) → Held → Held → Trial → Trial → Type 0
TriesRows shape part before window trial trial' =
    (most : ℕ) (carry : StripeStart) (offset : ℕ) → IsTried (trial_of (shape_mode shape) most carry offset) [] shape.width trial before →
    IsTried (trial_of (shape_mode shape) most carry offset) part shape.width trial' window

-- The trial of the stripe that begins next, from this state.
abbrev pub trial_from : RowEncoder → StripeStart → ℕ → TrialOf
trial_from e carry offset = trial_of (shape_mode e.shape) e.most_offset carry offset

-- This state is carried to that stripe.
abbrev pub IsCarriedTo : RowEncoder → List Estimate → Held → StripeStart → Type 0
IsCarriedTo e learned window carry = IsHeldBy None 0 (first_row_start carry) e.kept learned window

-- The number of bytes of the stripe with this offset.
abbrev pub trial_length : RowEncoder → StripeStart → List (List Bool) → ℕ → ℕ
trial_length e carry part offset = tried_length (trial_from e carry offset) part

-- The better one of two offsets was chosen, with its number of bytes.
pub record Chooses (bytes : ℕ → ℕ) (t u : ℕ) (choice : Choice) : Type 0 where
  pub bytes_are : choice.bytes ≡ bytes choice.offset
  pub one : (choice.offset ≡ t) ⊎ (choice.offset ≡ u)
  pub than_first : IsNoWorse bytes choice.offset t
  pub than_second : IsNoWorse bytes choice.offset u
