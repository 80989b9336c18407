-- The state carried from row to row, and from stripe to stripe.
use Rattle.std.specs.Prelude.{ℕ, ◌+◌, ◌-◌, ◌≡◌, Bool, true, false, List, [], ◌∷◌, ◌++◌, length, min, ◌==◌, if◌then◌else◌, Option, Some, None}
use Rattle.qm_core.specs.Place.{State, Estimate, start, fresh, after}
use Rattle.qm_core.specs.Code.{Lies}
use Rattle.raster_core.specs.Raster.{white_row}
use Rattle.raster_core.specs.Lines.{Lines, Mode, row_events, IsLegalFlag}
use Rattle.t85_core.specs.Header.{Fields}
use Rattle.t85_core.specs.Grammar.{Segment, Stripe, IsBegun}
use Rattle.t85_core.specs.Coding.{FlaggedRows, flagged, mode_of, move_of}

-- The state between two rows: the coder state, the offset of the adaptive pixel, whether the row before was typical, and
-- the two rows above the next row.
pub record RowStart : Type 0 where
  pub state : State
  pub offset : ℕ
  pub previous : Bool
  pub above : List Bool
  pub second : List Bool

-- A move takes effect at its row of the stripe.
abbrev pub offset_at : Option (ℕ × ℕ) → ℕ → ℕ → ℕ
offset_at None r offset = offset
offset_at (Some move) r offset = if move.0 == r then move.1 else offset

-- The next row with the two rows above it.
abbrev pub lines_with : RowStart → List Bool → Lines
lines_with b row = record { row = row; above = b.above; second = b.second }

-- The state after row r of a stripe.
abbrev pub after_row : Mode → Option (ℕ × ℕ) → ℕ → RowStart → List Bool → Bool → RowStart
after_row mode move r b row flag = record {
  state = after b.state (row_events mode (lines_with b row) (offset_at move r b.offset) b.previous flag);
  offset = offset_at move r b.offset;
  previous = flag;
  above = row;
  second = b.above;
}

-- The row has this width, and the flag is legal.
pub record IsNextRow (width : ℕ) (mode : Mode) (b : RowStart) (row : List Bool) (flag : Bool) : Type 0 where
  pub wide : length row ≡ width
  pub legal : IsLegalFlag mode (lines_with b row) flag

-- The parameters of the rows of a stripe: width, mode, and the move of the adaptive pixel.
pub record RowCoding : Type 0 where
  pub width : ℕ
  pub mode : Mode
  pub move : Option (ℕ × ℕ)

abbrev pub row_coding : ℕ → Mode → Option (ℕ × ℕ) → RowCoding
row_coding width mode move = record { width = width; mode = mode; move = move }

-- The parameters of a stripe with these segments.
abbrev pub stripe_coding : Fields → List Segment → RowCoding
stripe_coding h segments = row_coding h.xd (mode_of h.options) (move_of segments)

-- These rows of a stripe, from row r on, lead to this state.
abbrev pub Run : RowCoding → ℕ → RowStart → List (List Bool) → List Bool → RowStart → Type 0
Run coding r b [] [] last = b ≡ last
Run coding r b [] (flag ∷ flags) last = ⊥
Run coding r b (row ∷ rows) [] last = ⊥
Run coding r b (row ∷ rows) (flag ∷ flags) last =
    IsNextRow coding.width coding.mode b row flag × Run coding (r + 1) (after_row coding.mode coding.move r b row flag) rows flags last

-- The state between two stripes: the context states, and the rest.
pub record StripeStart : Type 0 where
  pub learned : List Estimate
  pub offset : ℕ
  pub previous : Bool
  pub above : List Bool
  pub second : List Bool

-- The state at the top of the image, and after a reset.
abbrev pub image_start : ℕ → StripeStart
image_start width = record { learned = fresh; offset = 0; previous = false; above = white_row width; second = white_row width }

-- Each stripe begins a new code.
abbrev pub first_row_start : StripeStart → RowStart
first_row_start c = record { state = record { place = start; learned = c.learned }; offset = c.offset; previous = c.previous; above = c.above; second = c.second }

-- The stripe ends in SDRST (true) or in SDNORM.
abbrev pub next_stripe_start : ℕ → Bool → RowStart → StripeStart
next_stripe_start width true b = image_start width
next_stripe_start width false b = record { learned = b.state.learned; offset = b.offset; previous = b.previous; above = b.above; second = b.second }

-- A complete stripe of this many rows: its code lies in the interval that its rows lead to.
pub record StripeRun (h : Fields) (count : ℕ) (c : StripeStart) (s : Stripe) (coded : FlaggedRows) (next : StripeStart) : Type 0 where
  pub whole : IsBegun h s.segments s.code
  pub last : RowStart
  pub run : Run (stripe_coding h s.segments) 0 (first_row_start c) coded.rows coded.flags last
  pub many : length coded.rows ≡ count
  pub lies : Lies s.code last.state.place
  pub next_is : next ≡ next_stripe_start h.xd s.reset last

-- Consecutive stripes, with this number of rows left.
abbrev pub StripesRun : Fields → ℕ → StripeStart → List Stripe → FlaggedRows → StripeStart → Type 0
StripesRun h left c [] coded next = (coded.rows ≡ []) × (coded.flags ≡ []) × (c ≡ next)
StripesRun h left c (s ∷ stripes) coded next =
    (first : List (List Bool)) × (rest : List (List Bool)) × (first_flags : List Bool) × (rest_flags : List Bool) × (mid : StripeStart)
    × (coded.rows ≡ first ++ rest) × (coded.flags ≡ first_flags ++ rest_flags)
    × StripeRun h (min left h.l0) c s (flagged first first_flags) mid
    × StripesRun h (left - h.l0) mid stripes (flagged rest rest_flags) next
