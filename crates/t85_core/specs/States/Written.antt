-- The stream of a raster, in the order in which an encoder writes it.
use Rattle.std.specs.Prelude.{ℕ, ◌≡◌, Bool, true, nat_lt, List, [], ◌∷◌, Option, IfSome, ◌+◌, length, option_map}
use Rattle.raster_core.specs.Tally.{CountsLines, is_two_line, most_of}
use Rattle.raster_core.specs.Lines.{Lines, Mode, may_be_typical}
use Rattle.raster_core.specs.Window.{shape_mode}
use Rattle.raster_core.specs.declared.shape.Shape.{Shape}
use Rattle.raster_core.specs.declared.tally.Tally.{Tally}
use Rattle.t85_core.specs.Coding.{mode_of}
use Rattle.t85_core.specs.Jbg.{Settings, named_for, moved_to}
use Rattle.raster_core.specs.Offset.{chosen_offset, candidates}
use Rattle.t85_core.specs.States.State.{RowStart, StripeStart, first_row_start, lines_with, after_row}

-- The parameters of the rows are those of these settings.
pub record IsShape (s : Settings) (width : ℕ) (shape : Shape) : Type 0 where
  pub width_is : shape.width ≡ width
  pub mode_is : shape_mode shape ≡ mode_of s.options

-- The tally counts these lines, if lines are counted.
abbrev pub IsCountedTo : ℕ → Option ℕ → Tally → List Lines → Type 0
IsCountedTo width counted tally lines = IfSome counted (λ current. CountsLines tally width current lines)

-- The next row is typical if it may be.
abbrev pub next_flag : Mode → RowStart → List Bool → Bool
next_flag mode b row = may_be_typical mode (lines_with b row)

-- The state after these rows of a stripe, from row r on.
abbrev pub after_rows : Mode → Option (ℕ × ℕ) → ℕ → RowStart → List (List Bool) → RowStart
after_rows mode move r b [] = b
after_rows mode move r b (row ∷ rows) = after_rows mode move (r + 1) (after_row mode move r b row (next_flag mode b row)) rows

-- Each of these rows with the two rows above it.
abbrev pub lines_down : List Bool → List Bool → List (List Bool) → List Lines
lines_down above second [] = []
lines_down above second (row ∷ rows) = record { row = row; above = above; second = second } ∷ lines_down row above rows

-- The state carried from stripe to stripe: the number of stripes so far, what the rows carry, and the lines of the stripe
-- before, which choose the next offset if none is named.
pub record EncoderStart : Type 0 where
  pub stripe : ℕ
  pub carry : StripeStart
  pub counted : List Lines

-- The move before the next stripe.
abbrev pub next_move : Settings → ℕ → EncoderStart → Option (ℕ × ℕ)
next_move s width at =
    option_map (λ t. (0, t)) (moved_to (named_for s at.stripe) at.carry.offset (chosen_offset (mode_of s.options).two_line s.most_offset width at.counted at.carry.offset))

-- The state after these rows of the stripe.
abbrev pub row_start_in : Settings → ℕ → EncoderStart → List (List Bool) → RowStart
row_start_in s width at rows = after_rows (mode_of s.options) (next_move s width at) 0 (first_row_start at.carry) rows

-- Whether there are offsets to choose from.
abbrev pub has_choice : Settings → Bool
has_choice s = nat_lt 0 (length (candidates (mode_of s.options).two_line s.most_offset))

-- The counts at the beginning of a stripe: those of the stripe before, if there are offsets to choose from.
pub record IsTallied (s : Settings) (width : ℕ) (at : EncoderStart) (tally : Tally) : Type 0 where
  pub two_line : is_two_line tally ≡ (mode_of s.options).two_line
  pub most : most_of tally ≡ s.most_offset
  pub counts : has_choice s ≡ true → CountsLines tally width at.carry.offset at.counted
