-- How a raster is divided into stripes, and which events are coded for each (T.82, clauses 6.2 and 6.7).
use Rattle.std.specs.Prelude.{ℕ, zero, suc, ◌+◌, ◌-◌, ◌*◌, ◌/◌, ◌%◌, ◌^◌, ◌<◌, min, Bool, true, false, List, [], ◌∷◌, ◌==◌, if◌then◌else◌, Option, Some, None, slice_index_or, option_and_then, flat_map, filter_map}
use Rattle.qm_core.specs.Place.{Event, Estimate, Place, State, start, fresh, after}
use Rattle.raster_core.specs.Raster.{Raster, height}
use Rattle.raster_core.specs.Lines.{Mode, Lines, lines_at, row_events, numbers_from, IsLegalFlag}
use Rattle.t85_core.specs.Grammar.{Segment, NewLength, Move, Comment}

-- whether bit k of an options byte is set
abbrev pub has_bit : ℕ → ℕ → Bool
has_bit options k = options / 2 ^ k % 2 == 1

-- the bits of the options byte that determine how rows are coded: two-line template, and typical prediction
abbrev pub LRLTWO : ℕ
LRLTWO = 6

abbrev pub TPBON : ℕ
TPBON = 3

-- how rows are coded
abbrev pub mode_of : ℕ → Mode
mode_of options = record { two_line = has_bit options LRLTWO; typical = has_bit options TPBON }

-- The move of a stripe, a row and an offset: the first of its marker segments that is a move. No stripe has two.
abbrev pub move_of : List Segment → Option (ℕ × ℕ)
move_of [] = None
move_of (NewLength height ∷ segments) = move_of segments
move_of (Move row offset ∷ segments) = Some (row, offset)
move_of (Comment text ∷ segments) = move_of segments

-- A raster in stripes of `stripe_rows` rows. For each stripe: the move of the adaptive pixel in it, with its row and its
-- offset, and whether the stripe ends in a reset. For each row: whether it is coded as typical.
pub record Coding : Type 0 where
  pub raster : Raster
  pub mode : Mode
  pub stripe_rows : ℕ
  pub moves : List (Option (ℕ × ℕ))
  pub resets : List Bool
  pub flags : List Bool

-- Rows, with a flag for each that says whether it is coded as typical.
pub record FlaggedRows : Type 0 where
  pub rows : List (List Bool)
  pub flags : List Bool

abbrev pub flagged : List (List Bool) → List Bool → FlaggedRows
flagged rows flags = record { rows = rows; flags = flags }

-- the rows of stripe i
abbrev pub rows_of : Coding → ℕ → List ℕ
rows_of c i = numbers_from (i * c.stripe_rows) (min c.stripe_rows (height c.raster - i * c.stripe_rows))

-- whether stripe i starts from reset contexts: it is the first, or the previous stripe ended in a reset
abbrev pub is_fresh : Coding → ℕ → Bool
is_fresh c zero = true
is_fresh c (suc i) = slice_index_or c.resets i false

-- the last stripe up to stripe i that starts from reset contexts
abbrev pub fresh_stripe : Coding → ℕ → ℕ
fresh_stripe c zero = 0
fresh_stripe c (suc i) = if is_fresh c (suc i) then suc i else fresh_stripe c i

-- the row above which everything is white for row y
abbrev pub top_of : Coding → ℕ → ℕ
top_of c y = fresh_stripe c (y / c.stripe_rows) * c.stripe_rows

abbrev pub lines_of : Coding → ℕ → Lines
lines_of c y = lines_at c.raster (top_of c y) y

-- the offset to which the adaptive pixel is moved at row y, if it is moved there
abbrev pub moved_at : Coding → ℕ → Option ℕ
moved_at c y =
    option_and_then (λ move. if move.0 == y % c.stripe_rows then Some move.1 else None)
    (slice_index_or c.moves (y / c.stripe_rows) None)

-- the last of these, or d if there is none
abbrev pub last_or : ℕ → List ℕ → ℕ
last_or d [] = d
last_or d (x ∷ xs) = last_or x xs

-- the offset at row y: that of the last move from the top to y, or 0 if there is none
abbrev pub offset_of : Coding → ℕ → ℕ
offset_of c y = last_or 0 (filter_map (moved_at c) (numbers_from (top_of c y) (y + 1 - top_of c y)))

-- whether the row before row y is coded as typical; not at the top
abbrev pub previous_of : Coding → ℕ → Bool
previous_of c y = if top_of c y == y then false else slice_index_or c.flags (y - 1) false

abbrev pub flag_of : Coding → ℕ → Bool
flag_of c y = slice_index_or c.flags y false

abbrev pub events_of_row : Coding → ℕ → List Event
events_of_row c y = row_events c.mode (lines_of c y) (offset_of c y) (previous_of c y) (flag_of c y)

-- the events of stripe i
abbrev pub events_of : Coding → ℕ → List Event
events_of c i = flat_map (events_of_row c) (rows_of c i)

-- each stripe starts a new code
abbrev pub begun : List Estimate → State
begun learned = record { place = start; learned = learned }

-- the context states at the start of stripe i
abbrev pub learned_at : Coding → ℕ → List Estimate
learned_at c zero = fresh
learned_at c (suc i) = if is_fresh c (suc i) then fresh else (after (begun (learned_at c i)) (events_of c i)).learned

-- the place to which the events of stripe i lead
abbrev pub place_of : Coding → ℕ → Place
place_of c i = (after (begun (learned_at c i)) (events_of c i)).place

-- each row's flag is legal
abbrev pub HasLegalFlags : Coding → Type 0
HasLegalFlags c = (y : ℕ) → y < height c.raster → IsLegalFlag c.mode (lines_of c y) (flag_of c y)
