-- How far a decoder is in a stripe, and what it has decoded of a broken one.
use Rattle.std.specs.Prelude.{ℕ, ◌+◌, ◌≡◌, ⊤, Bool, List, [], ◌∷◌, length, Option}
use Rattle.qm_core.specs.Place.{Event}
use Rattle.raster_core.specs.Lines.{Mode, row_events}
use Rattle.raster_core.specs.Enough.{AreEnough}
use Rattle.t85_core.specs.Header.{Fields}
use Rattle.t85_core.specs.Grammar.{Segment}
use Rattle.t85_core.specs.States.State.{RowStart, StripeStart, first_row_start, after_row, lines_with, offset_at, RowCoding, stripe_coding, Run}
use Rattle.qm_core.specs.Source.{bytes_of, heard_of}
use Rattle.qm_core.specs.declared.source.Pulled.{Pulled}
use Rattle.qm_core.specs.declared.source.Heard.TheVariants.{More}

-- the events of the next row of a stripe, its row r
abbrev pub events_with : Mode → Option (ℕ × ℕ) → ℕ → RowStart → List Bool → Bool → List Event
events_with mode move r b row flag = row_events mode (lines_with b row) (offset_at move r b.offset) b.previous flag

-- this many bytes determine each of these rows, from row r on
abbrev pub RunEnough : ℕ → RowCoding → ℕ → RowStart → List (List Bool) → List Bool → Type 0
RunEnough count coding r b [] flags = ⊤
RunEnough count coding r b (row ∷ rows) [] = ⊤
RunEnough count coding r b (row ∷ rows) (flag ∷ flags) =
    AreEnough count b.state (events_with coding.mode coding.move r b row flag)
    × RunEnough count coding (r + 1) (after_row coding.mode coding.move r b row flag) rows flags

-- A stripe whose code is being decoded: the fields of its header, the state carried to it, and its segments.
pub record OpenStripe : Type 0 where
  pub fields : Fields
  pub start : StripeStart
  pub segments : List Segment

abbrev pub open_stripe : Fields → StripeStart → List Segment → OpenStripe
open_stripe h c segments = record { fields = h; start = c; segments = segments }

-- how its rows are coded, and the state before its first row
abbrev pub rows_coding : OpenStripe → RowCoding
rows_coding stripe = stripe_coding stripe.fields stripe.segments

abbrev pub rows_start : OpenStripe → RowStart
rows_start stripe = first_row_start stripe.start

-- First rows of a stripe, for which the source has returned these bytes.
pub record RowsSoFar (stripe : OpenStripe) (answers : List Pulled) (rows : List (List Bool)) (flags : List Bool) (last : RowStart) : Type 0 where
  pub run : Run (rows_coding stripe) 0 (rows_start stripe) rows flags last
  -- while the code continues, the bytes so far determine the rows
  pub enough : heard_of answers ≡ More → RunEnough (length (bytes_of answers)) (rows_coding stripe) 0 (rows_start stripe) rows flags
