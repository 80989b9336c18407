-- The effect of a decoder of the rows of a stripe.
use Rattle.std.specs.Prelude.{ℕ, ◌+◌, ◌≡◌, Bool, true, List, ◌++◌, length, replicate, Option}
use Rattle.qm_core.specs.Decoder.{DecoderIsAt}
use Rattle.qm_core.specs.declared.source.Pulled.{Pulled}
use Rattle.raster_core.specs.declared.shape.Shape.{Shape}
use Rattle.t85_core.specs.Lent.{Carried}
use Rattle.t85_core.specs.Header.{Fields}
use Rattle.t85_core.specs.Grammar.{Segment}
use Rattle.t85_core.specs.Coding.{FlaggedRows, flagged, move_of}
use Rattle.t85_core.specs.States.State.{RowStart, StripeStart, first_row_start, image_start}
use Rattle.t85_core.specs.States.Cut.{OpenStripe, open_stripe, RowsSoFar}
use Rattle.t85_core.specs.States.DecodeRows.{IsShapeOf, IsCarried, RowsDone}

-- First rows of a stripe, and then as many as `count` that equal the last of them: with those, so many are decoded.
pub record RowsRepeated (stripe : OpenStripe) (answers : List Pulled) (coded : FlaggedRows) (before : RowStart) (count : ℕ) (done : RowsDone) : Type 0 where
  pub last : RowStart
  pub so_far : RowsSoFar stripe answers (coded.rows ++ replicate count before.above) (coded.flags ++ replicate count true) last
  pub many : length coded.rows + count ≡ done.row
  pub stands : DecoderIsAt done.decoder last.state.place answers
  pub is_carried : IsCarried last done.carried

-- rows more that equal the one before, in whatever stripe
abbrev pub RepeatsRows : Shape → Option (ℕ × ℕ) → ℕ → RowsDone → RowsDone → Type 0
RepeatsRows shape move count done done' =
    (h : Fields) (c : StripeStart) (segments : List Segment) (answers : List Pulled) (rows : List (List Bool)) (flags : List Bool) (last : RowStart) → move ≡ move_of segments → IsShapeOf h shape →
    RowsSoFar (open_stripe h c segments) answers rows flags last → length rows ≡ done.row → DecoderIsAt done.decoder last.state.place answers → IsCarried last done.carried →
    RowsRepeated (open_stripe h c segments) answers (flagged rows flags) last count done'

-- at the top of an image, and after a reset
abbrev pub IsFirst : Carried → Type 0
IsFirst carried = IsCarried (first_row_start (image_start carried.held.width)) carried
