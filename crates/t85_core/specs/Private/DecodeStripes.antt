-- The effect of a decoder of stripes.
use Rattle.std.specs.Prelude.{ℕ, ◌≡◌, Bool, List, ◌++◌, length, Option, flat_map, ◌⊎◌}
use Rattle.std.specs.Io.KnownBytes.{Appends, Consumes}
use Rattle.devices.specs.Device.{AppendsBeginning}
use Rattle.qm_core.specs.Code.{stuffed}
use Rattle.raster_core.specs.Packed.{packed_row}
use Rattle.t85_core.specs.Lent.{Carried}
use Rattle.t85_core.specs.Header.{Fields}
use Rattle.t85_core.specs.Grammar.{Segment, Stripe, segment_bytes, stripe_bytes, IsBegun, GiveOnly}
use Rattle.t85_core.specs.Refusal.{Spot, StripeFault}
use Rattle.t85_core.specs.Failures.{Ends}
use Rattle.t85_core.specs.declared.fault.Fault.{Fault}
use Rattle.t85_core.specs.declared.fault.Fault.TheVariants.{Truncated}
use Rattle.t85_core.specs.Coding.{FlaggedRows, flagged}
use Rattle.t85_core.specs.States.State.{StripeStart, first_row_start, StripeRun, stripe_coding}
use Rattle.t85_core.specs.Private.Cut.{BegunRun, FrontRun}
use Rattle.t85_core.specs.States.Cut.{RunEnough, open_stripe}
use Rattle.t85_core.specs.States.Passage.{Passage}
use Rattle.t85_core.specs.Outcome.{IsOutcome, pbm_rows}
use Rattle.t85_core.specs.States.DecodeRows.{IsCarried}
use Rattle.t85_core.specs.States.DecodeStripes.{GivesIn}

-- The start of a stripe: its place in the body, the state carried to it, and its number of rows.
pub record StripePlace : Type 0 where
  pub spot : Spot
  pub start : StripeStart
  pub count : ℕ

abbrev pub stripe_place : Spot → StripeStart → ℕ → StripePlace
stripe_place spot c count = record { spot = spot; start = c; count = count }

-- A whole stripe was decoded and written.
pub record StripeRead (h : Fields) (place : StripePlace) (heights : ℕ) (bytes : Passage) (carried : Carried) : Type 0 where
  pub stripe : Stripe
  pub taken : Consumes bytes.input bytes.input_after (stripe_bytes stripe)
  pub gives_in : GivesIn place.spot heights stripe.segments
  pub rows : List (List Bool)
  pub flags : List Bool
  pub next : StripeStart
  pub run : StripeRun h place.count place.start stripe (flagged rows flags) next
  pub is_carried : IsCarried (first_row_start next) carried
  pub appended : Appends bytes.output bytes.output_after (flat_map packed_row rows)

-- a fault of a stripe, of which what came decides these rows
abbrev pub DecidesRows : Fields → StripePlace → FlaggedRows → List ℕ → Fault → Type 0
DecidesRows h place coded given fault =
    (broken : StripeFault h place.spot given fault) × BegunRun (open_stripe h place.start broken.segments) place.count broken.code coded.rows coded.flags

-- A stripe that breaks: the rows that what came decides were written.
pub record StripeCut (h : Fields) (place : StripePlace) (bytes : Passage) (fault : Fault) : Type 0 where
  pub rows : List (List Bool)
  pub flags : List Bool
  pub ends : Ends Truncated bytes.input bytes.input_after (DecidesRows h place (flagged rows flags)) fault
  pub appended : Appends bytes.output bytes.output_after (flat_map packed_row rows)

-- These bytes begin the stripe and decide these first rows of it: they are its segments and bytes of
-- its code that are enough for the rows, or the whole stripe.
pub record StripeDecides (h : Fields) (place : StripePlace) (given : List ℕ) (coded : FlaggedRows) : Type 0 where
  pub segments : List Segment
  pub code : List ℕ
  pub begun : IsBegun h segments code
  pub gives : GiveOnly place.spot.height place.spot.heights segments
  pub front : FrontRun (open_stripe h place.start segments) place.count code coded.rows coded.flags
  pub decides : ((given ≡ flat_map segment_bytes segments ++ stuffed code) × RunEnough (length code) (stripe_coding h segments) 0 (first_row_start place.start) coded.rows coded.flags)
      ⊎ ((reset : Bool) × (given ≡ stripe_bytes (record { segments = segments; code = code; reset = reset })))

-- A beginning of a stripe's rows was written, of those that what came decides.
pub record StripeUnwritten (h : Fields) (place : StripePlace) (bytes : Passage) : Type 0 where
  pub given : List ℕ
  pub ahead : List ℕ
  pub taken : Consumes bytes.input bytes.input_after (given ++ ahead)
  pub rows : List (List Bool)
  pub flags : List Bool
  pub decides : StripeDecides h place given (flagged rows flags)
  pub appended : AppendsBeginning bytes.output bytes.output_after (flat_map packed_row rows)

-- However a body goes on that begins so, what is to be written for it begins with these rows.
abbrev pub AreFirst : Fields → ℕ → List ℕ → List (List Bool) → Type 0
AreFirst h height given rows =
    (rest : List ℕ) (fault : Option Fault) (text : List ℕ) → IsOutcome h height (given ++ rest) fault text →
    (behind : List ℕ) × (text ≡ pbm_rows h.xd height rows ++ behind)

-- A beginning of first rows of an image was written, which are decided however the body goes on.
pub record ImageUnwritten (h : Fields) (height : ℕ) (bytes : Passage) : Type 0 where
  pub given : List ℕ
  pub ahead : List ℕ
  pub taken : Consumes bytes.input bytes.input_after (given ++ ahead)
  pub rows : List (List Bool)
  pub first : AreFirst h height given rows
  pub appended : AppendsBeginning bytes.output bytes.output_after (flat_map packed_row rows)
