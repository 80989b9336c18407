-- The effect of a decoder of stripes.
use Rattle.std.specs.Prelude.{ℕ, ◌+◌, ◌≡◌, Bool, List, [], ◌++◌, length, flat_map}
use Rattle.std.specs.Io.KnownBytes.{Appends, Consumes}
use Rattle.raster_core.specs.Packed.{packed_row}
use Rattle.t85_core.specs.Lent.{Carried}
use Rattle.t85_core.specs.Header.{Fields}
use Rattle.t85_core.specs.Grammar.{Parts, Segment, Stripe, stripe_bytes, lengths, all_segments, GiveOnly}
use Rattle.t85_core.specs.Refusal.{Spot}
use Rattle.t85_core.specs.Failures.{Ends}
use Rattle.t85_core.specs.Denotes.{DenotesAt}
use Rattle.t85_core.specs.Fixed.{Fixes}
use Rattle.t85_core.specs.declared.fault.Fault.{Fault}
use Rattle.t85_core.specs.declared.fault.Fault.TheVariants.{Truncated}
use Rattle.t85_core.specs.Coding.{flagged}
use Rattle.t85_core.specs.States.State.{StripeStart, first_row_start, image_start, StripesRun}
use Rattle.t85_core.specs.States.Passage.{Passage}
use Rattle.t85_core.specs.States.DecodeRows.{IsCarried}

-- segments give the height in use at most once in all, and with them there are this many
pub record GivesIn (spot : Spot) (heights : ℕ) (segments : List Segment) : Type 0 where
  pub gives : GiveOnly spot.height spot.heights segments
  pub heights_are : heights ≡ spot.heights + length (lengths segments)

-- This many stripes were decoded and written.
pub record StripesRead (h : Fields) (height : ℕ) (bytes : Passage) (count heights : ℕ) (carried : Carried) : Type 0 where
  pub stripes : List Stripe
  pub many : length stripes ≡ count
  pub gives_in : GivesIn (record { height = height; entities = 0; heights = 0 }) heights (all_segments stripes)
  pub taken : Consumes bytes.input bytes.input_after (flat_map stripe_bytes stripes)
  pub rows : List (List Bool)
  pub flags : List Bool
  pub next : StripeStart
  pub run : StripesRun h height (image_start h.xd) stripes (flagged rows flags) next
  pub is_carried : IsCarried (first_row_start next) carried
  pub appended : Appends bytes.output bytes.output_after (flat_map packed_row rows)

-- An image was decoded and written, whatever comes after it.
pub record ImageRead (h : Fields) (height : ℕ) (bytes : Passage) : Type 0 where
  pub given : List ℕ
  pub taken : Consumes bytes.input bytes.input_after given
  pub parts : Parts h height given
  pub only : parts.rest ≡ []
  pub rows : List (List Bool)
  pub denotes : (rest : List ℕ) → DenotesAt h height (given ++ rest) (record { width = h.xd; rows = rows })
  pub appended : Appends bytes.output bytes.output_after (flat_map packed_row rows)

-- An image breaks: the rows that what came fixes were written.
pub record ImageCut (h : Fields) (height : ℕ) (bytes : Passage) (fault : Fault) : Type 0 where
  pub rows : List (List Bool)
  pub ends : Ends Truncated bytes.input bytes.input_after (λ given why. Fixes h height given why rows) fault
  pub appended : Appends bytes.output bytes.output_after (flat_map packed_row rows)
