-- The height of a stream (T.82, 6.2.6.2): the header's, or, with VLENGTH, that of a later NEWLEN.
use Rattle.std.specs.Prelude.{ℕ, ◌≡◌, ◌≤◌, ◌<◌, ◌⊎◌, not, List, [], ◌++◌, length, drop, flat_map, count_by, Some, IsTrue}
use Rattle.std.specs.List.{AllByRecursion}
use Rattle.qm_core.specs.Code.{stuffed}
use Rattle.t85_core.specs.declared.fault.Fault.{Fault}
use Rattle.t85_core.specs.declared.fault.Fault.TheVariants.{Truncated}
use Rattle.t85_core.specs.Header.{Fields, HeaderOf, header_fault, is_variable}
use Rattle.t85_core.specs.Grammar.{Segment, NewLength, segment_bytes, is_move, is_comment, lengths, Stripe, stripe_bytes, all_segments, stripe_count, is_nil, is_valid_length, IsBegun, AreStripes}
use Rattle.t85_core.specs.Refusal.{rest_fault, BodyFault}

-- A valid height follows whole stripes and legal segments, and is the first NEWLEN. After the last stripe of the header's
-- height, only comments may precede it.
pub record GivesHeight (h : Fields) (body : List ℕ) (height : ℕ) : Type 0 where
  pub variable : IsTrue (is_variable h)
  pub stripes : List Stripe
  pub segments : List Segment
  pub rest : List ℕ
  pub body_is : body ≡ flat_map stripe_bytes stripes ++ (flat_map segment_bytes segments ++ (segment_bytes (NewLength height) ++ rest))
  pub each : AreStripes h stripes
  pub begun : IsBegun h segments []
  pub first : lengths (all_segments stripes ++ segments) ≡ []
  pub within : length stripes ≤ stripe_count h.yd h.l0
  pub behind : length stripes ≡ stripe_count h.yd h.l0 → AllByRecursion (λ s. IsTrue (is_comment s)) segments
  pub valid : IsTrue (is_valid_length h (length stripes) height)

-- the height of the image: that of the valid NEWLEN, or else the header's
abbrev pub IsHeight : Fields → List ℕ → ℕ → Type 0
IsHeight h body height = GivesHeight h body height ⊎ ((height ≡ h.yd) × ((other : ℕ) → GivesHeight h body other → ⊥))

-- The bytes end before it is known whether they contain a height: within one of the stripes of the header's height, or behind
-- these within a comment or a height. There, a move does not count, as in a stripe that had one.
pub record IsOpen (h : Fields) (body : List ℕ) : Type 0 where
  pub variable : IsTrue (is_variable h)
  pub stripes : List Stripe
  pub segments : List Segment
  pub code : List ℕ
  pub rest : List ℕ
  pub body_is : body ≡ flat_map stripe_bytes stripes ++ (flat_map segment_bytes segments ++ (stuffed code ++ rest))
  pub each : AreStripes h stripes
  pub begun : IsBegun h segments code
  pub none : lengths (all_segments stripes ++ segments) ≡ []
  pub within : length stripes ≤ stripe_count h.yd h.l0
  pub behind : length stripes ≡ stripe_count h.yd h.l0 → AllByRecursion (λ s. IsTrue (is_comment s)) segments × (code ≡ [])
  pub moves : ℕ
  pub moves_are : ((length stripes < stripe_count h.yd h.l0) × (moves ≡ count_by is_move segments)) ⊎ ((length stripes ≡ stripe_count h.yd h.l0) × (moves ≡ 1))
  pub cut : rest_fault h (record { height = h.yd; entities = length stripes; heights = 0 }) moves (not (is_nil code)) rest ≡ Some Truncated

-- the height of a stream, and its error at that height
pub record StreamFaultBehind (bytes : List ℕ) (fault : Fault) : Type 0 where
  pub header : Fields
  pub header_of : HeaderOf bytes header
  pub height : ℕ
  pub height_is : IsHeight header (drop 20 bytes) height
  pub broken : BodyFault header height (drop 20 bytes) fault

-- a header that is rejected, or a body without its parts
abbrev pub StreamFault : List ℕ → Fault → Type 0
StreamFault bytes fault = (header_fault bytes ≡ Some fault) ⊎ StreamFaultBehind bytes fault

-- an image may have this height if its header announces that one
abbrev pub MayBeHeight : ℕ → ℕ → Type 0
MayBeHeight announced height = (1 ≤ height) × (height ≤ announced)
