-- The bytes of an image that a decoder in pieces has consumed.
use Rattle.std.specs.Prelude.{ℕ, ◌≡◌, ◌≤◌, ◌<◌, ◌^◌, ◌⊎◌, Bool, true, false, List, [], ◌∷◌, ◌++◌, length, flat_map, IsTrue}
use Rattle.std.specs.List.{AllByRecursion}
use Rattle.t85_core.specs.Header.{Fields, is_variable}
use Rattle.t85_core.specs.Grammar.{AreStripes, Comment, IsBegun, NewLength, Segment, Stripe, all_segments, is_comment, lengths, segment_bytes, stripe_bytes, stripe_count}
use Rattle.t85_core.specs.Height.{GivesHeight}

-- Behind these stripes there are marker segments, and the last of them is the first height: these bytes.
pub record IsLateHeight (height : ℕ) (h : Fields) (stripes : List Stripe) (bytes : List ℕ) : Type 0 where
  pub segments : List Segment
  pub begun : IsBegun h segments []
  pub first : lengths (all_segments stripes ++ segments) ≡ []
  pub bytes_are : bytes ≡ flat_map segment_bytes segments ++ segment_bytes (NewLength height)

-- These bytes are comments, and the beginning of one more.
pub record AreComments (bytes : List ℕ) : Type 0 where
  pub comments : List Segment
  pub are : AllByRecursion (λ s. IsTrue (is_comment s)) comments
  pub part : List ℕ
  pub begun : (part ≡ []) ⊎ ((text : List ℕ) × (rest : List ℕ) × (length text < 2 ^ 32) × (part ++ rest ≡ segment_bytes (Comment text)))
  pub bytes_are : bytes ≡ flat_map segment_bytes comments ++ part

-- The height of the whole body, if it has one, is in one of these stripes. Comments behind them were consumed only while a height
-- could still follow, and nothing else.
pub record IsNoLateHeight (h : Fields) (stripes : List Stripe) (bytes whole : List ℕ) : Type 0 where
  pub given : (height : ℕ) → GivesHeight h whole height → lengths (all_segments stripes) ≡ height ∷ []
  pub exact : (is_variable h ≡ false) ⊎ (1 ≤ length (lengths (all_segments stripes))) → bytes ≡ []
  pub comments : AreComments bytes

abbrev pub EndsBehind : Bool → ℕ → Fields → List Stripe → List ℕ → List ℕ → Type 0
EndsBehind true height h stripes bytes whole = IsLateHeight height h stripes bytes
EndsBehind false height h stripes bytes whole = IsNoLateHeight h stripes bytes whole

-- The consumed part of a whole body: the stripes of this height, and bytes behind them. `late` says whether the height is behind
-- them.
pub record ConsumesImage (h : Fields) (late : Bool) (height : ℕ) (consumed whole : List ℕ) : Type 0 where
  pub stripes : List Stripe
  pub bytes : List ℕ
  pub consumed_is : consumed ≡ flat_map stripe_bytes stripes ++ bytes
  pub each : AreStripes h stripes
  pub all : length stripes ≡ stripe_count height h.l0
  pub behind : EndsBehind late height h stripes bytes whole
