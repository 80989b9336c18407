-- The stream after the header: for each stripe marker segments, and a stripe data entity of a code and an end marker (T.82,
-- 6.2).
use Rattle.std.specs.Prelude.{ℕ, ◌+◌, ◌-◌, ◌*◌, ◌≡◌, ◌≤◌, ◌<◌, ◌^◌, Bool, true, false, ◌&&◌, nat_lt, nat_le, List, [], ◌∷◌, ◌++◌, length, flat_map, count_by, if◌then◌else◌, IsTrue}
use Rattle.std.specs.List.{AllByRecursion}
use Rattle.std.specs.Int.{div_ceil}
use Rattle.byteorder.specs.Endian.{big_bytes}
use Rattle.qm_core.specs.Code.{stuffed}
use Rattle.t85_core.specs.Header.{Fields, is_variable}

-- The byte ESC followed by one of these is not part of a code: the two end markers, the abort marker, and the marker segments.
abbrev pub ESC : ℕ
ESC = 255

abbrev pub SDNORM : ℕ
SDNORM = 2

abbrev pub SDRST : ℕ
SDRST = 3

abbrev pub ABORT : ℕ
ABORT = 4

abbrev pub NEWLEN : ℕ
NEWLEN = 5

abbrev pub ATMOVE : ℕ
ATMOVE = 6

abbrev pub COMMENT : ℕ
COMMENT = 7

-- a marker segment: a new height, a move of the adaptive pixel at a row of the stripe, or a comment
pub data Segment : Type 0 where
  NewLength : (height : ℕ) → Segment
  Move : (row offset : ℕ) → Segment
  Comment : (text : List ℕ) → Segment

abbrev pub segment_bytes : Segment → List ℕ
segment_bytes (NewLength height) = ESC ∷ NEWLEN ∷ big_bytes 4 height
segment_bytes (Move row offset) = ESC ∷ ATMOVE ∷ big_bytes 4 row ++ offset ∷ 0 ∷ []
segment_bytes (Comment text) = ESC ∷ COMMENT ∷ big_bytes 4 (length text) ++ text

abbrev pub is_move : Segment → Bool
is_move (NewLength height) = false
is_move (Move row offset) = true
is_move (Comment text) = false

abbrev pub is_comment : Segment → Bool
is_comment (NewLength height) = false
is_comment (Move row offset) = false
is_comment (Comment text) = true

-- the heights in marker segments
abbrev pub lengths : List Segment → List ℕ
lengths [] = []
lengths (NewLength height ∷ segments) = height ∷ lengths segments
lengths (Move row offset ∷ segments) = lengths segments
lengths (Comment text ∷ segments) = lengths segments

-- A new height is allowed only with VLENGTH, and is from 1 to the header's. A move has a row that a stripe may have, and an
-- offset up to the header's greatest. A comment's length has four bytes.
abbrev pub IsLegal : Fields → Segment → Type 0
IsLegal h (NewLength height) = IsTrue (is_variable h) × (1 ≤ height) × (height ≤ h.yd)
IsLegal h (Move row offset) = (row < h.l0) × (offset ≤ h.mx)
IsLegal h (Comment text) = length text < 2 ^ 32

-- a stripe of a stream: its marker segments, the code, and whether it ends in a reset
pub record Stripe : Type 0 where
  pub segments : List Segment
  pub code : List ℕ
  pub reset : Bool

abbrev pub is_nil : List ℕ → Bool
is_nil [] = true
is_nil (b ∷ code) = false

-- the end marker: SDRST, which resets, or SDNORM
abbrev pub marker_bytes : Bool → List ℕ
marker_bytes reset = ESC ∷ (if reset then SDRST else SDNORM) ∷ []

abbrev pub stripe_bytes : Stripe → List ℕ
stripe_bytes s = flat_map segment_bytes s.segments ++ (stuffed s.code ++ marker_bytes s.reset)

abbrev pub moves_in : Stripe → ℕ
moves_in s = count_by is_move s.segments

abbrev pub comments_in : Stripe → ℕ
comments_in s = count_by is_comment s.segments

-- the number of stripes of a height
abbrev pub stripe_count : ℕ → ℕ → ℕ
stripe_count height l0 = div_ceil height l0

-- the start of a stripe: legal segments with at most one move, and code bytes
pub record IsBegun (h : Fields) (segments : List Segment) (code : List ℕ) : Type 0 where
  pub legal : AllByRecursion (IsLegal h) segments
  pub one_move : count_by is_move segments ≤ 1
  pub bytes : AllByRecursion (λ b. b < 256) code

abbrev pub AreStripes : Fields → List Stripe → Type 0
AreStripes h stripes = AllByRecursion (λ s. IsBegun h s.segments s.code) stripes

-- the marker segments of all stripes
abbrev pub all_segments : List Stripe → List Segment
all_segments stripes = flat_map (λ s. s.segments) stripes

-- A height that is allowed after n stripe data entities: not above the header's, and the last of these entities has a row of
-- the image.
abbrev pub is_valid_length : Fields → ℕ → ℕ → Bool
is_valid_length h entities height = nat_le 1 height && nat_le height h.yd && nat_lt ((entities - 1) * h.l0) height

-- After `heights` heights, the segments contain no other height than this one, and there is at most one in all.
pub record GiveOnly (height heights : ℕ) (segments : List Segment) : Type 0 where
  pub one : heights + length (lengths segments) ≤ 1
  pub this : AllByRecursion (λ n. n ≡ height) (lengths segments)

-- The body is as many stripes as the height has, followed by any bytes. A height in it equals this one, so it is valid at its
-- place.
pub record Parts (h : Fields) (height : ℕ) (body : List ℕ) : Type 0 where
  pub stripes : List Stripe
  pub rest : List ℕ
  pub body_is : body ≡ flat_map stripe_bytes stripes ++ rest
  pub count : length stripes ≡ stripe_count height h.l0
  pub each : AreStripes h stripes
  pub gives : GiveOnly height 0 (all_segments stripes)
