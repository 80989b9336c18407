-- The parts of a stream: the header, marker segments and stripe data entities.
use Rattle.std.specs.Prelude.{ℕ, ◌≢◌, ◌+◌, ◌≡◌, ◌≤◌, ◌<◌, ◌⊎◌, Bool, true, false, not, List, [], ◌∷◌, ◌++◌, length, take, drop, flat_map, count_by, Some, if◌then◌else◌, IsTrue}
use Rattle.std.specs.List.{AllByRecursion}
use Rattle.qm_core.specs.Code.{stuffed}
use Rattle.t85_core.specs.declared.fault.Fault.{Fault}
use Rattle.t85_core.specs.declared.fault.Fault.TheVariants.{Read}
use Rattle.t85_core.specs.declared.parts.Found.{Found}
use Rattle.t85_core.specs.declared.parts.Found.TheVariants as found
use Rattle.t85_core.specs.declared.parts.Part.{Part}
use Rattle.t85_core.specs.declared.parts.PartKind.{PartKind}
use Rattle.t85_core.specs.declared.parts.PartKind.TheVariants as kind
use Rattle.t85_core.specs.declared.parts.PartWalk.{PartWalk}
use Rattle.t85_core.specs.Header.{Fields, HeaderOf, header_fault}
use Rattle.t85_core.specs.Grammar.{Segment, NewLength, Move, Comment, IsLegal, segment_bytes, is_move, is_comment, lengths, Stripe, stripe_bytes, marker_bytes, all_segments, stripe_count, is_nil, IsBegun, AreStripes, GiveOnly}
use Rattle.t85_core.specs.Refusal.{rest_fault}
use Rattle.t85_core.specs.Height.{GivesHeight, IsHeight, StreamFault}
use Rattle.t85_core.specs.Info.{numbers_of, HasNumbers, IsWalkFault}

-- The parts that were returned: none, or the header, whole stripes and segments of the next stripe.
pub data Passed : Type 0 where
  Nothing : Passed
  Behind : (header : Fields) (stripes : List Stripe) (segments : List Segment) → Passed

-- the stripe data entities among them
abbrev pub entities_in : Passed → ℕ
entities_in Nothing = 0
entities_in (Behind h stripes segments) = length stripes

-- the bytes of these stripes and segments, behind the header
abbrev pub passed_bytes : List Stripe → List Segment → List ℕ
passed_bytes stripes segments = flat_map stripe_bytes stripes ++ flat_map segment_bytes segments

-- the segment with this height, if it came last, or nothing
abbrev pub EndsInHeight : Bool → ℕ → List Segment → Type 0
EndsInHeight true height segments = (front : List Segment) × (segments ≡ front ++ NewLength height ∷ [])
EndsInHeight false height segments = segments ≡ []

-- the empty stripe data entity behind a height that came last, if there is one, and otherwise nothing
abbrev pub IsTail : Bool → List ℕ → List ℕ → Type 0
IsTail true tail rest = ((reset : Bool) × (tail ≡ marker_bytes reset)) ⊎ ((tail ≡ []) × ((reset : Bool) (more : List ℕ) → rest ≡ marker_bytes reset ++ more → ⊥))
IsTail false tail rest = tail ≡ []

-- These parts contain no height. Behind the last stripe of the header's height there are only comments, and only if a height
-- follows them.
pub record IsUngiven (w : PartWalk) (h : Fields) (stripes : List Stripe) (segments : List Segment) (body : List ℕ) : Type 0 where
  pub zero : w.late_height ≡ 0
  pub none : lengths (all_segments stripes ++ segments) ≡ []
  pub within : length stripes ≤ stripe_count h.yd h.l0
  pub quiet : length stripes ≡ stripe_count h.yd h.l0 → w.at_height ≡ false → segments ≡ []
  pub comes : w.at_height ≡ true → (length stripes ≡ stripe_count h.yd h.l0) × AllByRecursion (λ s. IsTrue (is_comment s)) segments × ((height : ℕ) × GivesHeight h body height)

-- These parts contain the height of the stream, and no other. Behind the last stripe of this height there is nothing but the
-- segment with the height.
pub record IsGiven (w : PartWalk) (h : Fields) (stripes : List Stripe) (segments : List Segment) (body : List ℕ) : Type 0 where
  pub gives : GivesHeight h body w.late_height
  pub only : GiveOnly w.late_height 0 (all_segments stripes ++ segments)
  pub one : length (lengths (all_segments stripes ++ segments)) ≡ 1
  pub within : length stripes ≤ stripe_count w.late_height h.l0
  pub last : length stripes ≡ stripe_count w.late_height h.l0 → EndsInHeight w.at_height w.late_height segments

-- A parser state in a stream behind its header, these stripes and these segments.
pub record StandsBehind (stream : List ℕ) (w : PartWalk) (h : Fields) (stripes : List Stripe) (segments : List Segment) : Type 0 where
  pub header_of : HeaderOf stream h
  pub offset_is : w.offset ≡ 20 + length (passed_bytes stripes segments)
  pub body_is : drop 20 stream ≡ passed_bytes stripes segments ++ drop w.offset stream
  pub each : AreStripes h stripes
  pub begun : IsBegun h segments []
  pub entities_are : w.entities ≡ length stripes
  pub moved_is : (if w.moved then 1 else 0) ≡ count_by is_move segments
  pub height : IsUngiven w h stripes segments (drop 20 stream) ⊎ IsGiven w h stripes segments (drop 20 stream)

-- a parser state before the first byte
abbrev pub start_walk : PartWalk
start_walk = record { offset = 0; entities = 0; late_height = 0; moved = false; at_height = false }

-- A parser state in a stream behind these parts.
abbrev pub IsBehind : List ℕ → PartWalk → Passed → Type 0
IsBehind stream w Nothing = w.offset ≡ 0
IsBehind stream w (Behind h stripes segments) = StandsBehind stream w h stripes segments

-- The next part is this segment.
abbrev pub AddsSegment : Segment → Passed → Passed → List ℕ → Type 0
AddsSegment segment Nothing to bytes = ⊥
AddsSegment segment (Behind h stripes segments) to bytes = IsLegal h segment × (to ≡ Behind h stripes (segments ++ segment ∷ [])) × (bytes ≡ segment_bytes segment)

-- The next part is a stripe data entity, which completes a stripe.
abbrev pub AddsEntity : Passed → Passed → List ℕ → Type 0
AddsEntity Nothing to bytes = ⊥
AddsEntity (Behind h stripes segments) to bytes =
    (code : List ℕ) × (reset : Bool) × (to ≡ Behind h (stripes ++ record { segments = segments; code = code; reset = reset } ∷ []) []) × (bytes ≡ stuffed code ++ marker_bytes reset)

-- The next part is the header.
abbrev pub AddsHeader : Passed → Passed → List ℕ → Type 0
AddsHeader Nothing to bytes = (h : Fields) × (to ≡ Behind h [] []) × HeaderOf bytes h × (length bytes ≡ 20)
AddsHeader (Behind h stripes segments) to bytes = ⊥

-- The next part is of this kind, and has these bytes.
abbrev pub Adds : PartKind → Passed → Passed → List ℕ → Type 0
Adds kind.Header from to bytes = AddsHeader from to bytes
Adds kind.Comment from to bytes = (text : List ℕ) × AddsSegment (Comment text) from to bytes
Adds kind.Move from to bytes = (row : ℕ) × (offset : ℕ) × AddsSegment (Move row offset) from to bytes
Adds kind.NewHeight from to bytes = (height : ℕ) × AddsSegment (NewLength height) from to bytes
Adds kind.DataEntity from to bytes = AddsEntity from to bytes

-- The next part of a stream was returned, and the parser state is behind it.
pub record TakesPart (stream : List ℕ) (w w' : PartWalk) (from : Passed) (part : Part) : Type 0 where
  pub to : Passed
  pub bytes : List ℕ
  pub adds : Adds part.kind from to bytes
  pub stands : IsBehind stream w' to
  pub offset_is : part.offset ≡ w.offset
  pub len_is : part.len ≡ length bytes
  pub there : take part.len (drop part.offset stream) ≡ bytes
  pub stripe_is : part.stripe ≡ entities_in from

-- All parts were returned: the stripes of the height of the stream, and behind them nothing but the segment with the height and
-- its empty stripe data entity. If there is such a segment, it is among the parts.
pub record IsWholeStream (stream : List ℕ) (len : ℕ) (h : Fields) (stripes : List Stripe) (segments : List Segment) : Type 0 where
  pub height : ℕ
  pub comes_last : Bool
  pub last : EndsInHeight comes_last height segments
  pub tail : List ℕ
  pub tail_is : IsTail comes_last tail (drop len stream)
  pub within : len ≤ length stream
  pub bytes_are : take len stream ≡ take 20 stream ++ (passed_bytes stripes segments ++ tail)
  pub numbers : HasNumbers stream (numbers_of h height stripes)
  pub height_is : IsHeight h (drop 20 stream) height
  pub all : length stripes ≡ stripe_count height h.l0
  pub given : (late : ℕ) → GivesHeight h (drop 20 stream) late → lengths (all_segments stripes ++ segments) ≡ late ∷ []

abbrev pub EndsAt : List ℕ → Passed → ℕ → Type 0
EndsAt stream Nothing len = ⊥
EndsAt stream (Behind h stripes segments) len = IsWholeStream stream len h stripes segments

-- These bytes are no whole part, after this many stripe data entities and heights, and this many moves in the stripe: after
-- code bytes, if any, there are bytes with this error.
pub record HasPartFault (h : Fields) (entities heights moves : ℕ) (bytes : List ℕ) (fault : Fault) : Type 0 where
  pub code : List ℕ
  pub rest : List ℕ
  pub bytes_are : bytes ≡ stuffed code ++ rest
  pub small : AllByRecursion (λ b. b < 256) code
  pub rest_has : (height : ℕ) → rest_fault h (record { height = height; entities = entities; heights = heights }) moves (not (is_nil code)) rest ≡ Some fault

-- Behind these parts, the next one is broken.
abbrev pub BreaksNext : Passed → List ℕ → Fault → Type 0
BreaksNext Nothing rest fault = header_fault rest ≡ Some fault
BreaksNext (Behind h stripes segments) rest fault = HasPartFault h (length stripes) (length (lengths (all_segments stripes ++ segments))) (count_by is_move segments) rest fault

-- The stream is broken in its next part.
pub record BreaksAt (stream : List ℕ) (w : PartWalk) (from : Passed) (fault : Fault) (offset stripe : ℕ) : Type 0 where
  pub offset_is : offset ≡ w.offset
  pub stripe_is : stripe ≡ entities_in from
  pub breaks : BreaksNext from (drop offset stream) fault
  pub stream_has : StreamFault stream fault

-- The result of a walk that is behind these parts.
abbrev pub TellsNext : List ℕ → PartWalk → PartWalk → Passed → Found → Type 0
TellsNext stream w w' from (found.Part part) = TakesPart stream w w' from part
TellsNext stream w w' from (found.End len) = EndsAt stream from len × (w' ≡ w)
TellsNext stream w w' from (found.Broken fault offset stripe) = BreaksAt stream w from fault offset stripe × (w' ≡ w)

-- The result of a walk whatever its numbers are: a part has at least one byte, and ends within the stream; an error is one that
-- a stream may have.
abbrev pub TellsOfAny : List ℕ → PartWalk → PartWalk → Found → Type 0
TellsOfAny stream w w' (found.Part part) = (part.offset ≡ w.offset) × (w'.offset ≡ w.offset + part.len) × (0 < part.len) × (w'.offset ≤ length stream)
TellsOfAny stream w w' (found.End len) = (w.offset ≤ len) × (len ≤ w.offset + 2) × (w' ≡ w)
TellsOfAny stream w w' (found.Broken fault offset stripe) = IsWalkFault fault × (fault ≢ Read) × (w' ≡ w)
