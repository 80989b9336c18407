-- A walk that searches for the height, and continues after one.
use Rattle.std.specs.Prelude.{ℕ, ◌+◌, ◌-◌, ◌≡◌, ◌≤◌, ◌<◌, ◌^◌, ◌⊎◌, ⊤, Bool, true, false, not, List, [], ◌∷◌, ◌++◌, Option, Some, None, IfSome, length, min, sum_by, count_by, flat_map, if◌then◌else◌, IsTrue}
use Rattle.std.specs.List.{AllByRecursion}
use Rattle.std.specs.Io.KnownBytes.{Consumes}
use Rattle.qm_core.specs.Code.{stuffed}
use Rattle.t85_core.specs.declared.fault.Fault.{Fault}
use Rattle.t85_core.specs.declared.fault.Fault.TheVariants.{Truncated}
use Rattle.t85_core.specs.declared.height.Reached.{Reached}
use Rattle.t85_core.specs.Header.{Fields}
use Rattle.t85_core.specs.Grammar.{Segment, NewLength, Comment, segment_bytes, is_move, is_comment, lengths, is_nil, Stripe, stripe_bytes, all_segments, stripe_count, moves_in, comments_in, is_valid_length, IsLegal, IsBegun, AreStripes, Parts}
use Rattle.t85_core.specs.Refusal.{rest_fault, BodyFault}
use Rattle.t85_core.specs.declared.segments.Code.{Code}
use Rattle.t85_core.specs.declared.segments.Code.TheVariants as code
use Rattle.t85_core.specs.Private.Buffers.{Reading, reading}
use Rattle.t85_core.specs.Private.Segments.{PassesCode, CodeFault}
use Rattle.t85_core.specs.Info.{numbers_of}
use Rattle.t85_core.specs.Height.{IsHeight, IsOpen}

-- The position in a stripe at which a search for the height continues: the number of stripe data entities, whether there was a
-- height before, and whether the stripe had a move.
pub record SearchPlace : Type 0 where
  pub entities : ℕ
  pub given : Bool
  pub moved : Bool

abbrev pub search_place : ℕ → Bool → Bool → SearchPlace
search_place entities given moved = record { entities = entities; given = given; moved = moved }

-- The numbers of moves and comments that were skipped.
pub record SegmentCounts : Type 0 where
  pub moves : ℕ
  pub comments : ℕ

abbrev pub segment_counts : ℕ → ℕ → SegmentCounts
segment_counts moves comments = record { moves = moves; comments = comments }

-- The end of a search for the height: the number of stripe data entities, the segments in these, and those behind them.
pub record SearchEnd : Type 0 where
  pub entities : ℕ
  pub passed : SegmentCounts
  pub part : SegmentCounts

abbrev pub search_end : ℕ → (moves comments : ℕ) → (part_moves part_comments : ℕ) → SearchEnd
search_end entities moves comments part_moves part_comments =
    record { entities = entities; passed = segment_counts moves comments; part = segment_counts part_moves part_comments }

-- a search that reached this position ended there
abbrev pub search_end_of : Reached → SearchEnd
search_end_of r = search_end r.entities r.passed.moves r.passed.comments r.part.moves r.part.comments

-- The error of a rest behind these segments and this code of a stripe, whatever the actual height is.
abbrev pub FaultAnyHeight : Fields → SearchPlace → List Segment → List ℕ → List ℕ → Fault → Type 0
FaultAnyHeight h at segments code rest fault =
    (height : ℕ) → rest_fault h (record { height = height; entities = at.entities; heights = if at.given then 1 else 0 }) ((if at.moved then 1 else 0) + count_by is_move segments)
    (not (is_nil code)) rest ≡ Some fault

-- The code begins here, and is skipped with its end marker.
abbrev pub PassesRest : Code → Option (List ℕ) → Option (List ℕ) → Type 0
PassesRest (code.Byte b) old new = (reset : Bool) × PassesCode old new reset
PassesRest (code.Marker reset) old new = new ≡ old

-- it breaks before its end marker
abbrev pub RestBreaks : Code → List ℕ → Fault → Type 0
RestBreaks (code.Byte b) given fault = CodeFault given fault
RestBreaks (code.Marker reset) given fault = ⊥

-- A whole stripe without a height; and the numbers of moves and comments in it, or in its rest after a move.
pub record SkipsStripe (h : Fields) (moved : Bool) (known : Reading) (counts : SegmentCounts) : Type 0 where
  pub stripe : Stripe
  pub whole : IsBegun h stripe.segments stripe.code
  pub alone : (if moved then 1 else 0) + count_by is_move stripe.segments ≤ 1
  pub none : lengths stripe.segments ≡ []
  pub moves_are : counts.moves ≡ moves_in stripe
  pub comments_are : counts.comments ≡ min (comments_in stripe) (2 ^ 64 - 1)
  pub taken : Consumes known.old known.new (stripe_bytes stripe)

-- Segments of a stripe, and after them the first valid height.
pub record SkipsTo (h : Fields) (at : SearchPlace) (known : Reading) (counts : SegmentCounts) (height : ℕ) : Type 0 where
  pub segments : List Segment
  pub begun : IsBegun h segments []
  pub alone : (if at.moved then 1 else 0) + count_by is_move segments ≤ 1
  pub none : lengths segments ≡ []
  pub ungiven : at.given ≡ false
  pub legal : IsLegal h (NewLength height)
  pub valid : is_valid_length h at.entities height ≡ true
  pub moves_are : counts.moves ≡ count_by is_move segments
  pub comments_are : counts.comments ≡ min (count_by is_comment segments) (2 ^ 64 - 1)
  pub taken : Consumes known.old known.new (flat_map segment_bytes segments ++ segment_bytes (NewLength height))

-- either of them
abbrev pub SkipsParts : Fields → SearchPlace → Reading → SegmentCounts → Option ℕ → Type 0
SkipsParts h at known counts None = SkipsStripe h at.moved known counts
SkipsParts h at known counts (Some height) = SkipsTo h at known counts height

-- A stripe that breaks before it contains a height.
pub record SkipFault (h : Fields) (at : SearchPlace) (bytes : List ℕ) (fault : Fault) : Type 0 where
  pub segments : List Segment
  pub code : List ℕ
  pub rest : List ℕ
  pub bytes_are : bytes ≡ flat_map segment_bytes segments ++ (stuffed code ++ rest)
  pub begun : IsBegun h segments code
  pub alone : (if at.moved then 1 else 0) + count_by is_move segments ≤ 1
  pub none : lengths segments ≡ []
  pub rest_has : FaultAnyHeight h at segments code rest fault

-- whether a move precedes the next bytes: none after a whole stripe
abbrev pub moved_behind : Bool → List Stripe → Bool
moved_behind moved [] = moved
moved_behind moved (s ∷ stripes) = false

-- the first stripe has no move if one preceded it
abbrev pub IsAlone : Bool → List Stripe → Type 0
IsAlone moved [] = ⊤
IsAlone moved (s ∷ stripes) = (if moved then 1 else 0) + count_by is_move s.segments ≤ 1

-- This many whole stripes without a height.
pub record SkipsStripes (h : Fields) (moved : Bool) (count : ℕ) (known : Reading) (counts : SegmentCounts) : Type 0 where
  pub stripes : List Stripe
  pub count_is : length stripes ≡ count
  pub each : AreStripes h stripes
  pub alone : IsAlone moved stripes
  pub none : lengths (all_segments stripes) ≡ []
  pub moves_are : counts.moves ≡ sum_by moves_in stripes
  pub comments_are : counts.comments ≡ min (sum_by comments_in stripes) (2 ^ 64 - 1)
  pub taken : Consumes known.old known.new (flat_map stripe_bytes stripes)

-- stripes, and after them segments and the first valid height
pub record SkipsStripesTo (h : Fields) (from : SearchPlace) (known : Reading) (to : SearchEnd) (height : ℕ) : Type 0 where
  pub mid : Option (List ℕ)
  pub count : ℕ
  pub entities_are : to.entities ≡ from.entities + count
  pub before : SkipsStripes h from.moved count (reading known.old mid) to.passed
  pub part : SkipsTo h (search_place to.entities from.given (moved_behind from.moved before.stripes)) (reading mid known.new) to.part height

-- stripes, and after them one that breaks before it contains a height
pub record SkipsFault (h : Fields) (from : SearchPlace) (count : ℕ) (bytes : List ℕ) (fault : Fault) : Type 0 where
  pub stripes : List Stripe
  pub tail : List ℕ
  pub bytes_are : bytes ≡ flat_map stripe_bytes stripes ++ tail
  pub fewer : from.entities + length stripes < count
  pub each : AreStripes h stripes
  pub alone : IsAlone from.moved stripes
  pub none : lengths (all_segments stripes) ≡ []
  pub tail_has : SkipFault h (search_place (from.entities + length stripes) from.given (moved_behind from.moved stripes)) tail fault

-- all stripes, or some and a height after them
abbrev pub Sought : Fields → SearchPlace → ℕ → Reading → SearchEnd → Option ℕ → Type 0
Sought h from count known to None = (to.entities ≡ count) × (to.part.moves ≡ 0) × SkipsStripes h from.moved (count - from.entities) known to.passed
Sought h from count known to (Some height) = (to.entities < count) × SkipsStripesTo h from known to height

-- after the last stripe: comments
pub record Comments (h : Fields) (segments : List Segment) : Type 0 where
  pub comments : AllByRecursion (λ s. IsTrue (is_comment s)) segments
  pub legal : AllByRecursion (IsLegal h) segments

-- and a valid height
pub record LooksTo (h : Fields) (entities : ℕ) (old new : Option (List ℕ)) (height : ℕ) : Type 0 where
  pub segments : List Segment
  pub are : Comments h segments
  pub legal : IsLegal h (NewLength height)
  pub valid : is_valid_length h entities height ≡ true
  pub taken : Consumes old new (flat_map segment_bytes segments ++ segment_bytes (NewLength height))

-- and bytes that are neither a comment nor a valid height
pub record LookEnds (h : Fields) (entities : ℕ) (rest : List ℕ) : Type 0 where
  pub segments : List Segment
  pub last : List ℕ
  pub are : Comments h segments
  pub no_height : (n : ℕ) (more : List ℕ) → is_valid_length h entities n ≡ true → last ≡ segment_bytes (NewLength n) ++ more → ⊥
  pub no_comment : (text more : List ℕ) → length text < 2 ^ 32 → last ≡ segment_bytes (Comment text) ++ more → ⊥
  pub rest_is : rest ≡ flat_map segment_bytes segments ++ last

-- or the bytes end, or a read failed, before that is known
pub record LookOpen (h : Fields) (entities : ℕ) (given : List ℕ) : Type 0 where
  pub segments : List Segment
  pub rest : List ℕ
  pub are : Comments h segments
  pub given_is : given ≡ flat_map segment_bytes segments ++ rest
  pub cut : FaultAnyHeight h (search_place entities false true) [] [] rest Truncated

-- The height in the body was found.
pub record FindsGiven (h : Fields) (known : Reading) (to : SearchEnd) (height : ℕ) : Type 0 where
  pub mid : Option (List ℕ)
  pub before : SkipsStripes h false to.entities (reading known.old mid) to.passed
  pub segments : List Segment
  pub begun : IsBegun h segments []
  pub none : lengths segments ≡ []
  pub legal : IsLegal h (NewLength height)
  pub valid : is_valid_length h to.entities height ≡ true
  pub within : to.entities ≤ stripe_count h.yd h.l0
  pub behind : to.entities ≡ stripe_count h.yd h.l0 → AllByRecursion (λ s. IsTrue (is_comment s)) segments
  pub part_moves_are : to.part.moves ≡ count_by is_move segments
  pub part_comments_are : to.entities < stripe_count h.yd h.l0 → to.part.comments ≡ min (count_by is_comment segments) (2 ^ 64 - 1)
  pub taken : Consumes mid known.new (flat_map segment_bytes segments ++ segment_bytes (NewLength height))

-- It was found like this, whatever bytes precede it.
abbrev pub WhereFound : Fields → Option (List ℕ) → SearchEnd → ℕ → (Option (List ℕ) → Type 0) → Type 0
WhereFound h rest to height Leaves = (known : Option (List ℕ)) → FindsGiven h (reading known rest) to height → Leaves known

-- All stripes of the header's height were skipped, and the body contains no height.
pub record FindsNone (h : Fields) (known : Reading) (entities : ℕ) (counts : SegmentCounts) : Type 0 where
  pub mid : Option (List ℕ)
  pub before : SkipsStripes h false entities (reading known.old mid) counts
  pub all : entities ≡ stripe_count h.yd h.l0
  pub height_is : IfSome known.old (λ body. IsHeight h body h.yd)

-- either of them
abbrev pub Finds : Fields → Reading → SearchEnd → Option ℕ → Type 0
Finds h known to None = FindsNone h known to.entities to.passed
Finds h known to (Some height) = FindsGiven h known to height

-- a read failed before it was known whether the body contains a height: in the stripes, or after the last of them
abbrev pub FindsOpen : Fields → List ℕ → Type 0
FindsOpen h given = SkipsFault h (search_place 0 false false) (stripe_count h.yd h.l0) given Truncated ⊎ IsOpen h given

-- The numbers of a body at its height.
pub record BodyNumbers (h : Fields) (numbers body : List ℕ) : Type 0 where
  pub height : ℕ
  pub height_is : IsHeight h body height
  pub parts : Parts h height body
  pub numbers_are : numbers ≡ numbers_of h height parts.stripes

-- a body that does not have its parts at its height
pub record BodyRefused (h : Fields) (fault : Fault) (body : List ℕ) : Type 0 where
  pub height : ℕ
  pub height_is : IsHeight h body height
  pub broken : BodyFault h height body fault

-- a body that ends too early at its height, or before that is known
abbrev pub BodyUnfinished : Fields → List ℕ → Type 0
BodyUnfinished h given = BodyRefused h Truncated given ⊎ IsOpen h given
