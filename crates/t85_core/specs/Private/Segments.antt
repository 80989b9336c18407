-- The result of one step of the walk.
use Rattle.std.specs.Prelude.{◌≡◌, ◌≢◌, ◌≤◌, ◌<◌, ◌+◌, ◌-◌, ◌^◌, ℕ, Bool, true, false, List, [], ◌++◌, Option, Some, length, min, count_by, flat_map, option_map, is_some, if◌then◌else◌}
use Rattle.std.specs.List.{AllByRecursion}
use Rattle.std.specs.Io.KnownBytes.{Consumes}
use Rattle.qm_core.specs.Code.{stuffed}
use Rattle.t85_core.specs.declared.fault.Fault.{Fault}
use Rattle.t85_core.specs.declared.segments.Segments.{Segments}
use Rattle.t85_core.specs.declared.segments.Next.{Next}
use Rattle.t85_core.specs.declared.segments.Next.TheVariants as next
use Rattle.t85_core.specs.declared.segments.Place.{Place}
use Rattle.t85_core.specs.declared.segments.Element.{Element}
use Rattle.t85_core.specs.declared.segments.Element.TheVariants as element
use Rattle.t85_core.specs.Header.{Fields}
use Rattle.t85_core.specs.Grammar.{Segment, NewLength, Move, Comment, segment_bytes, is_move, is_comment, lengths, GiveOnly, IsLegal, is_valid_length, marker_bytes, IsBegun}
use Rattle.t85_core.specs.Coding.{move_of}
use Rattle.t85_core.specs.Refusal.{Spot, rest_fault, length_fault, StripeFault}
use Rattle.t85_core.specs.States.Segments.{code_bytes, IsByteOrMarker}

-- the start of a stripe, or the next item in it
abbrev pub spot_at : Place → Spot
spot_at place = record { height = place.height; entities = place.entities; heights = if place.given then 1 else 0 }

-- the error of a rest inside a code
abbrev pub RestFault : List ℕ → Fault → Type 0
RestFault rest fault = (h : Fields) (spot : Spot) (moves : ℕ) → rest_fault h spot moves true rest ≡ Some fault

-- bytes of a code, and its end marker
pub record PassesCode (old new : Option (List ℕ)) (reset : Bool) : Type 0 where
  pub code : List ℕ
  pub bytes : AllByRecursion (λ b. b < 256) code
  pub taken : Consumes old new (stuffed code ++ marker_bytes reset)

-- bytes of a code, and a rest with this error
pub record CodeFault (bytes : List ℕ) (fault : Fault) : Type 0 where
  pub code : List ℕ
  pub rest : List ℕ
  pub bytes_are : bytes ≡ stuffed code ++ rest
  pub small : AllByRecursion (λ b. b < 256) code
  pub rest_has : RestFault rest fault

-- a stripe that breaks before its code begins
abbrev pub HeadFault : Fields → Spot → List ℕ → Fault → Type 0
HeadFault h spot given fault = (broken : StripeFault h spot given fault) × (broken.code ≡ [])

-- a legal segment
pub record PassesSegment (h : Fields) (old new : Option (List ℕ)) (segment : Segment) : Type 0 where
  pub legal : IsLegal h segment
  pub taken : Consumes old new (segment_bytes segment)

-- the error of a rest before a code, whatever the actual height is
abbrev pub PieceFault : Fields → Place → Bool → List ℕ → Fault → Type 0
PieceFault h place moved rest fault =
    (height : ℕ) → rest_fault h (record { height = height; entities = place.entities; heights = if place.given then 1 else 0 }) (if moved then 1 else 0) false rest ≡ Some fault

-- of the bytes behind FF 05
abbrev pub LengthFault : Fields → Place → List ℕ → Fault → Type 0
LengthFault h place bytes fault = (height : ℕ) → length_fault h (record { height = height; entities = place.entities; heights = if place.given then 1 else 0 }) bytes ≡ Some fault

-- the first height, which is valid, the first move of the stripe, a comment, or the start of the code
abbrev pub Passes : Fields → Place → Bool → Option (List ℕ) → Option (List ℕ) → Element → Type 0
Passes h place moved old new (element.NewLength height) = (place.given ≡ false) × (is_valid_length h place.entities height ≡ true) × PassesSegment h old new (NewLength height)
Passes h place moved old new (element.Move to) = (moved ≡ false) × PassesSegment h old new (Move to.row to.offset)
Passes h place moved old new element.Comment = (text : List ℕ) × PassesSegment h old new (Comment text)
Passes h place moved old new (element.Code c) = IsByteOrMarker c × Consumes old new (code_bytes c)

-- a valid height, or the start of a code
abbrev pub next_bytes : Next → List ℕ
next_bytes (next.Height height) = segment_bytes (NewLength height)
next_bytes (next.Code c) = code_bytes c

-- the height is the first, and differs from the actual one
abbrev pub IsNextItem : Fields → Place → Bool → Next → Type 0
IsNextItem h place given (next.Height height) = (given ≡ false) × (is_valid_length h place.entities height ≡ true) × IsLegal h (NewLength height) × (height ≢ place.height)
IsNextItem h place given (next.Code c) = IsByteOrMarker c

-- Segments of one stripe, after a move or none, and the next item after them.
pub record PassesSegments (h : Fields) (place : Place) (moved : Bool) (old new : Option (List ℕ)) (s : Segments) : Type 0 where
  pub segments : List Segment
  pub begun : IsBegun h segments []
  pub alone : (if moved then 1 else 0) + count_by is_move segments ≤ 1
  pub gives : GiveOnly place.height (if place.given then 1 else 0) segments
  pub given_is : (if s.given then 1 else 0) ≡ (if place.given then 1 else 0) + length (lengths segments)
  pub move_is : option_map (λ to. (to.row, to.offset)) s.at ≡ move_of segments
  pub moves_are : (if is_some s.at then 1 else 0) ≡ count_by is_move segments
  pub comments_are : s.comments ≡ min (count_by is_comment segments) (2 ^ 64 - 1)
  pub next_is : IsNextItem h place s.given s.next
  pub taken : Consumes old new (flat_map segment_bytes segments ++ next_bytes s.next)

-- Segments, and a rest with this error, whatever the actual height is.
pub record SegmentsFault (h : Fields) (place : Place) (moved : Bool) (bytes : List ℕ) (fault : Fault) : Type 0 where
  pub segments : List Segment
  pub rest : List ℕ
  pub bytes_are : bytes ≡ flat_map segment_bytes segments ++ rest
  pub begun : IsBegun h segments []
  pub alone : (if moved then 1 else 0) + count_by is_move segments ≤ 1
  pub gives : GiveOnly place.height (if place.given then 1 else 0) segments
  pub rest_has : (height : ℕ) → rest_fault h (record { height = height; entities = place.entities; heights = (if place.given then 1 else 0) + length (lengths segments) })
      ((if moved then 1 else 0) + count_by is_move segments) false rest ≡ Some fault
