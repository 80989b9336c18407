-- The effect and the result of one step of a walk over the parts of a stream.
use Rattle.std.specs.Prelude.{ℕ, ◌+◌, ◌-◌, ◌^◌, ◌≡◌, ◌≤◌, ◌<◌, ⊤, Bool, true, false, not, ◌==◌, List, [], ◌∷◌, ◌++◌, length, take, drop, if◌then◌else◌}
use Rattle.std.specs.List.{AllByRecursion}
use Rattle.qm_core.specs.Code.{stuffed}
use Rattle.t85_core.specs.declared.fault.Fault.{Fault}
use Rattle.t85_core.specs.declared.parts.Found.{Found}
use Rattle.t85_core.specs.declared.parts.Part.{Part}
use Rattle.t85_core.specs.declared.parts.PartKind.{PartKind}
use Rattle.t85_core.specs.declared.parts.PartKind.TheVariants as kind
use Rattle.t85_core.specs.declared.parts.PartWalk.{PartWalk}
use Rattle.t85_core.specs.declared.parts.Taken.{Taken}
use Rattle.t85_core.specs.declared.parts.Taken.TheVariants as taken
use Rattle.t85_core.specs.declared.segments.Place.{Place}
use Rattle.t85_core.specs.Header.{Fields}
use Rattle.t85_core.specs.Grammar.{Segment, NewLength, Move, Comment, segment_bytes, lengths, all_segments, Stripe, marker_bytes, stripe_count, is_valid_length, IsLegal}
use Rattle.t85_core.specs.Height.{GivesHeight, IsHeight}
use Rattle.t85_core.specs.Info.{numbers_of, HasNumbers}
use Rattle.t85_core.specs.Parts.{StandsBehind, Behind, EndsInHeight, IsTail, HasPartFault, TellsNext, passed_bytes}

-- A legal segment is at the front of the bytes.
abbrev pub ReadsSegment : Fields → Segment → List ℕ → List ℕ → Type 0
ReadsSegment h segment old new = IsLegal h segment × (old ≡ segment_bytes segment ++ new)

-- A part is at the front of the bytes: a comment, the first move of its stripe, the first height, which is valid, or a code and
-- its end marker.
abbrev pub ReadsPart : Fields → Place → Bool → List ℕ → List ℕ → Taken → Type 0
ReadsPart h place moved old new taken.Comment = (text : List ℕ) × ReadsSegment h (Comment text) old new
ReadsPart h place moved old new taken.Move = (moved ≡ false) × (row : ℕ) × (offset : ℕ) × ReadsSegment h (Move row offset) old new
ReadsPart h place moved old new (taken.NewHeight height) = (place.given ≡ false) × (is_valid_length h place.entities height ≡ true) × ReadsSegment h (NewLength height) old new
ReadsPart h place moved old new taken.DataEntity = (code : List ℕ) × (reset : Bool) × AllByRecursion (λ b. b < 256) code × (old ≡ (stuffed code ++ marker_bytes reset) ++ new)

-- none is
abbrev pub MissesPart : Fields → Place → Bool → List ℕ → Fault → Type 0
MissesPart h place moved bytes fault = HasPartFault h place.entities (if place.given then 1 else 0) (if moved then 1 else 0) bytes fault

-- if there is no height so far
abbrev pub place_before : ℕ → Place
place_before entities = record { height = 0; entities = entities; given = false }

abbrev pub IsSegment : Taken → Type 0
IsSegment taken.DataEntity = ⊥
IsSegment _ = ⊤

-- A stripe data entity can be counted.
abbrev pub CanPass : Taken → PartWalk → Type 0
CanPass taken.DataEntity w = w.entities < 2 ^ 32 - 1
CanPass _ w = ⊤

abbrev pub kind_of : Taken → PartKind
kind_of taken.Comment = kind.Comment
kind_of taken.Move = kind.Move
kind_of (taken.NewHeight height) = kind.NewHeight
kind_of taken.DataEntity = kind.DataEntity

-- a part of this length at the current position
abbrev pub part_told : Taken → PartWalk → ℕ → Part
part_told t w len = record { kind = kind_of t; offset = w.offset; len = len; stripe = w.entities }

-- the parser state behind it
abbrev pub walk_behind : Taken → PartWalk → ℕ → PartWalk
walk_behind taken.Comment w len = record { offset = w.offset + len; entities = w.entities; late_height = w.late_height; moved = w.moved; at_height = w.at_height }
walk_behind taken.Move w len = record { offset = w.offset + len; entities = w.entities; late_height = w.late_height; moved = true; at_height = w.at_height }
walk_behind (taken.NewHeight height) w len = record { offset = w.offset + len; entities = w.entities; late_height = height; moved = w.moved; at_height = true }
walk_behind taken.DataEntity w len = record { offset = w.offset + len; entities = w.entities + 1; late_height = w.late_height; moved = false; at_height = false }

abbrev pub header_part : Part
header_part = record { kind = kind.Header; offset = 0; len = 20; stripe = 0 }

abbrev pub header_walk : PartWalk
header_walk = record { offset = 20; entities = 0; late_height = 0; moved = false; at_height = false }

-- whether a segment contained a height
abbrev pub is_given : PartWalk → Bool
is_given w = not (w.late_height == 0)

-- that height, or the header's
abbrev pub height_told : Fields → PartWalk → ℕ
height_told h w = if w.late_height == 0 then h.yd else w.late_height

-- the stripes that it makes
abbrev pub stripes_in_use : Fields → PartWalk → ℕ
stripes_in_use h w = stripe_count (height_told h w) h.l0

-- The result behind this header, wherever the walk is.
abbrev pub TellsThere : Fields → List ℕ → PartWalk → PartWalk → Found → Type 0
TellsThere h stream w w' found = (stripes : List Stripe) (segments : List Segment) → StandsBehind stream w h stripes segments → TellsNext stream w w' (Behind h stripes segments) found

-- in a stripe
abbrev pub TellsInStripe : Fields → List ℕ → PartWalk → PartWalk → Found → Type 0
TellsInStripe h stream w w' found = w.entities < stripes_in_use h w → TellsThere h stream w w' found

-- behind the last stripe
abbrev pub TellsBehind : Fields → List ℕ → PartWalk → PartWalk → Found → Type 0
TellsBehind h stream w w' found = stripes_in_use h w ≤ w.entities → TellsThere h stream w w' found

-- behind the last stripe, if a height follows
abbrev pub TellsBefore : Fields → List ℕ → PartWalk → PartWalk → Found → Type 0
TellsBefore h stream w w' found = w.late_height ≡ 0 → stripe_count h.yd h.l0 ≤ w.entities → (height : ℕ) → GivesHeight h (drop 20 stream) height → TellsThere h stream w w' found

-- All parts were returned.
pub record IsDone (stream : List ℕ) (w : PartWalk) (h : Fields) (stripes : List Stripe) (segments : List Segment) : Type 0 where
  pub height : ℕ
  pub last : EndsInHeight w.at_height height segments
  pub within : w.offset ≤ length stream
  pub bytes_are : take w.offset stream ≡ take 20 stream ++ passed_bytes stripes segments
  pub numbers : HasNumbers stream (numbers_of h height stripes)
  pub height_is : IsHeight h (drop 20 stream) height
  pub all : length stripes ≡ stripe_count height h.l0
  pub given : (late : ℕ) → GivesHeight h (drop 20 stream) late → lengths (all_segments stripes ++ segments) ≡ late ∷ []

-- the number of bytes of the stream behind them
abbrev pub TailIs : PartWalk → List ℕ → ℕ → Type 0
TailIs w stream n = (tail : List ℕ) × (rest : List ℕ) × (drop w.offset stream ≡ tail ++ rest) × (length tail ≡ n) × IsTail w.at_height tail rest

-- A height follows the last stripe, or the stream is whole.
abbrev pub ComesOrEnds : Fields → List ℕ → PartWalk → List Stripe → List Segment → Bool → Type 0
ComesOrEnds h stream w stripes segments true = (w.late_height ≡ 0) × ((height : ℕ) × GivesHeight h (drop 20 stream) height)
ComesOrEnds h stream w stripes segments false = IsDone stream w h stripes segments

abbrev pub SeesHeight : Fields → List ℕ → PartWalk → Bool → Type 0
SeesHeight h stream w sees = stripes_in_use h w ≤ w.entities → (stripes : List Stripe) (segments : List Segment) → StandsBehind stream w h stripes segments →
    ComesOrEnds h stream w stripes segments sees
