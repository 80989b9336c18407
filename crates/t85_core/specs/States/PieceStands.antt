-- The position of a decoder of a stream in pieces, while a height may still follow, and after.
use Rattle.std.specs.Prelude.{ℕ, ◌≡◌, Bool, List, ◌++◌, ◌+◌, ◌⊎◌, true, false, nat_le, None}
use Rattle.t85_core.specs.declared.fault.Fault.TheVariants.{Truncated}
use Rattle.t85_core.specs.Lent.{WalkView, PieceView}
use Rattle.t85_core.specs.Grammar.{marker_bytes}
use Rattle.t85_core.specs.States.Pieces.{CutOff, WalkStands, HasMarker, IsInCode}
use Rattle.t85_core.specs.States.SizedImage.{SizedImage, sized}
use Rattle.t85_core.specs.declared.pieces.head.Head.{Head}
use Rattle.t85_core.specs.Stages.{Kind}
use Rattle.t85_core.specs.Stages as stage
use Rattle.t85_core.specs.declared.segments.Place.{Place}
use Rattle.t85_core.specs.Header.{Fields, is_variable}
use Rattle.t85_core.specs.Options.{fields_of}
use Rattle.t85_core.specs.Height.{GivesHeight}
use Rattle.t85_core.specs.States.Behind.{BehindStands, behind_at}

-- These bytes end in an end marker, and the rows that the bytes before it fix are the first of those that were handed out.
pub record MarkerAfterRows (image : SizedImage) (text out : List ℕ) : Type 0 where
  pub front : List ℕ
  pub reset : Bool
  pub text_is : text ≡ front ++ marker_bytes reset
  pub first : List ℕ
  pub more : List ℕ
  pub out_is : out ≡ first ++ more
  pub cut : CutOff image front first Truncated

-- The known height: the header's while another may follow. After that it arrived, or none may follow.
pub record HeightKnown (h : Fields) (height : ℕ) (is_open : Bool) (text : List ℕ) : Type 0 where
  pub variable : is_open ≡ true → is_variable h ≡ true
  pub first : is_open ≡ true → height ≡ h.yd
  pub came : is_open ≡ false → is_variable h ≡ true → (rest : List ℕ) → GivesHeight h (text ++ rest) height
  pub fixed : is_open ≡ false → is_variable h ≡ false → height ≡ h.yd

-- the number of stripe data entities before the bytes behind a walk
abbrev pub entities_behind : Kind → ℕ → ℕ
entities_behind stage.Head entities = entities
entities_behind stage.Comment entities = entities
entities_behind stage.Code entities = entities + 1
entities_behind stage.Row entities = entities + 1
entities_behind stage.Done entities = entities

-- whether the last stripe is over there
abbrev pub is_last : Kind → Bool → Bool
is_last stage.Head no_more = false
is_last stage.Comment no_more = false
is_last stage.Code no_more = no_more
is_last stage.Row no_more = no_more
is_last stage.Done no_more = true

-- the position behind this many, before a height
abbrev pub place_at : (height entities : ℕ) → Place
place_at height entities = record { height = height; entities = entities; given = false }

abbrev pub place_behind : Fields → Kind → ℕ → Place
place_behind h s entities = place_at h.yd (entities_behind s entities)

abbrev pub last_behind : Fields → Kind → ℕ → Bool
last_behind h s left = is_last s (nat_le left h.l0)

-- A walk is in the code of a stripe, and no height came.
pub record CodeWalks (h : Fields) (w : WalkView) (text out : List ℕ) : Type 0 where
  pub walk : WalkStands (sized h h.yd) w text out
  pub in_code : IsInCode w.stage
  pub ungiven : w.given ≡ false
  -- an end marker was read only after the rows that the bytes before it fix
  pub in_time : HasMarker w → MarkerAfterRows (sized h h.yd) text out

-- where a walk waits: before the first stripe, or at the end marker of one
abbrev pub IsAtMarker : WalkView → Type 0
IsAtMarker w = ((w.stage ≡ stage.Head) × (w.at ≡ None) × (w.entities ≡ 0)) ⊎ (IsInCode w.stage × HasMarker w)

-- A walk waits for what comes behind it, of which this came.
pub record WalkWaits (h : Fields) (w : WalkView) (b : Head) (text out : List ℕ) : Type 0 where
  pub done : List ℕ
  pub back : List ℕ
  pub text_is : text ≡ done ++ back
  pub walk : WalkStands (sized h h.yd) w done out
  pub at : IsAtMarker w
  pub ungiven : w.given ≡ false
  pub in_time : IsInCode w.stage → MarkerAfterRows (sized h h.yd) done out
  pub behind : BehindStands h (behind_at (place_behind h w.stage w.entities) (last_behind h w.stage w.left)) b back

abbrev pub StandsAs : Bool → Bool → PieceView → List ℕ → List ℕ → Type 0
StandsAs false waits d text out = WalkStands (sized (fields_of d.header) d.height) d.walk text out
StandsAs true false d text out = CodeWalks (fields_of d.header) d.walk text out
StandsAs true true d text out = WalkWaits (fields_of d.header) d.walk d.behind text out

-- A decoder has taken these bytes, and has given these rows, packed.
pub record DecoderStands (d : PieceView) (text out : List ℕ) : Type 0 where
  pub height : HeightKnown (fields_of d.header) d.height d.is_open text
  pub stands : StandsAs d.is_open d.waits d text out
