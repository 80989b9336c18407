-- The laws of streams, in which height' is the actual height: from 1 to the header's.
pub mod Worked
use Rattle.std.specs.Prelude.{ℕ, ◌≡◌, ◌≤◌, ◌⊎◌, Bool, List, ◌∷◌, ◌++◌, length, take, Option, None, ◌+◌, ◌*◌, unwrap_or, [], suc, Some, map}
use Rattle.qm_core.specs.Code.{IsBytes}
use Rattle.raster_core.specs.Raster.{Raster, IsRaster, height}
use Rattle.t85_core.specs.declared.fault.Fault.{Fault}
use Rattle.t85_core.specs.Header.{Fields, IsAccepted, HeaderOf, header_bytes, header_fault}
use Rattle.t85_core.specs.Grammar.{Segment, Stripe, Parts, stripe_count}
use Rattle.t85_core.specs.Refusal.{BodyFault}
use Rattle.t85_core.specs.Height.{IsHeight}
use Rattle.t85_core.specs.Denotes.{DenotesAt, Denotes}
use Rattle.t85_core.specs.Fixed.{Fixes, AreDecided, begun_stripes}
use Rattle.t85_core.specs.Outcome.{IsOutcome}
use Rattle.t85_core.specs.Jbg.{Settings, AreSettings, IsAnnounced, named_for, first_choice, choice_after, move_before, jbg}
use Rattle.raster_core.specs.Offset.{chosen_offset}
use Rattle.t85_core.specs.Coding.{Coding, rows_of, lines_of, flagged}

-- an accepted header, and an actual height
pub record IsInUse (h : Fields) (height' : ℕ) : Type 0 where
  pub accepted : IsAccepted h
  pub from : 1 ≤ height'
  pub to : height' ≤ h.yd

-- The first twenty bytes determine whether they are a header, its fields, and otherwise its error.
pub record HeaderLaws : Type 0 where
  pub stands : (bytes more : List ℕ) (h : Fields) → HeaderOf bytes h → HeaderOf (bytes ++ more) h
  pub refusal_stands : (bytes more : List ℕ) → 20 ≤ length bytes → header_fault (bytes ++ more) ≡ header_fault bytes
  -- a header is not rejected
  pub not_refused : (bytes : List ℕ) (h : Fields) → HeaderOf bytes h → header_fault bytes ≡ None
  -- bytes are the header of at most one list of fields
  pub one : (bytes : List ℕ) (h other : Fields) → HeaderOf bytes h → HeaderOf bytes other → h ≡ other
  -- the twenty bytes written for fields are a header with these fields
  pub written : (h : Fields) → IsAccepted h → HeaderOf (header_bytes h) h

-- a body denotes at most one raster
abbrev pub OneRaster : Type 0
OneRaster =
    (h : Fields) (height' : ℕ) (body : List ℕ) (one other : Raster) → IsInUse h height' →
    DenotesAt h height' body one → DenotesAt h height' body other → other ≡ one

-- a body that has its parts denotes a raster
abbrev pub SomeRaster : Type 0
SomeRaster =
    (h : Fields) (height' : ℕ) (body : List ℕ) → IsInUse h height' → Parts h height' body →
    (raster : Raster) × DenotesAt h height' body raster

-- a stream denotes at most one raster
abbrev pub OneRasterOfStream : Type 0
OneRasterOfStream = (bytes : List ℕ) (one other : Raster) → Denotes bytes one → Denotes bytes other → other ≡ one

-- a body that has its parts has no error
abbrev pub WholeOrBroken : Type 0
WholeOrBroken =
    (h : Fields) (height' : ℕ) (body : List ℕ) (fault : Fault) → IsInUse h height' →
    Parts h height' body → BodyFault h height' body fault → ⊥

-- a body of bytes has its parts or an error
abbrev pub PartsOrFault : Type 0
PartsOrFault =
    (h : Fields) (height' : ℕ) (body : List ℕ) → IsBytes body →
    Parts h height' body ⊎ ((fault : Fault) × BodyFault h height' body fault)

-- a body with an error fixes rows: there is a longest list that is decided
abbrev pub SomeFixed : Type 0
SomeFixed =
    (h : Fields) (height' : ℕ) (body : List ℕ) (fault : Fault) → IsInUse h height' →
    BodyFault h height' body fault → (rows : List (List Bool)) × Fixes h height' body fault rows

-- a body fixes at most one error, and at most one list of rows
abbrev pub OneFixed : Type 0
OneFixed =
    (h : Fields) (height' : ℕ) (body : List ℕ) (fault other : Fault) (rows others : List (List Bool)) → IsInUse h height' →
    Fixes h height' body fault rows → Fixes h height' body other others → (fault ≡ other) × (rows ≡ others)

-- Rows that are decided at a height are the first rows of each raster that a continuation denotes at this height.
abbrev pub DecidedStays : Type 0
DecidedStays =
    (h : Fields) (height' : ℕ) (stripes : List Stripe) (segments : List Segment) (code more : List ℕ) (reset : Bool) (later : List Stripe)
    (flags : List Bool) (rows : List (List Bool)) (body : List ℕ) (raster : Raster) → IsInUse h height' → IsBytes code → IsBytes more →
    AreDecided h height' (begun_stripes stripes segments code) (length stripes) code (flagged rows flags) →
    (denotes : DenotesAt h height' body raster) →
    denotes.parts.stripes ≡ stripes ++ record { segments = segments; code = code ++ more; reset = reset } ∷ later →
    take (length rows) raster.rows ≡ rows

-- a body has an outcome, and no other
pub record HasOutcome (h : Fields) (height' : ℕ) (body : List ℕ) : Type 0 where
  pub fault : Option Fault
  pub text : List ℕ
  pub is : IsOutcome h height' body fault text
  pub only : (other : Option Fault) (other_text : List ℕ) → IsOutcome h height' body other other_text → (other ≡ fault) × (other_text ≡ text)

-- For each body of bytes there is one result and one text: its raster's, or an error and the rows that are fixed.
abbrev pub OneOutcome : Type 0
OneOutcome = (h : Fields) (height' : ℕ) (body : List ℕ) → IsInUse h height' → IsBytes body → HasOutcome h height' body

-- the stream of a raster denotes the raster
abbrev pub CodeDenotes : Type 0
CodeDenotes =
    (s : Settings) (raster : Raster) → AreSettings s → IsRaster raster → IsAnnounced s (height raster) →
    Denotes (jbg s raster) raster

-- If the caller chooses no offset, there is no move before the first stripe, and the rule chooses every other offset.
abbrev pub RuleChooses : Type 0
RuleChooses =
    (s : Settings) (c : Coding) → s.named ≡ [] →
    (move_before s c 0 ≡ None) ×
    ((i current : ℕ) → choice_after s c i current ≡ chosen_offset c.mode.two_line s.most_offset c.raster.width (map (lines_of c) (rows_of c i)) current)

-- An offset that the caller chose is that of its stripe, whatever it was before: the stripe moves to it, or it is the current
-- one.
abbrev pub NameIsTaken : Type 0
NameIsTaken =
    (s : Settings) (c : Coding) (t : ℕ) →
    (named_for s 0 ≡ Some t → unwrap_or (first_choice s) 0 ≡ t) ×
    ((i current : ℕ) → named_for s (suc i) ≡ Some t → unwrap_or (choice_after s c i current) current ≡ t)

-- a body has at most one height
abbrev pub OneHeight : Type 0
OneHeight =
    (h : Fields) (body : List ℕ) (one other : ℕ) → IsAccepted h → IsHeight h body one → IsHeight h body other → other ≡ one

-- a body of bytes has a height
abbrev pub SomeHeight : Type 0
SomeHeight = (h : Fields) (body : List ℕ) → IsAccepted h → IsBytes body → (height' : ℕ) × IsHeight h body height'

-- it is from 1 to the header's
abbrev pub HeightWithin : Type 0
HeightWithin = (h : Fields) (body : List ℕ) (height' : ℕ) → IsAccepted h → IsHeight h body height' → IsInUse h height'

-- The greatest length of the stream of an image of this size: a header, a comment and a new height, and for each stripe a move,
-- an end marker and the code, in which a pixel takes at most four bytes.
abbrev pub most_bytes : Settings → ℕ → ℕ → ℕ
most_bytes s width height' =
    34 + length (unwrap_or s.comment []) + 14 * stripe_count height' s.stripe_rows + 4 * (height' * (width + 1))

abbrev pub StreamIsShort : Type 0
StreamIsShort = (s : Settings) (raster : Raster) → IsRaster raster → length (jbg s raster) ≤ most_bytes s raster.width (height raster)
