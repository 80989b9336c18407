-- The error and the rows that a broken stream fixes.
use Rattle.std.specs.Prelude.{ℕ, ◌+◌, ◌*◌, ◌≡◌, ◌≤◌, min, Bool, false, List, [], ◌∷◌, ◌++◌, length, map}
use Rattle.std.specs.List.{AllByRecursion}
use Rattle.raster_core.specs.Enough.{AreEnough}
use Rattle.t85_core.specs.declared.fault.Fault.{Fault}
use Rattle.t85_core.specs.Header.{Fields}
use Rattle.t85_core.specs.Grammar.{Segment, Stripe}
use Rattle.t85_core.specs.Refusal.{BodyFault}
use Rattle.t85_core.specs.Coding.{Coding, FlaggedRows, flagged, HasLegalFlags, events_of, learned_at, begun}
use Rattle.t85_core.specs.Denotes.{coding_in, EachLies}

-- `count` bytes determine each pixel of stripe i
abbrev pub AreEnoughFor : Coding → ℕ → ℕ → Type 0
AreEnoughFor c i count = AreEnough count (begun (learned_at c i)) (events_of c i)

-- the stripes with the broken one as the last, as far as it is known
abbrev pub begun_stripes : List Stripe → List Segment → List ℕ → List Stripe
begun_stripes stripes segments code = stripes ++ record { segments = segments; code = code; reset = false } ∷ []

-- These rows are decided: those of the whole stripes, and first rows of the broken one, which is stripe n and has this code.
pub record AreDecided (h : Fields) (height : ℕ) (stripes : List Stripe) (n : ℕ) (code : List ℕ) (coded : FlaggedRows) : Type 0 where
  pub wide : AllByRecursion (λ row. length row ≡ h.xd) coded.rows
  pub from : n * h.l0 ≤ length coded.rows
  pub to : length coded.rows ≤ min ((n + 1) * h.l0) height
  pub legal : HasLegalFlags (coding_in h stripes coded.flags coded.rows)
  pub lies : EachLies (coding_in h stripes coded.flags coded.rows) (map (λ s. s.code) stripes)
  pub enough : AreEnoughFor (coding_in h stripes coded.flags coded.rows) n (length code)

-- no list with one more row is decided, whatever the flags
abbrev pub IsLongest : Fields → ℕ → List Stripe → ℕ → List ℕ → List (List Bool) → Type 0
IsLongest h height stripes n code rows =
    (flags : List Bool) (row : List Bool) → AreDecided h height stripes n code (flagged (rows ++ row ∷ []) flags) → ⊥

-- After whole stripes, a stripe that begins with these segments and this code and then breaks fixes these rows: the longest
-- list that is decided.
pub record FixesRows (h : Fields) (height : ℕ) (stripes : List Stripe) (segments : List Segment) (code : List ℕ) (rows : List (List Bool)) : Type 0 where
  pub flags : List Bool
  pub decided : AreDecided h height (begun_stripes stripes segments code) (length stripes) code (flagged rows flags)
  pub longest : IsLongest h height (begun_stripes stripes segments code) (length stripes) code rows

-- A broken body fixes its error, and the rows that the bytes before the error fix.
pub record Fixes (h : Fields) (height : ℕ) (body : List ℕ) (fault : Fault) (rows : List (List Bool)) : Type 0 where
  pub broken : BodyFault h height body fault
  pub fixed : FixesRows h height broken.stripes broken.tail_has.segments broken.tail_has.code rows
