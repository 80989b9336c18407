-- The code of a stripe, byte by byte.
use Rattle.std.specs.Prelude.{ℕ, ◌≡◌, ◌<◌, ◌⊎◌, Bool, true, false, List, [], ◌∷◌, ◌++◌, Option, Some, None}
use Rattle.qm_core.specs.Code.{stuffed}
use Rattle.qm_core.specs.declared.source.Pulled.{Pulled}
use Rattle.qm_core.specs.declared.source.Pulled.TheVariants as pulled
use Rattle.t85_core.specs.declared.fault.Fault.{Fault}
use Rattle.t85_core.specs.declared.fault.Fault.TheVariants.{Truncated}
use Rattle.t85_core.specs.declared.segments.Code.{Code}
use Rattle.t85_core.specs.declared.segments.Code.TheVariants as code
use Rattle.t85_core.specs.Grammar.{marker_bytes}
use Rattle.t85_core.specs.Failures.{counted_as}
use Rattle.t85_core.specs.Private.Segments.{RestFault}

-- the fields of a code that a pull may change, and the remaining bytes: those that were read ahead, and then the piece's
pub record EntityView : Type 0 where
  pub left : List ℕ
  pub first : Option Code
  pub marker : Option Bool
  pub waits : Bool
  pub fault : Option Fault

-- No element of a code comes next in these bytes.
pub record CodeEnds (bytes : List ℕ) (fault : Fault) : Type 0 where
  pub rest : List ℕ
  pub unread : List ℕ
  pub bytes_are : bytes ≡ rest ++ unread
  pub broken : RestFault rest fault
  pub counted : counted_as Truncated fault ≡ fault
  pub at_end : fault ≡ Truncated → unread ≡ []

-- a code byte was returned
pub record GivesByte (s t : EntityView) (b : ℕ) : Type 0 where
  pub small : b < 256
  pub taken : s.left ≡ stuffed (b ∷ []) ++ t.left
  pub begun : t.first ≡ None
  pub marker : t.marker ≡ None
  pub fault : t.fault ≡ None

-- the end marker was read
pub record GivesEnd (s t : EntityView) : Type 0 where
  pub reset : Bool
  pub taken : s.left ≡ marker_bytes reset ++ t.left
  pub marker : t.marker ≡ Some reset
  pub fault : t.fault ≡ None
  pub behind : t.first ≡ None
  pub goes_on : s.waits ≡ false

-- the code broke, after its first byte
pub record GivesFault (s t : EntityView) : Type 0 where
  pub why : Fault
  pub fault : t.fault ≡ Some why
  pub begun : s.first ≡ None
  pub behind : t.first ≡ None
  pub marker : t.marker ≡ None
  pub stays : t.left ≡ s.left
  pub ends : CodeEnds s.left why

-- the end marker was read ahead, where the code waits
pub record StopsAtMarker (s t : EntityView) : Type 0 where
  pub reset : Bool
  pub ahead : t.first ≡ Some (code.Marker reset)
  pub begun : (s.first ≡ None) ⊎ (s.first ≡ Some (code.Marker reset))
  pub stays : t.left ≡ s.left
  pub marker : t.marker ≡ None
  pub fault : t.fault ≡ None
  pub waits : s.waits ≡ true

abbrev pub GivesSo : EntityView → Pulled → EntityView → Type 0
GivesSo s (pulled.Byte b) t = GivesByte s t b
GivesSo s pulled.End t = GivesEnd s t
GivesSo s pulled.Fault t = GivesFault s t ⊎ StopsAtMarker s t

-- The result of a pull if the code has neither ended nor broken before.
pub record EntityGives (s : EntityView) (answer : Pulled) (t : EntityView) : Type 0 where
  pub gives : s.marker ≡ None → s.fault ≡ None → GivesSo s answer t
  pub same_waits : t.waits ≡ s.waits
