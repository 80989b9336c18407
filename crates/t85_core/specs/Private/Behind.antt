-- The marker segments of a stripe that arrive in pieces: those before its code, and those behind an end marker, while a height may
-- still follow.
use Rattle.std.specs.Prelude.{ℕ, ◌≡◌, ◌≤◌, ◌<◌, true, false, List, ◌++◌, length, Option, Some, None}
use Rattle.t85_core.specs.declared.fault.Fault.{Fault}
use Rattle.t85_core.specs.declared.fault.Fault.TheVariants.{Truncated}
use Rattle.t85_core.specs.declared.pieces.head.Head.{Head}
use Rattle.t85_core.specs.declared.segments.Next.{Next}
use Rattle.t85_core.specs.declared.segments.Next.TheVariants as next
use Rattle.t85_core.specs.declared.segments.Place.{Place}
use Rattle.t85_core.specs.Header.{Fields}
use Rattle.t85_core.specs.Grammar.{NewLength, segment_bytes, IsLegal, is_valid_length}
use Rattle.t85_core.specs.Failures.{Ends, counted_as}
use Rattle.t85_core.specs.States.Segments.{IsByteOrMarker, code_bytes}
use Rattle.t85_core.specs.Private.Segments.{PieceFault}
use Rattle.t85_core.specs.States.Behind.{BehindPlace, move_came, BehindStands}

-- More bytes followed.
abbrev pub BehindOn : Fields → BehindPlace → Head → Head → List ℕ → List ℕ → Type 0
BehindOn h here b b' piece piece' = (back : List ℕ) → BehindStands h here b back → (given : List ℕ) × (piece ≡ given ++ piece') × BehindStands h here b' (back ++ given)

-- the next bytes are a valid height or the start of a code
abbrev pub ComesBehind : Fields → Place → Next → List ℕ → List ℕ → Type 0
ComesBehind h place (next.Height n) piece rest = (is_valid_length h place.entities n ≡ true) × IsLegal h (NewLength n) × (piece ≡ segment_bytes (NewLength n) ++ rest) × (place.given ≡ false)
ComesBehind h place (next.Code c) piece rest = IsByteOrMarker c × (piece ≡ code_bytes c ++ rest)

-- the rest of the piece is broken, or ends too early: before a segment, or in a comment
abbrev pub BreaksBehind : Fields → BehindPlace → Head → Option ℕ → List ℕ → Fault → Type 0
BreaksBehind h here b None piece fault = (unread : List ℕ) × Ends Truncated (Some piece) (Some unread) (PieceFault h here.place (move_came here.last b.at)) fault
BreaksBehind h here b (Some left) piece fault = (length piece < left) × (fault ≡ Truncated)

-- How a step behind an end marker stops: the few bytes that it leaves if more may follow, and why it cannot continue.
pub record StopsBehind (h : Fields) (here : BehindPlace) (b : Head) (piece : List ℕ) (fault : Fault) : Type 0 where
  pub counted : counted_as Truncated fault ≡ fault
  pub few : fault ≡ Truncated → length piece ≤ 7
  pub breaks : BreaksBehind h here b b.comment piece fault
