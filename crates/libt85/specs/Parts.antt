-- The result and the effect of `t85_next_part`.
use Rattle.std.specs.Prelude.{ℕ, ◌≡◌, ◌≢◌, ◌⊎◌, ◌==◌, not, List}
use Rattle.t85_core.specs.declared.parts.Found.{Found}
use Rattle.t85_core.specs.declared.parts.Found.TheVariants as found
use Rattle.t85_core.specs.declared.parts.PartKind.{PartKind}
use Rattle.t85_core.specs.declared.parts.PartKind.TheVariants as kind
use Rattle.t85_core.specs.declared.parts.PartWalk.{PartWalk}
use Rattle.t85_core.specs.Fault.{fault_number}
use Rattle.t85_core.specs.Parts.{Passed, IsBehind, TellsNext, TellsOfAny}
use Rattle.libt85.specs.declared.parts.T85Part.{T85Part}

-- the parser state in a struct
abbrev pub walk_in : T85Part → PartWalk
walk_in p = record { offset = p.passed; entities = p.entities; late_height = p.late_height; moved = not (p.has_move == 0); at_height = not (p.is_at_height == 0) }

abbrev pub kind_number : PartKind → ℕ
kind_number kind.Header = 0
kind_number kind.Comment = 1
kind_number kind.Move = 2
kind_number kind.NewHeight = 3
kind_number kind.DataEntity = 4

-- The meaning of a struct and a status: all about a part; at the end the length of the stream; for a broken part its error and
-- its place.
abbrev pub IsTold : Found → T85Part → ℕ → Type 0
IsTold (found.Part part) p answer = (answer ≡ 0) × (p.kind ≡ kind_number part.kind) × (p.offset ≡ part.offset) × (p.len ≡ part.len) × (p.stripe ≡ part.stripe)
IsTold (found.End len) p answer = (answer ≡ 52) × (p.offset ≡ len)
IsTold (found.Broken fault offset stripe) p answer = (answer ≡ fault_number fault) × (p.offset ≡ offset) × (p.stripe ≡ stripe)

-- The next part was reported, or that there is none. The report is true for a parser state of this stream; with any other
-- numbers the call is safe.
pub record WalksOn (stream : List ℕ) (old new : T85Part) (answer : ℕ) : Type 0 where
  pub version_is : old.version ≡ 1
  pub same_version : new.version ≡ old.version
  pub what : Found
  pub told : IsTold what new answer
  pub true_of : (from : Passed) → IsBehind stream (walk_in old) from → TellsNext stream (walk_in old) (walk_in new) from what
  pub of_any : TellsOfAny stream (walk_in old) (walk_in new) what

-- The struct is of another version, and is unchanged.
pub record IsOfAnother (old new : T85Part) (answer : ℕ) : Type 0 where
  pub other : old.version ≢ 1
  pub answer_is : answer ≡ 50
  pub kept : new ≡ old

-- the effect of `t85_next_part`
abbrev pub PartTold : List ℕ → T85Part → T85Part → ℕ → Type 0
PartTold stream old new answer = WalksOn stream old new answer ⊎ IsOfAnother old new answer
