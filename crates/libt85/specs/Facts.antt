-- The result and the effect of `t85_stream_facts`.
use Rattle.std.specs.Prelude.{ℕ, ◌≡◌, ◌≢◌, ◌⊎◌, List, [], ◌∷◌}
use Rattle.t85_core.specs.declared.fault.Fault.{Fault}
use Rattle.t85_core.specs.Fault.{fault_number}
use Rattle.t85_core.specs.Height.{StreamFault}
use Rattle.t85_core.specs.Info.{HasNumbers}
use Rattle.t85_core.specs.Parts.{Passed, EndsAt}
use Rattle.libt85.specs.declared.facts.T85Facts.{T85Facts}

-- in the order of the line of `--info`
abbrev pub numbers_of_facts : T85Facts → List ℕ
numbers_of_facts f = f.width ∷ f.height ∷ f.stripe_rows ∷ f.most_offset ∷ f.options ∷ f.image_height ∷ f.entities ∷ f.moves ∷ f.comments ∷ []

-- The stream has its parts; these are its numbers, and its own length behind all of its parts.
pub record HasFacts (stream : List ℕ) (f : T85Facts) : Type 0 where
  pub version_is : f.version ≡ 1
  pub numbers : HasNumbers stream (numbers_of_facts f)
  pub passed : Passed
  pub ends : EndsAt stream passed f.stream_len

-- They are reported.
pub record TellsFacts (stream : List ℕ) (old new : T85Facts) (answer : ℕ) : Type 0 where
  pub version_is : old.version ≡ 1
  pub answer_is : answer ≡ 0
  pub facts : HasFacts stream new

-- It has this error, and nothing is reported.
pub record KeepsFacts (stream : List ℕ) (old new : T85Facts) (answer : ℕ) : Type 0 where
  pub version_is : old.version ≡ 1
  pub fault : Fault
  pub has : StreamFault stream fault
  pub answer_is : answer ≡ fault_number fault
  pub kept : new ≡ old

-- The struct is of another version, and is unchanged.
pub record RefusesFacts (old new : T85Facts) (answer : ℕ) : Type 0 where
  pub other : old.version ≢ 1
  pub answer_is : answer ≡ 50
  pub kept : new ≡ old

-- the effect of `t85_stream_facts`
abbrev pub FactsTold : List ℕ → T85Facts → T85Facts → ℕ → Type 0
FactsTold stream old new answer = TellsFacts stream old new answer ⊎ KeepsFacts stream old new answer ⊎ RefusesFacts old new answer
