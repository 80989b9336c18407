-- The result and the effect of `t85_info`.
use Rattle.std.specs.Prelude.{ℕ, ◌≡◌, ◌⊎◌, List, [], ◌∷◌}
use Rattle.t85_core.specs.declared.fault.Fault.{Fault}
use Rattle.t85_core.specs.Fault.{fault_number}
use Rattle.t85_core.specs.Height.{StreamFault}
use Rattle.t85_core.specs.Info.{HasNumbers}
use Rattle.libt85.specs.declared.summary.T85Summary.{T85Summary}

-- in the order of the line of `--info`
abbrev pub numbers_told : T85Summary → List ℕ
numbers_told s = s.width ∷ s.height ∷ s.stripe_rows ∷ s.most_offset ∷ s.options ∷ s.image_height ∷ s.entities ∷ s.moves ∷ s.comments ∷ []

-- The stream has its parts, and its numbers are reported.
pub record TellsNumbers (stream : List ℕ) (new : T85Summary) (answer : ℕ) : Type 0 where
  pub answer_is : answer ≡ 0
  pub numbers : HasNumbers stream (numbers_told new)

-- It has this error, and nothing is reported.
pub record KeepsNumbers (stream : List ℕ) (old new : T85Summary) (answer : ℕ) : Type 0 where
  pub fault : Fault
  pub has : StreamFault stream fault
  pub answer_is : answer ≡ fault_number fault
  pub kept : new ≡ old

-- the effect of `t85_info`
abbrev pub InfoTold : List ℕ → T85Summary → T85Summary → ℕ → Type 0
InfoTold stream old new answer = TellsNumbers stream new answer ⊎ KeepsNumbers stream old new answer
