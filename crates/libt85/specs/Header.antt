-- The result and the effect of `t85_header`.
use Rattle.std.specs.Prelude.{ℕ, ◌≡◌, ◌⊎◌, List, Some}
use Rattle.t85_core.specs.declared.fault.Fault.{Fault}
use Rattle.t85_core.specs.Fault.{fault_number}
use Rattle.t85_core.specs.Header.{Fields, HeaderOf, header_fault}
use Rattle.libt85.specs.declared.header.T85Header.{T85Header}

abbrev pub fields_told : T85Header → Fields
fields_told h = record { xd = h.width; yd = h.height; l0 = h.stripe_rows; mx = h.most_offset; options = h.options }

-- The header is accepted, and its fields are reported.
pub record TellsHeader (stream : List ℕ) (new : T85Header) (answer : ℕ) : Type 0 where
  pub answer_is : answer ≡ 0
  pub header_of : HeaderOf stream (fields_told new)

-- It is rejected with this error, and nothing is reported.
pub record KeepsHeader (stream : List ℕ) (old new : T85Header) (answer : ℕ) : Type 0 where
  pub fault : Fault
  pub is : header_fault stream ≡ Some fault
  pub answer_is : answer ≡ fault_number fault
  pub kept : new ≡ old

-- the effect of `t85_header`
abbrev pub HeaderTold : List ℕ → T85Header → T85Header → ℕ → Type 0
HeaderTold stream old new answer = TellsHeader stream new answer ⊎ KeepsHeader stream old new answer
