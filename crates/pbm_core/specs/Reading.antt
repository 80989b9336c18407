-- The effect on an input of a call that reads a value.
use Rattle.std.specs.Prelude.{ℕ, ◌≡◌, ◌+◌, List, length, Result, Err, IfOk, IfErr}
use Rattle.std.specs.Io.KnownBytes.{Consumes, IsAtEnd}
use Rattle.pbm_core.specs.declared.fault.PbmFault.{PbmFault}
use Rattle.pbm_core.specs.declared.fault.PbmFault.TheVariants.{Truncated, Read}
use Rattle.devices.specs.Device.{InputView, SameInput, one_more}

-- The count increases if and only if the error is a failed read.
abbrev pub CountsPbmRead : {T : Type 0} → ℕ → ℕ → Result T PbmFault → Type 0
CountsPbmRead old new (Err Read) = new ≡ one_more old
CountsPbmRead old new _ = new ≡ old

-- the error of the consumed bytes: after a failed read, they are truncated
abbrev pub fault_of_given : PbmFault → PbmFault
fault_of_given Read = Truncated
fault_of_given fault = fault

-- The call consumed exactly these bytes. They are the value, or end where the error shows. Truncated is returned only at the
-- end of the input, and a failed read only if no byte is buffered.
pub record Reads {T : Type 0} (old new : InputView) (result : Result T PbmFault) (IsValue : List ℕ → T → Type 0) (HasFault : List ℕ → PbmFault → Type 0) : Type 0 where
  pub given : List ℕ
  pub taken : Consumes old.remaining new.remaining given
  pub left : new.left + length given ≡ old.left
  pub value : IfOk result (IsValue given)
  pub fault : IfErr result (λ f. HasFault given (fault_of_given f))
  pub at_end : IfErr result (λ f. f ≡ Truncated → IsAtEnd new.remaining)
  pub failures : CountsPbmRead old.failures new.failures result
  pub same_input : SameInput old new
