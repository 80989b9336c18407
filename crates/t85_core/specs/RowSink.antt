-- Bytes that are read ahead or held back, and the code bytes that a buffer accepts.
use Rattle.std.specs.Prelude.{ℕ, zero, suc, ◌++◌, ◌-◌, List, length, take, drop, Option, Some, None, Result, OnOk, OnErr, IfErr, ◌≡◌, ◌≤◌, []}
use Rattle.std.specs.Io.KnownBytes.{Appends}
use Rattle.devices.specs.Device.{AppendsBeginning}
use Rattle.t85_core.specs.declared.fault.Fault.{Fault}
use Rattle.t85_core.specs.declared.fault.Fault.TheVariants.{Write}
use Rattle.t85_core.specs.Failures.{CountsWrite}

-- the buffered bytes: those of an array from one index up to another
abbrev pub held_of : List ℕ → ℕ → ℕ → List ℕ
held_of bytes at end = take (end - at) (drop at bytes)

-- a writer: its identity, the caller's memory if there is one, and its count of flushes
pub record Writer : Type 0 where
  pub reference : ℕ
  pub target : ℕ
  pub flushes : ℕ

-- A target: the bytes that it has accepted, if they are known, and those of them that it has buffered; the number that the
-- writer has accepted; the writer's count of failures; its identity.
pub record TargetView : Type 0 where
  pub text : Option (List ℕ)
  pub held : List ℕ
  pub written : ℕ
  pub failures : ℕ
  pub writer : Writer

-- the effect of a call on a target besides its text: the writer, which has accepted no less, and its count
pub record WritesOn {T : Type 0} (old new : TargetView) (result : Result T Fault) : Type 0 where
  pub counts : CountsWrite old.failures new.failures result
  pub grows : old.written ≤ new.written
  pub same_writer : new.writer ≡ old.writer

-- the bytes were accepted, or a prefix of them
pub record PutsBytes (bytes : List ℕ) (old new : TargetView) (result : Result (Unit {0}) Fault) : Type 0 where
  pub ok : OnOk result (Appends old.text new.text bytes)
  pub err : IfErr result (λ f. f ≡ Write)
  pub cut : OnErr result (AppendsBeginning old.text new.text bytes)
  pub grows : old.written ≤ new.written
  pub counts : CountsWrite old.failures new.failures result
  pub same_writer : new.writer ≡ old.writer

-- the same bytes this many times
abbrev pub copies : ℕ → List ℕ → List ℕ
copies zero bytes = []
copies (suc count) bytes = bytes ++ copies count bytes

-- the number of known bytes
abbrev pub known_length : Option (List ℕ) → ℕ
known_length None = 0
known_length (Some bytes) = length bytes
