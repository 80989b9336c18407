-- The bytes that a call consumed before an error, and the changes of its devices' counts of failures and flushes.
use Rattle.std.specs.Prelude.{◌≡◌, ◌≢◌, ◌⊎◌, ℕ, List, Result, Ok, Err, Option, OnOk, OnErr, IfErr, IsErrOf}
use Rattle.std.specs.Io.KnownBytes.{Consumes, IsAtEnd}
use Rattle.devices.specs.Device.{OutputView, one_more}
use Rattle.pbm_core.specs.declared.fault.PbmFault.{PbmFault}
use Rattle.pbm_core.specs.declared.fault.PbmFault.TheVariants as pbm
use Rattle.t85_core.specs.declared.fault.Fault.{Fault}
use Rattle.t85_core.specs.declared.fault.Fault.TheVariants.{Read, Write, Pbm}

-- the count of failed reads after an error
abbrev pub reads_after : Fault → ℕ → ℕ
reads_after Read count = one_more count
reads_after (Pbm pbm.Read) count = one_more count
reads_after _ count = count

-- the count of failed writes after an error
abbrev pub writes_after : Fault → ℕ → ℕ
writes_after Write count = one_more count
writes_after _ count = count

-- The input's count of failures increases by one, modulo 2^64, if and only if the result is Read.
abbrev pub CountsRead : {T : Type 0} → ℕ → ℕ → Result T Fault → Type 0
CountsRead old new (Ok x) = new ≡ old
CountsRead old new (Err f) = new ≡ reads_after f old

-- a read may also have failed before a failed write
abbrev pub CountsFault : ℕ → ℕ → Fault → Type 0
CountsFault old new Write = (new ≡ old) ⊎ (new ≡ one_more old)
CountsFault old new fault = new ≡ reads_after fault old

-- The input's count of failures increases by one, modulo 2^64, if the result is Read, and is unchanged for every other result
-- but Write.
abbrev pub CountsBoth : ℕ → ℕ → Result (Unit {0}) Fault → Type 0
CountsBoth old new (Ok u) = new ≡ old
CountsBoth old new (Err fault) = CountsFault old new fault

-- The output's count of failures increases by one, modulo 2^64, if and only if the result is Write.
abbrev pub CountsWrite : {T : Type 0} → ℕ → ℕ → Result T Fault → Type 0
CountsWrite old new (Ok x) = new ≡ old
CountsWrite old new (Err f) = new ≡ writes_after f old

-- The effect of a call on an output besides its bytes: nothing was flushed, the caller's memory is the same, and a failed write
-- is counted.
pub record OnlyWrites {T : Type 0} (old new : OutputView) (result : Result T Fault) : Type 0 where
  pub counts : CountsWrite old.failures new.failures result
  pub no_flush : new.flushes ≡ old.flushes
  pub same_target : new.target ≡ old.target

-- nothing was flushed, and the caller's memory is the same
abbrev pub SameOutput : OutputView → OutputView → Type 0
SameOutput old new = (new.flushes ≡ old.flushes) × (new.target ≡ old.target)

-- the error if rows of the image are missing
abbrev pub IfMissing : Result (Unit {0}) Fault → (PbmFault → Type 0) → Type 0
IfMissing answer Q = (fault : PbmFault) → IsErrOf answer (Pbm fault) → Q fault

-- An output is flushed once if everything else succeeded, and otherwise not: so a failed output was flushed only if the flush
-- itself failed.
pub record FlushesOnce (old new : ℕ) (answer : Result (Unit {0}) Fault) : Type 0 where
  pub once : OnOk answer (new ≡ one_more old)
  pub once_at_most : OnErr answer ((new ≡ old) ⊎ (new ≡ one_more old))
  pub not_after_a_fault : IfErr answer (λ f. f ≢ Write → new ≡ old)

-- and the caller's memory is the same
abbrev pub FlushesOutput : OutputView → OutputView → Result (Unit {0}) Fault → Type 0
FlushesOutput old new answer = FlushesOnce old.flushes new.flushes answer × (new.target ≡ old.target)

-- the error for the bytes read: a failed read counts as the end of the input
abbrev pub counted_as : Fault → Fault → Fault
counted_as ending Read = ending
counted_as ending fault = fault

-- A walk consumed exactly these bytes, and then returned an error: that of the bytes, where a failed read counts as the end, or
-- else the end itself was read.
pub record Ends (ending : Fault) (old new : Option (List ℕ)) (HasFault : List ℕ → Fault → Type 0) (fault : Fault) : Type 0 where
  pub given : List ℕ
  pub taken : Consumes old new given
  pub has_fault : HasFault given (counted_as ending fault)
  pub at_end : fault ≡ ending → IsAtEnd new
