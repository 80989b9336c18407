-- Bytes that are read ahead or held back, and the code bytes that a buffer accepts.
use Rattle.std.specs.Prelude.{ℕ, ◌<◌, ◌≢◌, List, Option, None, Result, OnOk, OnErr, IfOk, IfErr, IfSome, IsErrOf, ◌≡◌, ◌≤◌, [], ◌∷◌}
use Rattle.std.specs.List.{AllByRecursion}
use Rattle.std.specs.Io.KnownBytes.{Appends, Consumes, Keeps}
use Rattle.t85_core.specs.declared.fault.Fault.{Fault}
use Rattle.t85_core.specs.declared.fault.Fault.TheVariants.{Truncated, Read, Write}
use Rattle.t85_core.specs.Failures.{CountsRead, CountsWrite, Ends}
use Rattle.t85_core.specs.RowSink.{Writer, TargetView, WritesOn}

-- bytes other than FF
abbrev pub ArePlain : List ℕ → Type 0
ArePlain code = AllByRecursion (λ b. (b < 256) × (b ≢ 255)) code

-- A source: the remaining bytes, if they are known, and those of them that the reader has left; an upper bound on their number;
-- the reader's count of failures; its identity.
pub record SourceView : Type 0 where
  pub known : Option (List ℕ)
  pub beyond : Option (List ℕ)
  pub left : ℕ
  pub failures : ℕ
  pub source : ℕ

-- The known bytes that a reader has left, before and after a step.
pub record Reading : Type 0 where
  pub old : Option (List ℕ)
  pub new : Option (List ℕ)

abbrev pub reading : Option (List ℕ) → Option (List ℕ) → Reading
reading old new = record { old = old; new = new }

-- The effect of a call on a source besides the bytes that it consumes: the reader, its count, and after a failed read an empty
-- buffer.
pub record ReadsOn {T : Type 0} (old new : SourceView) (result : Result T Fault) : Type 0 where
  pub drained : IsErrOf result Read → new.known ≡ new.beyond
  pub counts : CountsRead old.failures new.failures result
  pub same_source : new.source ≡ old.source

-- the next byte, or none
pub record GivesNextByte (old new : SourceView) (result : Result ℕ Fault) : Type 0 where
  pub ok : IfOk result (λ b. Consumes old.known new.known (b ∷ []))
  pub err : IfErr result (Ends Truncated old.known new.known (λ given fault. (given ≡ []) × (fault ≡ Truncated)))
  pub drained : OnErr result (new.known ≡ new.beyond)
  pub counts : CountsRead old.failures new.failures result
  pub lowers : OnOk result (new.left < old.left)
  pub no_more : new.left ≤ old.left
  pub same_source : new.source ≡ old.source

-- the next byte, other than FF, or nothing changed
pub record GivesPlain {S : Type 0} (view : S → SourceView) (s s' : S) (result : Option ℕ) : Type 0 where
  pub some : IfSome result (λ b. (b ≢ 255) × Consumes (view s).known (view s').known (b ∷ []))
  pub lowers : IfSome result (λ b. (view s').left < (view s).left)
  pub none : result ≡ None → s' ≡ s
  pub unfailed : (view s').failures ≡ (view s).failures
  pub no_more : (view s').left ≤ (view s).left
  pub same_source : (view s').source ≡ (view s).source

-- bytes other than FF were skipped
pub record SkipsPlain (old new : SourceView) : Type 0 where
  pub passed : (code : List ℕ) × ArePlain code × Consumes old.known new.known code
  pub unfailed : new.failures ≡ old.failures
  pub no_more : new.left ≤ old.left
  pub same_source : new.source ≡ old.source

-- the same for a step that fails if and only if a write does
abbrev pub WritesOrFails : {T : Type 0} → TargetView → TargetView → Result T Fault → Type 0
WritesOrFails old new result = IfErr result (λ f. f ≡ Write) × WritesOn old new result

-- the byte was accepted, or left out
pub record Pushes (byte : ℕ) (old new : TargetView) (result : Result (Unit {0}) Fault) : Type 0 where
  pub ok : OnOk result (Appends old.text new.text (byte ∷ []))
  pub err : IfErr result (λ f. f ≡ Write)
  pub kept : OnErr result (Keeps old.text new.text)
  pub grows : old.written ≤ new.written
  pub counts : CountsWrite old.failures new.failures result
  pub same_writer : new.writer ≡ old.writer

-- the buffered bytes were written, or a write failed
pub record HandsOn (old new : TargetView) (result : Result (Unit {0}) Fault) : Type 0 where
  pub text : Keeps old.text new.text
  pub sent : OnOk result (new.held ≡ [])
  pub err : IfErr result (λ f. f ≡ Write)
  pub grows : old.written ≤ new.written
  pub counts : CountsWrite old.failures new.failures result
  pub same_writer : new.writer ≡ old.writer

-- for a target: its identity, its writer, the number of the writer's bytes, and the bytes that the target has accepted
pub record SinkView : Type 0 where
  pub target : ℕ
  pub writer : Writer
  pub written : ℕ
  pub text : Option (List ℕ)

-- it is the same target with the same writer, which has lost nothing and was not flushed
pub record SameSink (s t : SinkView) : Type 0 where
  pub same_buffer : t.target ≡ s.target
  pub same_writer : t.writer ≡ s.writer
  pub grows : s.written ≤ t.written

-- the byte was accepted
abbrev pub TakesByte : SinkView → ℕ → SinkView → Type 0
TakesByte s byte t = SameSink s t × Appends s.text t.text (byte ∷ [])

-- nothing was accepted
abbrev pub RefusesByte : SinkView → SinkView → Type 0
RefusesByte s t = SameSink s t × Keeps s.text t.text
