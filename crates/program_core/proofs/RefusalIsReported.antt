-- From the kind of clap's error to the result for it.
use Rattle.std.proofs.Common.{◌≡◌, ◌⊎◌, inl, inr, subst}
use Rattle.clap.specs.Words.{IsAmong, Kinds}
use Rattle.clap.specs.declared.error.ErrorKind.{ErrorKind}
use Rattle.clap.specs.declared.error.ErrorKind.TheVariants.{OutOfMemory}
use Rattle.program_core.specs.Line.{IsRefusal, Tells}
use Rattle.program_core.specs.declared.line_fault.LineFault.{LineFault}
use Rattle.program_core.specs.declared.line_fault.LineFault.TheVariants as line_fault

pub refusal_told : (kinds : Kinds) (k : ErrorKind) (fault : LineFault) → (k ≡ OutOfMemory) ⊎ IsAmong k kinds → Tells k fault → IsRefusal kinds fault
refusal_told kinds k (line_fault.Help text) (inl memory) (inl told) = absurd (let bot : ⊥ = cc in bot)
refusal_told kinds k (line_fault.Help text) (inl memory) (inr told) = absurd (let bot : ⊥ = cc in bot)
refusal_told kinds k (line_fault.Help text) (inr among) (inl told) = inl (subst (λ (x : ErrorKind). IsAmong x kinds) told among)
refusal_told kinds k (line_fault.Help text) (inr among) (inr told) = inr (subst (λ (x : ErrorKind). IsAmong x kinds) told among)
refusal_told kinds k (line_fault.Usage text) (inl memory) told = absurd (told.2 memory)
refusal_told kinds k (line_fault.Usage text) (inr among) told = (k, among, told.0, told.1)
refusal_told kinds k (line_fault.Fault f) among told = told
