-- The effect of a command line that gives no job.
use Rattle.std.specs.Prelude.{◌≡◌, ℕ, List, Result, MatchResult, string_bytes}
use Rattle.devices.specs.Device.{WritesText}
use Rattle.devices.specs.declared.write.WriteFault.{WriteFault}
use Rattle.program_core.specs.Line.{status_of}
use Rattle.program_core.specs.Message.{TellsFault}
use Rattle.program_core.specs.Run.{Written}
use Rattle.program_core.specs.declared.line_fault.LineFault.{LineFault}
use Rattle.program_core.specs.declared.line_fault.LineFault.TheVariants as line_fault

-- The text of the help, or of the version, was written to the output, with status 0 and no message; or a write failed, which
-- was reported, with status 1.
pub record ShowsHelp (program text : List ℕ) (output messages : Written) (status : ℕ) : Type 0 where
  pub outcome : Result (Unit {0}) WriteFault
  pub writes : WritesText text output.old output.new outcome
  pub ends : MatchResult outcome (λ _. (status ≡ 0) × (messages.new ≡ messages.old))
      (λ _. (status ≡ 1) × TellsFault program messages.old messages.new)

-- The text about a mistake was written to the messages, or a prefix of it if a write failed, and nothing to the output.
pub record ShowsUsage (text : List ℕ) (output messages : Written) (status : ℕ) : Type 0 where
  pub outcome : Result (Unit {0}) WriteFault
  pub writes : WritesText text messages.old messages.new outcome
  pub silent : output.new ≡ output.old
  pub status_is : status ≡ 2

-- An error was reported, and nothing was written to the output.
pub record ReportsFault (program : List ℕ) (fault : LineFault) (output messages : Written) (status : ℕ) : Type 0 where
  pub tells : TellsFault program messages.old messages.new
  pub silent : output.new ≡ output.old
  pub status_is : status ≡ status_of fault

-- the effect of arguments that give no job, for this reason and with this exit status
abbrev pub RefusesArguments : List ℕ → LineFault → Written → Written → ℕ → Type 0
RefusesArguments program (line_fault.Help text) output messages status = ShowsHelp program (string_bytes text) output messages status
RefusesArguments program (line_fault.Usage text) output messages status = ShowsUsage (string_bytes text) output messages status
RefusesArguments program (line_fault.Fault f) output messages status = ReportsFault program (line_fault.Fault f) output messages status
