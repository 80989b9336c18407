-- The command of `pbmtojbg85`, the job for its arguments, and the engine's options for the job.
use Rattle.std.specs.Prelude.{◌≡◌, ◌⊎◌, ℕ, List, [], ◌∷◌, Some, Result, is_some, true, codes, option_map, string_bytes}
use Rattle.clap.specs.Words.{App, Kinds, Row, fault_of, Text, first_of, matches_of, new_app, new_rule, with_rule}
use Rattle.t85_core.specs.Change.{Change}
use Rattle.t85_core.specs.Failures.{FlushesOnce}
use Rattle.t85_core.specs.Jbg.{Settings}
use Rattle.t85_core.specs.Options.{refusal_of}
use Rattle.t85_core.specs.ToJbg.{ToJbgAhead}
use Rattle.t85_core.specs.declared.fault.Fault.{Fault}
use Rattle.t85_core.specs.declared.fault.Fault.TheVariants as fault
use Rattle.program_core.specs.Line.{flag_in, IsRefusal}
use Rattle.program_core.specs.Message.{Reports}
use Rattle.program_core.specs.Run.{Written, delivered, exit_status}
use Rattle.program_core.specs.declared.line_fault.LineFault.{LineFault}
use Rattle.program_core.specs.declared.line_fault.LineFault.TheVariants as line_fault
use Rattle.program_core.specs.Options.{with_version, number_rule, text_rule, flag_rule, number_in}
use Rattle.program_core.specs.declared.pbmtojbg85.work.Job.{Job}

-- the options with a number
abbrev pub encode_numbers : App
encode_numbers = with_rule (with_rule (with_rule (with_rule
    (new_app (codes "pbmtojbg85"))
    (number_rule (codes "options") 112 (codes "8" ∷ [])))
    (number_rule (codes "stripe") 115 (codes "128" ∷ [])))
    (number_rule (codes "move") 109 (codes "0" ∷ [])))
    (number_rule (codes "announced") 89 [])

-- `pbmtojbg85 [options] [input [output]]`
abbrev pub encode_command : App
encode_command = with_version (with_rule (with_rule (with_rule (with_rule encode_numbers
    (text_rule (codes "comment") 67))
    (flag_rule (codes "reset") 114))
    (new_rule (codes "input")))
    (new_rule (codes "output")))

-- the matches of the command that clap's walk over the arguments returns
unfoldable pub encode_matches : List Text → List Row
encode_matches words = matches_of encode_command words

-- the kinds of refusal that clap's walk over the arguments returns, none if it accepts them
unfoldable pub encode_refusals : List Text → Kinds
encode_refusals words = fault_of encode_command words

-- the job with the values of these matches
pub record IsEncodeJobOf (rows : List Row) (job : Job) : Type 0 where
  pub p : number_in (codes "options") rows ≡ Some job.p
  pub s : number_in (codes "stripe") rows ≡ Some job.s
  pub m : number_in (codes "move") rows ≡ Some job.m
  pub announced : job.announced ≡ number_in (codes "announced") rows
  pub reset : job.reset ≡ flag_in (codes "reset") rows
  pub comment : option_map string_bytes job.comment ≡ first_of (codes "comment") rows
  pub input : option_map string_bytes job.input ≡ first_of (codes "input") rows
  pub output : option_map string_bytes job.output ≡ first_of (codes "output") rows

-- the values of these matches are rejected as options with error f
pub record RefusesOptions (rows : List Row) (f : Fault) : Type 0 where
  pub p : ℕ
  pub s : ℕ
  pub m : ℕ
  pub has_p : number_in (codes "options") rows ≡ Some p
  pub has_s : number_in (codes "stripe") rows ≡ Some s
  pub has_m : number_in (codes "move") rows ≡ Some m
  pub refused : refusal_of p s m (first_of (codes "comment") rows) ≡ Some f

-- lack of memory, or values that are rejected as options
abbrev pub IsOptionFault : List Row → LineFault → Type 0
IsOptionFault rows (line_fault.Help text) = ⊥
IsOptionFault rows (line_fault.Usage text) = ⊥
IsOptionFault rows (line_fault.Fault f) = (f ≡ fault.OutOfMemory) ⊎ RefusesOptions rows f

-- the refusals of the arguments, or of the options in them
abbrev pub IsFaultOf : List Text → LineFault → Type 0
IsFaultOf words fault = IsRefusal (encode_refusals words) fault ⊎ IsOptionFault (encode_matches words) fault

-- each option with a default has a number
pub record HasDefaults (rows : List Row) : Type 0 where
  pub p : is_some (number_in (codes "options") rows) ≡ true
  pub s : is_some (number_in (codes "stripe") rows) ≡ true
  pub m : is_some (number_in (codes "move") rows) ≡ true

-- the options of a job
abbrev pub settings_asked : Job → Settings
settings_asked job = record {
  options = job.p;
  stripe_rows = job.s;
  most_offset = job.m;
  announced = job.announced;
  reset = job.reset;
  comment = option_map string_bytes job.comment;
  named = [];
}

-- The effect of a run for a job, with this exit status: the engine's effect with some outcome on input and output, and a report
-- of that outcome.
pub record RunsEncoding (job : Job) (input : Change) (output messages : Written) (status : ℕ) : Type 0 where
  pub outcome : Result (Unit {0}) Fault
  pub status_is : status ≡ exit_status outcome
  pub writes : ToJbgAhead (settings_asked job) input (delivered output).change (delivered output).flushed outcome
  pub flushes : FlushesOnce output.old.flushes output.new.flushes outcome
  pub same_target : output.new.target ≡ output.old.target
  pub reports : Reports (codes "pbmtojbg85") outcome messages.old messages.new
