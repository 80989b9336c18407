-- The command of `jbgtopbm85` in terms of clap's contracts, the job for its arguments, and the effect of `run`.
use Rattle.std.specs.Prelude.{◌≡◌, ◌-◌, ◌^◌, ℕ, Bool, true, false, List, Result, Some, codes, option_map, string_bytes, unwrap_or}
use Rattle.t85_core.specs.Change.{Change}
use Rattle.t85_core.specs.Failures.{FlushesOnce}
use Rattle.clap.specs.Words.{App, Kinds, Row, fault_of, Rule, Text, first_of, matches_of, new_app, new_rule, with_rule}
use Rattle.clap.specs.declared.builder.ArgAction.TheVariants.{SetTrue}
use Rattle.t85_core.specs.declared.fault.Fault.{Fault}
use Rattle.t85_core.specs.Info.{Info}
use Rattle.t85_core.specs.ToPbm.{Delivery, SecondReading, ToPbm}
use Rattle.program_core.specs.Line.{flag_in}
use Rattle.program_core.specs.Message.{Reports}
use Rattle.program_core.specs.Run.{Written, delivered, exit_status}
use Rattle.program_core.specs.Options.{with_version, long_number_rule, number_in}
use Rattle.program_core.specs.declared.jbgtopbm85.work.Job.{Job}

-- `--info`
abbrev pub info_rule : Rule
info_rule = record (new_rule (codes "info")) { long = Some (codes "info"); action = Some SetTrue }

-- `--max-rows N`
abbrev pub max_rows_rule : Rule
max_rows_rule = long_number_rule (codes "max-rows") (codes "max-rows")

-- `jbgtopbm85 [options] [input [output]]`
abbrev pub decode_command : App
decode_command = with_version (with_rule (with_rule (with_rule (with_rule (new_app (codes "jbgtopbm85")) info_rule) max_rows_rule) (new_rule (codes "input"))) (new_rule (codes "output")))

-- the matches of the command that clap's walk over the arguments returns
unfoldable pub decode_matches : List Text → List Row
decode_matches words = matches_of decode_command words

-- the job with the values of these matches
pub record IsDecodeJobOf (rows : List Row) (job : Job) : Type 0 where
  pub info : job.info ≡ flag_in (codes "info") rows
  pub max_rows : job.max_rows ≡ number_in (codes "max-rows") rows
  pub input : option_map string_bytes job.input ≡ first_of (codes "input") rows
  pub output : option_map string_bytes job.output ≡ first_of (codes "output") rows

-- the kinds of refusal that clap's walk over the arguments returns, none if it accepts them
unfoldable pub decode_refusals : List Text → Kinds
decode_refusals words = fault_of decode_command words

-- the greatest number of rows of a job; without an option there is no limit, since no height exceeds this value
abbrev pub limit_of : Job → ℕ
limit_of job = unwrap_or job.max_rows (2 ^ 32 - 1)

-- The effect of the engine for a job, with or without `--info`, under this limit of the rows.
abbrev pub Does : Bool → ℕ → Change → SecondReading → Delivery → Result (Unit {0}) Fault → Type 0
Does true limit input again out outcome = Info input out.change out.flushed outcome × again.untouched
Does false limit input again out outcome = ToPbm limit input again out outcome

-- The effect of a run for a job, with this exit status: the engine's effect with some outcome on input and output, and a report
-- of that outcome.
pub record RunsDecoding (job : Job) (input : Change) (again : SecondReading) (output messages : Written) (status : ℕ) : Type 0 where
  pub outcome : Result (Unit {0}) Fault
  pub status_is : status ≡ exit_status outcome
  pub does : Does job.info (limit_of job) input again (delivered output) outcome
  pub flushes : FlushesOnce output.old.flushes output.new.flushes outcome
  pub same_target : output.new.target ≡ output.old.target
  pub reports : Reports (codes "jbgtopbm85") outcome messages.old messages.new
