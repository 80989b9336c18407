use Rattle.std.proofs.Common.{◌∙◌}
use Rattle.clap.specs.Words.{found_of}
use Rattle.program_core.proofs.GetterReadsFlag.{flag_of_rows, flag_read}
use Rattle.program_core.proofs.matches.flag.Goals as goal

pub returns : goal.returns
returns c =
    c.unwrap_or.ensures ∙ flag_read _ (λ t x g. g) _ _ c.get_one.ensures.none c.get_one.ensures.value
    ∙ flag_of_rows (found_of c.args.matches.now) c.args.id.now
