use Rattle.std.proofs.Common.{sym, ◌∙◌}
use Rattle.clap.specs.Words.{found_of}
use Rattle.program_core.proofs.GetterReadsNumber.{is_there, number_is}
use Rattle.program_core.proofs.pbmtojbg85.words.number_or_default.Goals as goal

pub unwrap-requires : goal.unwrap-requires
unwrap-requires c =
    is_there _ _ (number_is (found_of c.args.matches.now) c.args.id.now _ c.get_one.ensures.none c.get_one.ensures.value) c.requires

pub returns : goal.returns
returns c = sym (number_is (found_of c.args.matches.now) c.args.id.now _ c.get_one.ensures.none c.get_one.ensures.value) ∙ c.unwrap.ensures
