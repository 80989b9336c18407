use Rattle.clap.specs.Words.{found_of}
use Rattle.program_core.proofs.GetterReadsNumber.{number_is}
use Rattle.program_core.proofs.matches.number.Goals as goal

pub returns : goal.returns
returns c = number_is (found_of c.args.matches.now) c.args.id.now _ c.get_one.ensures.none c.get_one.ensures.value
