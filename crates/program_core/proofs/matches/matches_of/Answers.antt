use Rattle.std.proofs.Common.{map}
use Rattle.clap.specs.Words.{app_of, fault_of, kind_of}
use Rattle.program_core.proofs.RefusalIsReported.{refusal_told}
use Rattle.program_core.proofs.matches.matches_of.Goals as goal

pub returns-in-Ok-clause-rows : goal.returns-in-Ok-clause-rows
returns-in-Ok-clause-rows g c simple = (c.in-Ok.ensures.matches simple).0

pub returns-in-Err-clause-fault : goal.returns-in-Err-clause-fault
returns-in-Err-clause-fault g c simple =
    refusal_told (fault_of (app_of c.args.command) (map g.S.AsStr.text c.args.words.now)) (kind_of c.in-Err.error) c.fault_of.result
    (c.in-Err.ensures.kinds simple) c.fault_of.ensures
