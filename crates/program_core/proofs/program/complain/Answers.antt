use Rattle.program_core.proofs.program.complain.Goals as goal

pub returns : goal.returns
returns c = c.from.ensures
