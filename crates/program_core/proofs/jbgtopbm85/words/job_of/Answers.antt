use Rattle.program_core.proofs.jbgtopbm85.words.job_of.Goals as goal

pub returns : goal.returns
returns c = record { info = c.flag-info.ensures; max_rows = c.number-max_rows.ensures; input = c.in_ok-input.ensures; output = c.in_ok-output.ensures }
