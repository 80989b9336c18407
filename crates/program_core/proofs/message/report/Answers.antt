use Rattle.std.proofs.Common.{refl}
use Rattle.program_core.proofs.message.report.Goals as goal

pub returns-in-Ok-clause-reports : goal.returns-in-Ok-clause-reports
returns-in-Ok-clause-reports g c short = rw c.in-Ok.is refl

pub returns-in-Err-clause-reports : goal.returns-in-Err-clause-reports
returns-in-Err-clause-reports g c = rw c.in-Err.is c.write_line.ensures
