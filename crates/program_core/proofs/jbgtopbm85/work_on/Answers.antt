use Rattle.std.proofs.Common.{refl}
use Rattle.program_core.proofs.jbgtopbm85.work_on.Goals as goal

pub returns-then-job-clause-does : goal.returns-then-job-clause-does
returns-then-job-clause-does g c = rw c.if-job.true (c.info.ensures.outcome, refl)

pub returns-else-job-clause-does : goal.returns-else-job-clause-does
returns-else-job-clause-does g c = rw (c.if-job.false, ← c.unwrap_or-limit.ensures) c.to_pbm.ensures.outcome
