use Rattle.std.proofs.Common.{refl}
use Rattle.program_core.proofs.line_fault.LineFault.status.Goals as goal

pub returns-in-Usage : goal.returns-in-Usage
returns-in-Usage c = rw c.in-Usage.is refl
