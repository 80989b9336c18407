use Rattle.std.proofs.Common.{refl}
use Rattle.t85_core.proofs.fault.Fault.number.Goals as goal

pub returns-in-Write : goal.returns-in-Write
returns-in-Write c = rw c.in-Write.is refl
