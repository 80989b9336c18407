use Rattle.std.proofs.Common.{refl}
use Rattle.t85_core.proofs.header.Header.bytes.Goals as goal

pub returns : goal.returns
returns c = rw (c.write_u32-3.ensures, c.write_u32-2.ensures, c.write_u32.ensures) refl
