use Rattle.std.proofs.Common.{refl}
use Rattle.program_core.proofs.pbmtojbg85.words.comment_bytes.Goals as goal

pub returns-in-None : goal.returns-in-None
returns-in-None c = rw c.in-None.is refl
