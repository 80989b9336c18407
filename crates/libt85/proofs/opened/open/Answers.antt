use Rattle.std.proofs.Common.{subst}
use Rattle.t85_core.specs.Options.{fields_of}
use Rattle.t85_core.specs.Height.{IsHeight}
use Rattle.libt85.proofs.opened.open.Goals as goal

pub returns-clause-height : goal.returns-clause-height
returns-clause-height c = subst (λ body. IsHeight (fields_of c.in_ok-header.header) body c.in_ok-height.height) c.split_at.ensures.back c.in_ok-height.ensures.found
