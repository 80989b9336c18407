use Rattle.std.proofs.Common.{refl}
use Rattle.t85_core.proofs.options.Options.new.Goals as goal

pub returns-clause-held : goal.returns-clause-held
returns-clause-held c = refl
