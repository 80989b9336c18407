use Rattle.std.proofs.Common.{subst}
use Rattle.pbm_core.specs.HeaderPieces.{HasScannedTo}
use Rattle.pbm_core.proofs.header_reader.HeaderReader.step.Goals as goal

pub returns-in-Letters : goal.returns-in-Letters
returns-in-Letters c before is = c.read_first_space.ensures before (subst (λ p. HasScannedTo p c.args.self before) c.in-Letters.is is)
