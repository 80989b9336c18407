use Rattle.qm_core.specs.Source.{Pulls}
use Rattle.qm_core.proofs.DecoderPulls.{Gives-append}
use Rattle.qm_core.proofs.laws.pulls_join.Goals as goal

pub returns : goal.returns
returns g c = Gives-append (Pulls g.S.CodeBytes.gives g.S.CodeBytes.failed)
