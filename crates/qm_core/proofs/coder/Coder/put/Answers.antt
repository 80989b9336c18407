use Rattle.std.proofs.Common.{refl}
use Rattle.qm_core.proofs.CallsPutEvents.{puts_one}
use Rattle.qm_core.proofs.coder.Coder.put.Goals as goal

pub returns : goal.returns
returns g c =
    puts_one (record { learned_is = refl; encoder_is = refl; out_is = refl })
    (record { fails = c.put.ensures.fails; unlearned = c.put.ensures.unlearned; events = c.put.ensures.events; put = c.put.ensures.put })
