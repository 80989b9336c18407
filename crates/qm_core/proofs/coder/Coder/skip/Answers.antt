use Rattle.std.proofs.Common.{refl}
use Rattle.qm_core.proofs.CallsPutEvents.{skips_run}
use Rattle.qm_core.proofs.coder.Coder.skip.Goals as goal

pub returns : goal.returns
returns g c =
    skips_run g.W.CodeSink (record { learned_is = refl; encoder_is = refl; out_is = refl })
    (record { learned = refl; out = refl; skips = c.skip.ensures.skips; run = c.skip.ensures.skipped; exact = c.skip.ensures.exact })
