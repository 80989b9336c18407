use Rattle.std.proofs.Common.{◌≤◌, ◌+◌, ◌-◌, length-take, drop, refl, arith}
use Rattle.t85_core.proofs.BytesJoin.OutputHoldsBytes.{keeps_counted, keeps_handed, grows_with}
use Rattle.t85_core.proofs.output_buffer.OutputBuffer.write_held.Goals as goal

pub returns-in-Ok-clause-text : goal.returns-in-Ok-clause-text
returns-in-Ok-clause-text g c = keeps_handed _ _ _ c.in-Ok.ensures.whole

pub returns-in-Ok-clause-writes : goal.returns-in-Ok-clause-writes
returns-in-Ok-clause-writes g c =
    let wrote = c.in-Ok.ensures in
    (wrote.failures, grows_with _ _ _ wrote.whole, rw (wrote.flushes, wrote.target) refl)

pub returns-in-Err-clause-text : goal.returns-in-Err-clause-text
returns-in-Err-clause-text g c =
    let old = c.args.self.now in
    let fits : old.at + c.in-Err.count ≤ old.end = omega (arith, old.ordered, c.in-Err.ensures.within, length-take (old.end - old.at) (drop old.at old.bytes)) in
    keeps_counted _ _ old.bytes old.at c.in-Err.count fits c.in-Err.ensures.front

pub returns-in-Err-clause-writes : goal.returns-in-Err-clause-writes
returns-in-Err-clause-writes g c =
    let wrote = c.in-Err.ensures in
    (wrote.failures, grows_with _ _ _ wrote.front, rw (wrote.flushes, wrote.target) refl)
