use Rattle.std.proofs.Common.{◌≤◌, ◌+◌, refl, arith}
use Rattle.devices.proofs.DeviceHoldsBytes.{some_taken, held_after, length_between}
use Rattle.devices.proofs.buffered.BufferedInput.pass.Goals as goal

pub returns-clause-passed : goal.returns-clause-passed
returns-clause-passed g c _ =
    let s = c.args.self.now in
    let fits : s.at + c.args.count ≤ s.end = omega (arith, c.if-count-self.false, s.ordered) in
    record {
      within = omega (arith, length_between s.bytes s.at s.end (omega arith));
      taken = some_taken s.bytes s.at c.args.count s.end _ fits;
      left = omega (arith, fits);
      failures = refl;
      same_source = refl;
    }

pub returns-clause-rest : goal.returns-clause-rest
returns-clause-rest g c _ =
    let s = c.args.self.now in
    held_after s.bytes s.at c.args.count s.end (omega (arith, c.if-count-self.false, s.ordered))
