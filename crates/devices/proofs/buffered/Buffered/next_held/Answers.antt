use Rattle.std.proofs.Common.{◌≤◌, ◌<◌, refl, length, arith}
use Rattle.devices.proofs.DeviceHoldsBytes.{first_held, length_between, some_taken}
use Rattle.devices.proofs.buffered.Buffered.next_held.Goals as goal

pub returns-clause-given : goal.returns-clause-given
returns-clause-given g c =
    let s = c.args.self.now in
    let some : s.at < s.end = omega (arith, c.if-self.false) in
    let within : s.end ≤ length s.bytes = omega (arith, s.within) in
    record {
      some = (
        record {
          within = omega (arith, length_between s.bytes s.at s.end within, some);
          taken = some_taken s.bytes s.at 1 s.end _ (omega (arith, some));
          left = omega (arith, some);
          failures = refl;
          same_source = refl;
        },
        first_held s.bytes s.at s.end some within,
      );
      none = λ none. absurd (let bot : ⊥ = cc in bot);
    }
