use Rattle.std.proofs.Common.{ap, ℕ, ◌≡◌, ◌≤◌, ◌+◌, ◌-◌, length, refl, length-append, arith}
use Rattle.devices.specs.Buffered.{bytes_between}
use Rattle.devices.proofs.DeviceHoldsBytes.{filled, keeps_filled, all_held, length_between}
use Rattle.devices.proofs.buffered.Buffered.fill.Goals as goal

pub returns-in-Ok : goal.returns-in-Ok
returns-in-Ok g c =
    let s = c.args.self.now in
    let n = c.in-Ok.count in
    let now = c.read_behind.new.bytes in
    let moved = c.to_front.new.bytes in
    let more = c.in-Ok.ensures.ok.0 in
    let end : ℕ = (s.end - s.at) + n in
    let held = filled now more s.bytes moved s.at s.end n c.to_front.ensures.front c.in-Ok.ensures.ok.1 in
    let within : end ≤ length now = c.in-Ok.ensures.within in
    let before = length_between s.bytes s.at s.end (omega (arith, s.within)) in
    let after = length_between now 0 end within in
    let long : length more ≡ n = omega (arith, ap length held, length-append (bytes_between s.bytes s.at s.end) more, before, after) in
    record {
      bytes = keeps_filled _ _ _ more _ c.in-Ok.ensures.ok.2 held;
      held = (more, long, held);
      within = omega (arith, after, within, c.in-Ok.ensures.long, c.to_front.ensures.long);
      at_end = λ none room. all_held _ _ (c.in-Ok.ensures.end none (omega (arith, room, before, c.to_front.ensures.long)));
      left = omega (arith, c.in-Ok.ensures.left);
      held_left = omega (arith, after);
      failures = c.in-Ok.ensures.counts;
      same_source = refl;
    }
