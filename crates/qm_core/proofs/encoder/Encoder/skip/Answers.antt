use Rattle.std.proofs.Common.{◌≡◌, ◌-◌, ◌*◌, arith, refl, sym}
use Rattle.qm_core.specs.Place.{state_of}
use Rattle.qm_core.specs.Puts.{event_of}
use Rattle.qm_core.specs.Skipping.{upper_size}
use Rattle.qm_core.proofs.RunLowersSize.{is_run, after_run}
use Rattle.qm_core.proofs.EncoderPuts.{codes_lower}
use Rattle.qm_core.proofs.encoder.Encoder.skip.Goals as goal

pub returns-in-Some-clause-skipped : goal.returns-in-Some-clause-skipped
returns-in-Some-clause-skipped c p pushed s _ =
    let room = c.in-Some.ensures.some p _ s.digits.size refl in
    let l = c.in-Some.ensures.left _ refl in
    let q : c.args.self.now.span - 128 * (c.args.count * upper_size c.args.learned.now c.args.cx.number) ≡ c.in-Some.left = omega (arith, l) in (
      is_run _ _ _ room,
      rw (after_run (state_of p c.args.learned.now) (event_of c.args.cx c.args.pixel) c.args.count room)
          (rw q at (codes_lower (c.args.count * upper_size c.args.learned.now c.args.cx.number) refl s)),
    )

pub returns-in-Some-clause-exact : goal.returns-in-Some-clause-exact
returns-in-Some-clause-exact c p pushed _ s = sym (c.in-Some.ensures.some p _ s.digits.size refl)
