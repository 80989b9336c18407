use Rattle.std.proofs.Common.{◌≤◌, ◌++◌, ◌∙◌, replicate, refl, ap, subst, arith}
use Rattle.qm_core.specs.Machine.{Registers}
use Rattle.qm_core.specs.Source.{bytes_of, is_stopped}
use Rattle.qm_core.proofs.RunIsDecoded.{none_begun, run_goes_on, run_joins, run_decoded, not_next, none_stopped}
use Rattle.qm_core.proofs.decoder.Decoder.next_run.Goals as goal

pub pixels-init : goal.pixels-init
pixels-init c = record {
  few = c.next_undoubled-count.ensures.few;
  less = omega (arith, c.next_undoubled-count.ensures.bits);
  heard = c.next_undoubled-count.ensures.heard;
  stopped = λ yes. none_begun c.args.self.now _ (c.args.self.now.heard) c.next_undoubled-count.ensures.ready refl yes;
  none = λ z. (c.next_undoubled-count.ensures.none z, refl);
  goes = c.next_undoubled-count.ensures.goes;
}

pub returns-then-not-is_next-clause-stop : goal.returns-then-not-is_next-clause-stop
returns-then-not-is_next-clause-stop c = ap is_stopped (c.decodes_pixel-is_next.ensures.heard ∙ c.pixels.invariant.heard)

pub returns-then-not-is_next-clause-stopped : goal.returns-then-not-is_next-clause-stopped
returns-then-not-is_next-clause-stopped c = c.pixels.invariant.stopped

pub returns-then-not-is_next-clause-none : goal.returns-then-not-is_next-clause-none
returns-then-not-is_next-clause-none c = λ z.
    let stays = c.decodes_pixel-is_next.ensures.stays c.if-not-is_next.true in
    let was = c.pixels.invariant.none z in
    (stays.0 ∙ was.0, stays.1 ∙ was.1)

pub returns-then-not-is_next-clause-run : goal.returns-then-not-is_next-clause-run
returns-then-not-is_next-clause-run c = λ p answers stands.
    let stays = c.decodes_pixel-is_next.ensures.stays c.if-not-is_next.true in
    rw (stays.0, stays.1) (run_decoded stands (c.pixels.invariant.goes p (bytes_of answers ++ replicate stands.zeros 0) stands.registers) c.pixels.invariant.heard
    c.pixels.invariant.less)

pub returns-then-not-is_next-clause-exact : goal.returns-then-not-is_next-clause-exact
returns-then-not-is_next-clause-exact c = λ p answers stands few.
    let stays = c.decodes_pixel-is_next.ensures.stays c.if-not-is_next.true in
    rw (stays.1) (not_next stands (λ b r enough. c.decodes_pixel-is_next.ensures.other p b
    (subst (λ d. Registers d.code d.span d.bits p b) stays.0 r) c.if-not-is_next.true (subst (λ d. 16 ≤ d.bits) stays.0 enough)))

pub pixels-preserved : goal.pixels-preserved
pixels-preserved c =
    let is = c.if-not-is_next.false in
    let enough = c.decodes_pixel-is_next.ensures.ready is in
    let more = c.next_undoubled-count-in-pixels in
    record {
      few = (let few = more.ensures.few in omega (arith, few, c.pixels-test.true));
      less = omega (arith, more.ensures.bits, c.decodes_pixel-is_next.ensures.bits, c.pixels.invariant.less);
      heard = more.ensures.heard ∙ c.decodes_pixel-is_next.ensures.heard ∙ c.pixels.invariant.heard;
      stopped = λ yes. absurd (none_stopped c.pixels.self _ enough c.pixels.invariant.heard yes);
      none = λ z. absurd (omega (arith, z));
      goes = λ p b r.
          let g = c.pixels.invariant.goes p b r in
          let next = run_goes_on {d = c.args.self.now} {d' = c.pixels.self} {e = c.decodes_pixel-is_next.new.self} r g (record {
            enough = enough;
            registers = c.decodes_pixel-is_next.ensures.place _ b g.registers is;
            taught = c.decodes_pixel-is_next.ensures.learned _ g.registers.size is;
          }) in
          run_joins r next (more.ensures.goes _ b next.registers);
    }

pub returns-clause-stop : goal.returns-clause-stop
returns-clause-stop c = ap is_stopped c.pixels.invariant.heard

pub returns-clause-stopped : goal.returns-clause-stopped
returns-clause-stopped c = λ yes. let z = c.pixels.invariant.stopped yes in omega (arith, z, c.pixels-test.false)

pub returns-clause-none : goal.returns-clause-none
returns-clause-none c = λ z. c.pixels.invariant.none (omega (arith, z, c.pixels.invariant.few))

pub returns-clause-run : goal.returns-clause-run
returns-clause-run c = λ p answers stands.
    run_decoded stands (c.pixels.invariant.goes p (bytes_of answers ++ replicate stands.zeros 0) stands.registers) c.pixels.invariant.heard c.pixels.invariant.less
