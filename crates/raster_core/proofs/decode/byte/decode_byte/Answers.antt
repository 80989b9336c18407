use Rattle.std.proofs.Common.{◌≡◌, arith, refl, sym, ◌∙◌}
use Rattle.raster_core.proofs.PixelNumbersSplit.{begins, goes_on, grows}
use Rattle.raster_core.proofs.PixelsAreDecoded.{along_none, along_next, along_stop}
use Rattle.raster_core.proofs.AnswersJoin.{had_not_stopped, not_both}
use Rattle.raster_core.proofs.decode.byte.decode_byte.Goals as goal

pub loop-j-init : goal.loop-j-init
loop-j-init g c = record {
  lends = (refl, refl, refl);
  same = refl;
  fewer = omega arith;
  going = refl;
  stuck = λ _. (refl, refl, refl);
  second = begins _;
  above = begins _;
  second_small = let h = c.args.registers.second_fits in omega arith;
  above_small = let h = c.args.registers.above_fits in omega arith;
  along = along_none;
}

pub returns-in-Err-clause-pixels : goal.returns-in-Err-clause-pixels
returns-in-Err-clause-pixels g c = (tt, (c.loop-j-test.true, along_stop c.loop-j-test.true refl refl c.in-Err.ensures.next c.loop-j.invariant.along))

pub loop-j-preserved : goal.loop-j-preserved
loop-j-preserved g c =
    let stop = c.in-Ok.ensures.reads.0 in
    let lent = c.in-Ok.ensures.reads.1 in
    let was_lent = c.loop-j.invariant.lends in
    let going = had_not_stopped (λ t. (stop.0 t).0) in
    let was = sym c.loop-j.invariant.going ∙ going in
    record {
      lends = (lent.0 ∙ was_lent.0, lent.1 ∙ was_lent.1, lent.2 ∙ was_lent.2);
      same = stop.2 ∙ c.loop-j.invariant.same;
      fewer = omega (arith, stop.4, c.loop-j.invariant.fewer);
      going = had_not_stopped stop.1.0 ∙ sym was;
      stuck = λ t. absurd (not_both t was);
      second = goes_on _ _ _ c.loop-j.invariant.second;
      above = goes_on _ _ _ c.loop-j.invariant.above;
      second_small = grows _ _ _ c.loop-j.invariant.second_small;
      above_small = grows _ _ _ c.loop-j.invariant.above_small;
      along = along_next (omega arith) (c.past_and-past.ensures c.args.registers.offset c.requires.template.2)
          (λ lines x r. rw (← c.requires.template.1) (c.context_of-cx.ensures c.args.registers.shape.typical lines x (rw (c.loop-j.invariant.above, c.loop-j.invariant.second) r)))
          c.in-Ok.ensures.next c.loop-j.invariant.along;
    }

pub returns-clause-pixels : goal.returns-clause-pixels
returns-clause-pixels g c =
    let e : c.loop-j.j ≡ c.args.n = omega arith in
    (rw (← e) c.loop-j.invariant.along, tt)
