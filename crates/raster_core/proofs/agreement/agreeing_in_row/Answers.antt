use Rattle.std.proofs.Common.{ℕ, sym, arith, refl}
use Rattle.raster_core.proofs.BytesMakeWords.{led_white}
use Rattle.raster_core.proofs.WordsAgree.{part_none, part_next, first_place, second_place, third_place}
use Rattle.raster_core.proofs.agreement.agreeing_in_row.Goals as goal

pub loop-k-init : goal.loop-k-init
loop-k-init c = record {
  second = λ line e. led_white line 0 (omega arith);
  before = λ line e. led_white line 1 (omega arith);
  agreeing = λ lines e f. sym (part_none lines c.args.width c.args.offset 0);
  room = omega arith;
}

pub loop-k-preserved : goal.loop-k-preserved
loop-k-preserved c =
    let k : ℕ = c.loop-k.k in
    record {
      second = c.loop-k.invariant.before;
      before = λ line e. rw (c.word_at-word.ensures line e, third_place k) refl;
      agreeing = λ lines e f.
          part_next lines c.args.width c.args.offset k
          (c.loop-k.invariant.agreeing lines e f) refl
          (c.agreeing_in_word-agreeing.ensures.agreed lines c.args.width f
          (c.loop-k.invariant.second lines.row e)
          (rw (c.loop-k.invariant.before lines.row e, first_place k) refl)
          (rw (c.word_at-word.ensures lines.row e, second_place k) refl)
          c.mask_at-mask.ensures);
      room = omega arith;
    }
