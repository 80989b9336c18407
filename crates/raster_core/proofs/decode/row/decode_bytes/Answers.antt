use Rattle.std.proofs.Common.{◌-◌, ◌*◌, ◌%◌, ◌^◌, ◌<◌, arith, sym, ◌∙◌, length-set}
use Rattle.raster_core.proofs.AnswersJoin.{had_not_stopped, not_both}
use Rattle.raster_core.proofs.BytesAreDecoded.{bytes_next, bytes_stop, bytes_all, wrap, whole}
use Rattle.raster_core.proofs.FilledBytesAreSkipped.{bytes_skipped, kept_along}
use Rattle.raster_core.proofs.decode.row.decode_bytes.Goals as goal

pub returns-in-Err-clause-leaves : goal.returns-in-Err-clause-leaves
returns-in-Err-clause-leaves g c =
    let inside : 8 * c.bytes.i < c.args.context.shape.width = omega arith in
    let same = c.skip_filled-words.ensures.skips.2 (omega arith) in
    let along = kept_along same c.skip_filled-words.ensures.kept c.bytes.invariant.along in (
      tt,
      bytes_stop 8 c.bytes.invariant.left inside (omega arith) c.within.ensures.begun c.within.ensures.done c.within.ensures.past along
          (rw (← c.byte_at-in-bytes.ensures.byte, ← c.byte_at.ensures.byte) c.in-Err.ensures.pixels.1.1),
    )

pub bytes-preserved-then-words-gt0 : goal.bytes-preserved-then-words-gt0
bytes-preserved-then-words-gt0 g c =
    let was = c.bytes.invariant in
    let skip = c.skip_filled-words.ensures in
    let some = c.if-words-gt0.true in
    record {
      lends = was.lends;
      same = was.same;
      fewer = was.fewer;
      going = skip.skips.0 ∙ was.going;
      stuck = λ t. absurd (not_both t (sym was.going ∙ skip.skips.1 some));
      left = omega (arith, was.left, skip.inside);
      second_fits = was.second_fits;
      above_fits = was.above_fits;
      along = bytes_skipped (8 * c.skip_filled-words.result) c.requires.template.0 was.left (omega (arith, skip.inside)) (omega (arith, some))
          (record { second_is = skip.second some; above_is = skip.above some; past_is = skip.before some c.args.context.offset c.requires.template.2 })
          (record { filled = skip.filled; kept = skip.kept }) (skip.skips.1 some) skip.skipped was.along;
    }

pub bytes-preserved : goal.bytes-preserved
bytes-preserved g c =
    let inside : 8 * c.bytes.i < c.args.context.shape.width = omega arith in
    let same = c.skip_filled-words.ensures.skips.2 (omega arith) in
    let along = kept_along same c.skip_filled-words.ensures.kept c.bytes.invariant.along in
    let going = had_not_stopped (λ t. (c.in-Ok.ensures.reads.0.0 t).0) in
    let was = sym c.bytes.invariant.going ∙ (sym c.skip_filled-words.ensures.skips.0 ∙ going) in
    let lent = c.in-Ok.ensures.reads.1 in
    let was_lent = c.bytes.invariant.lends in
    record {
      lends = (lent.0 ∙ was_lent.0, lent.1 ∙ was_lent.1, lent.2 ∙ was_lent.2);
      same = c.in-Ok.ensures.reads.0.2 ∙ c.bytes.invariant.same;
      fewer = omega (arith, c.in-Ok.ensures.reads.0.4, c.bytes.invariant.fewer);
      going = had_not_stopped c.in-Ok.ensures.reads.0.1.0 ∙ sym was;
      stuck = λ t. absurd (not_both t was);
      left = omega arith;
      second_fits = omega arith;
      above_fits = omega arith;
      along = rw (c.byte_at.ensures.byte, c.byte_at-in-bytes.ensures.byte)
          (bytes_next c.bytes.invariant.left inside (omega arith) (omega arith) (whole c.in-Ok.past) along
          (rw (← c.byte_at-in-bytes.ensures.byte, ← c.byte_at.ensures.byte) c.in-Ok.ensures.pixels.0));
    }

pub returns-then-left-eq0-clause-leaves : goal.returns-then-left-eq0-clause-leaves
returns-then-left-eq0-clause-leaves g c =
    let long = c.bytes.auto.current ∙ c.requires.part.1 in (
      bytes_all c.bytes.invariant.left long (omega (arith, long, c.bytes.invariant.left, c.if-left-eq0.true)) c.bytes.invariant.along,
      tt,
    )

pub returns-in-Err-decode_byte-clause-leaves : goal.returns-in-Err-decode_byte-clause-leaves
returns-in-Err-decode_byte-clause-leaves g c =
    let inside : 8 * c.bytes.i < c.args.context.shape.width = omega arith in (
      tt,
      bytes_stop c.bytes.left c.bytes.invariant.left inside
          (omega arith) c.within-in-Err-decode_byte.ensures.begun c.within-in-Err-decode_byte.ensures.done c.within-in-Err-decode_byte.ensures.past c.bytes.invariant.along
          (rw (← c.byte_at-3.ensures.byte, ← c.byte_at-2.ensures.byte) c.in-Err-decode_byte.ensures.pixels.1.1),
    )

pub returns-clause-leaves : goal.returns-clause-leaves
returns-clause-leaves g c =
    let inside : 8 * c.bytes.i < c.args.context.shape.width = omega arith in
    let wide = c.bytes.auto.current ∙ c.requires.part.1 in
    let byte = c.in-Ok-decode_byte.last % 256 * 2 ^ (8 - c.bytes.left) % 4294967296 % 256 in
    let long = length-set c.bytes.current c.bytes.i byte ∙ wide in (
      bytes_all (omega arith) long (omega (arith, long, c.bytes.invariant.left, c.bytes-test.false))
          (bytes_next c.bytes.invariant.left inside (omega arith) (omega arith) (wrap (c.in-Ok-decode_byte.last % 256 * 2 ^ (8 - c.bytes.left))) c.bytes.invariant.along
          (rw (← c.byte_at-3.ensures.byte, ← c.byte_at-2.ensures.byte) c.in-Ok-decode_byte.ensures.pixels.0)),
      tt,
    )
