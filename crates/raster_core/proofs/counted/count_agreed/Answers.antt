use Rattle.std.proofs.Common.{◌≡◌, ℕ, ◌+◌, ◌*◌, ◌≤◌, arith, refl}
use Rattle.raster_core.specs.Machine.Words.{led, is_within}
use Rattle.raster_core.proofs.BestIsFound.{zeros}
use Rattle.raster_core.proofs.BytesMakeWords.{led_white}
use Rattle.raster_core.proofs.WordsAgree.{row_part, part_none, part_next, first_place, second_place, third_place}
use Rattle.raster_core.proofs.counted.count_agreed.Goals as goal

pub loop-k-init : goal.loop-k-init
loop-k-init c = record {
  second = λ line e. led_white line 0 (omega arith);
  before = λ line e. led_white line 1 (omega arith);
  counts = λ lines e lag from to. let n = part_none lines c.args.width lag 0 in let z = zeros 128 lag in omega arith;
  room = λ lag. let z = zeros 128 lag in omega arith;
}

beside_alike : (new result old alike part : ℕ) → new + result ≡ old + part → new + (alike + result) ≡ (old + alike) + part
beside_alike new result old alike part e = omega arith

pub loop-k-preserved : goal.loop-k-preserved
loop-k-preserved c =
    let k : ℕ = c.loop-k.k in
    record {
      second = c.loop-k.invariant.before;
      before = λ line e. rw (c.word_at-word.ensures line e, third_place k) refl;
      counts = λ lines e lag from to.
          let high : lag ≤ 127 = omega (arith, to, c.requires.most) in
          part_next lines c.args.width lag k
          (c.loop-k.invariant.counts lines e lag from to)
          (beside_alike _ _ _ _ _ (c.add_word-alike.ensures.counts (led lines.row) (is_within c.args.width) (64 * k) (64 * k)
          (c.loop-k.invariant.second lines.row e)
          (rw (c.loop-k.invariant.before lines.row e, first_place k) refl)
          (rw (c.word_at-word.ensures lines.row e, second_place k) refl)
          c.mask_at-mask.ensures lag from to))
          (row_part lines c.args.width lag k 64 (omega (arith, c.requires.least, from)) high);
      room = λ lag. omega (arith, c.add_word-alike.ensures.room lag, c.loop-k.invariant.room lag);
    }

pub overflow_add-alike : goal.overflow_add-alike
overflow_add-alike c = omega (arith, c.loop-k.invariant.room 0, c.add_word-alike.ensures.room 0, c.loop-k-test.true, c.div_ceil-words.ensures, c.ranges)
