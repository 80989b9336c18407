use Rattle.std.proofs.Common.{◌≡◌, ℕ, ◌+◌, ◌-◌, ◌*◌, ◌≤◌, arith, refl, sym}
use Rattle.raster_core.specs.Machine.Words.{led, is_between}
use Rattle.raster_core.proofs.ColumnsAgree.{among_row, among_nominal, among_none, among_next}
use Rattle.raster_core.proofs.BestIsFound.{zeros}
use Rattle.raster_core.proofs.BytesMakeWords.{led_white}
use Rattle.raster_core.proofs.WordsAgree.{first_place, second_place, third_place}
use Rattle.raster_core.proofs.columns.count_columns.Goals as goal

pub loop-k-init : goal.loop-k-init
loop-k-init c = record {
  second = λ line e. led_white line 0 (omega arith);
  before = λ line e. led_white line 1 (omega arith);
  counts = λ lines e lag from to.
      let n = among_none (is_between c.args.columns.first c.args.columns.end) lines lag 0 in
      let z = zeros 128 lag in
      omega arith;
  nominal = λ lines e f. sym (among_none (is_between c.args.columns.first c.args.columns.end) lines 0 0);
  room = λ lag. let z = zeros 128 lag in omega arith;
  nominal_room = omega arith;
}

beside_alike : (new result old alike part : ℕ) → new + result ≡ old + part → new + (alike + result) ≡ (old + alike) + part
beside_alike new result old alike part e = omega arith

next : (k : ℕ) → 64 * (k + 3) ≡ 64 * (k + 2) + 64
next k = omega arith

pub loop-k-preserved : goal.loop-k-preserved
loop-k-preserved c =
    let k : ℕ = c.loop-k.k in
    let mask = is_between c.args.columns.first c.args.columns.end in
    record {
      second = c.loop-k.invariant.before;
      before = λ line e. rw (c.word_at-word.ensures line e, third_place k) refl;
      counts = λ lines e lag from to.
          let high : lag ≤ 127 = omega (arith, to, c.requires.most) in
          among_next mask lines lag k
          (c.loop-k.invariant.counts lines e lag from to)
          (beside_alike _ _ _ _ _ (c.add_word-alike.ensures.counts (led lines.row) mask (64 * k) (64 * k)
          (c.loop-k.invariant.second lines.row e)
          (rw (c.loop-k.invariant.before lines.row e, first_place k) refl)
          (rw (c.word_at-word.ensures lines.row e, second_place k) refl)
          c.mask_at-mask.ensures lag from to))
          (among_row mask lines lag k 64 (omega (arith, c.requires.least.0, from)) high);
      nominal = λ lines e f.
          let above = c.joined-adaptive.ensures (led lines.above) (64 * (k + 2)) (c.word_at.ensures lines.above f) (rw (next k) at (c.word_at-in-loop-k.ensures lines.above f)) in
          among_next mask lines 0 k
          (c.loop-k.invariant.nominal lines e f) refl
          (rw (c.agreed_word-nominal.ensures.agreed (led lines.row) (led lines.above) mask (64 * k + 128) (64 * (k + 2) + 64 - 62) (64 * k)
          (rw (c.word_at-word.ensures lines.row e, second_place k) refl) above c.mask_at-mask.ensures)
          (among_nominal mask lines k 64));
      room = λ lag. omega (arith, c.add_word-alike.ensures.room lag, c.loop-k.invariant.room lag);
      nominal_room = omega (arith, c.agreed_word-nominal.ensures.small, c.loop-k.invariant.nominal_room);
    }

pub overflow_add-alike : goal.overflow_add-alike
overflow_add-alike c = omega (arith, c.loop-k.invariant.room 0, c.add_word-alike.ensures.room 0, c.loop-k-test.true, c.div_ceil-words.ensures, c.ranges)
