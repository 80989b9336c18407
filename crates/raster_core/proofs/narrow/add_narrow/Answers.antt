use Rattle.std.proofs.Common.{ℕ, ◌+◌, ◌-◌, ◌*◌, ◌/◌, ◌%◌, ◌^◌, ◌<◌, ◌∙◌, ap, arith, get_or, List, length, inl, inr, length-set, refl}
use Rattle.raster_core.specs.Machine.Words.{led, is_within}
use Rattle.raster_core.proofs.BestIsFound.{le_cases}
use Rattle.raster_core.proofs.BytesMakeWords.{led_white}
use Rattle.raster_core.proofs.NarrowRowsShift.{moves_on, same_else, same_here}
use Rattle.raster_core.proofs.TallyChoosesLag.{added_times}
use Rattle.raster_core.proofs.WordsAgree.{row_part}
use Rattle.raster_core.proofs.narrow.add_narrow.Goals as goal

pub loop-lag-init : goal.loop-lag-init
loop-lag-init c = record {
  long = omega arith;
  near = λ lines e. c.joined-near.ensures (led lines.row) 64 (led_white lines.row 1 (omega arith)) e;
  done = λ lines width e f j from below. absurd (omega arith);
  rest = λ j le. refl;
}

pub loop-lag-preserved : goal.loop-lag-preserved
loop-lag-preserved c =
    let k : ℕ = c.loop-lag.lag in
    let xs : List ℕ = c.loop-lag.counts in
    let v : ℕ = (get_or xs k 0 + c.args.times * c.agreed_word-agreed.result % 2 ^ 64) % 2 ^ 64 in
    let there : k < length xs = omega arith in
    record {
      long = length-set xs k v ∙ c.loop-lag.invariant.long;
      near = λ lines e. ap (λ x. x / 2) (c.loop-lag.invariant.near lines e) ∙ moves_on lines.row k (omega arith);
      done = λ lines width e f j from below.
          elim (le_cases j k (omega arith)) [
            | inr lt ↦ same_else xs k v j (λ eq. omega arith) ∙ c.loop-lag.invariant.done lines width e f j from lt
            | inl eq ↦
                let more = c.agreed_word-agreed.ensures.agreed (led lines.row) (led lines.row) (is_within width) 128 (128 - k) 0 e (c.loop-lag.invariant.near lines e) f in
                let part = row_part lines width k 0 64 (omega arith) (omega arith) in
                rw (eq, same_here xs k v there, c.loop-lag.invariant.rest k (omega arith), more, part, added_times) refl
          ];
      rest = λ j le. same_else xs k v j (λ eq. omega arith) ∙ c.loop-lag.invariant.rest j (omega arith);
    }
