use Rattle.std.proofs.Common.{◌≡◌, ◌≤◌, ◌<◌, ◌+◌, ◌-◌, ◌*◌, ◌/◌, ◌^◌, ap, ◌∙◌, arith, length}
use Rattle.std.specs.Prelude.{slice_range}
use Rattle.std.proofs.Math.Nat.{add-mul, mul-le-mul_right}
use Rattle.pbm_core.specs.Image.{pixels_of}
use Rattle.pbm_core.specs.Pbm.{bytes_of_row}
use Rattle.raster_core.specs.Window.{held}
use Rattle.t85_core.specs.States.Trial.{packed_rows}
use Rattle.t85_core.proofs.ImagesEncode.TrialCountsBytes.{length-packed_rows, packed_rows_more}
use Rattle.t85_core.proofs.encoding.by_row.trial.Trial.code_rows.Goals as goal

pub code-requires-clause-ready : goal.code-requires-clause-ready
code-requires-clause-ready c =
    let ready = c.loop-k.invariant.ready in
    let count = ap (λ b. length c.args.rows.now / b) c.row_bytes-long.ensures in
    let w = c.args.shape.width in
    let k = c.loop-k.k in
    let few : k ≤ 2 ^ 32 = omega arith in
    let up = mul-le-mul_right (w + 1) few in
    let narrow : w ≤ 1048576 = omega arith in
    let events = ready.few in
    record {
      row = (c.take_row.ensures.window.0.0 ∙ ready.row.0, ready.row.1);
      going = ready.going;
      few = omega arith;
    }

pub loop-k-preserved : goal.loop-k-preserved
loop-k-preserved c =
    let ready = c.loop-k.invariant.ready in
    let count = ap (λ b. length c.args.rows.now / b) c.row_bytes-long.ensures in
    let w = c.args.size.width in
    let k = c.loop-k.k in
    let rows = c.args.rows.now in
    let lined = c.loop-k.invariant.lined in
    let below = c.take_row.ensures.below in
    let few : length (packed_rows w rows k) < 2 ^ 32 - 1 = omega (arith, length-packed_rows w rows k) in
    let pixels = ap (λ b. pixels_of w (slice_range rows (k * b) (k * b + b))) c.row_bytes-long.ensures in
    let sum = add-mul k 1 (c.args.shape.width + 1) in
    let after = c.code.ensures.going (k * (c.args.shape.width + 1)) (record {
      row = (c.take_row.ensures.window.0.0 ∙ ready.row.0, ready.row.1);
      going = ready.going;
      few = ready.few;
    }) in
    let events = after.few in
    record {
      tries = λ most carry offset start.
          rw (packed_rows_more, ← pixels) (c.code.ensures.row most carry offset (packed_rows w rows k) _ (held c.loop-k.window) few below (c.loop-k.invariant.tries most carry offset start));
      ready = record { row = after.row; going = after.going; few = omega arith };
      lined = ((_, below lined.0.0 lined.0.1), c.take_row.ensures.window.0.0 ∙ lined.1);
      tally = (c.code.ensures.tally.0 ∙ c.loop-k.invariant.tally.0, c.code.ensures.tally.1 ∙ c.loop-k.invariant.tally.1);
      to = omega arith;
      is_counted = c.code.ensures.is_counted ∙ c.loop-k.invariant.is_counted;
    }

pub returns-clause-rows : goal.returns-clause-rows
returns-clause-rows c most carry offset start =
    let count = ap (λ b. length c.args.rows.now / b) c.row_bytes-long.ensures in
    let all : c.loop-k.k ≡ length c.args.rows.now / bytes_of_row c.args.size.width = omega arith in
    rw (← all) (c.loop-k.invariant.tries most carry offset start)
