use Rattle.std.proofs.Common.{◌≤◌, ◌/◌, refl, sym, ◌∙◌, arith, length}
use Rattle.pbm_core.specs.Pbm.{bytes_of_row}
use Rattle.raster_core.specs.Window.{held}
use Rattle.t85_core.specs.States.ByRow.{view_of}
use Rattle.t85_core.specs.States.Trial.{all_rows_in}
use Rattle.t85_core.proofs.ImagesEncode.RowEncoderAdvances.{stands_waiting}
use Rattle.t85_core.proofs.ImagesEncode.TrialCountsBytes.{length-packed_rows}
use Rattle.t85_core.proofs.ImagesEncode.OffsetIsBest.{carried, found_two, found_three, rows_held}
use Rattle.t85_core.proofs.encoding.by_row.RowEncoder.best_offset.Goals as goal

pub returns-in-Some-clause-best : goal.returns-in-Some-clause-best
returns-in-Some-clause-best c image rows origin text raster so m enough =
    let e = c.args.self.now in
    let learning = c.args.learning.now in
    let window = held c.args.window.now in
    let part = all_rows_in e.size.width c.args.rows.now in
    let applies = rows_held e (length c.args.rows.now) (sym c.are_stripe_rows.ensures ∙ c.if-not-are_stripe_rows.false) in
    let some : 1 ≤ length part = omega (arith, length-packed_rows e.size.width c.args.rows.now (length c.args.rows.now / bytes_of_row e.size.width)) in
    let w = stands_waiting image rows (view_of e learning) window origin text applies.0 so in
    let double = c.lengths.ensures.events_double in
    let short = c.lengths.ensures.code_is_short in
    let start = carried double short part e learning w m enough some in
    let second = c.compare-second.ensures.chooses w.at.carry start (c.try_offset-tried.ensures.bytes w.at.carry start) in
    found_three double short part e learning w m enough some c.in-Some.is
    (c.try_offset-tried.ensures.lag w.at.carry start refl) second (c.compare-best.ensures.chooses w.at.carry start second.bytes_are)

pub returns-in-None-clause-best : goal.returns-in-None-clause-best
returns-in-None-clause-best c image rows origin text raster so m enough =
    let e = c.args.self.now in
    let learning = c.args.learning.now in
    let window = held c.args.window.now in
    let part = all_rows_in e.size.width c.args.rows.now in
    let applies = rows_held e (length c.args.rows.now) (sym c.are_stripe_rows.ensures ∙ c.if-not-are_stripe_rows.false) in
    let some : 1 ≤ length part = omega (arith, length-packed_rows e.size.width c.args.rows.now (length c.args.rows.now / bytes_of_row e.size.width)) in
    let w = stands_waiting image rows (view_of e learning) window origin text applies.0 so in
    let double = c.lengths.ensures.events_double in
    let short = c.lengths.ensures.code_is_short in
    let start = carried double short part e learning w m enough some in
    found_two double short part e learning w m enough some c.in-None.is
    (c.try_offset-tried.ensures.lag w.at.carry start refl) (c.compare-second.ensures.chooses w.at.carry start (c.try_offset-tried.ensures.bytes w.at.carry start))
