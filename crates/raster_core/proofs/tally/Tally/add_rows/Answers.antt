use Rattle.std.proofs.Common.{◌≡◌, subst, ◌≤◌, ◌∙◌, sym, arith, length, min, ◌==◌}
use Rattle.raster_core.specs.Tally.{least_lag, last_lag}
use Rattle.raster_core.proofs.TallyChoosesLag.{added_times, all_again, length_again, rows_more}
use Rattle.raster_core.proofs.tally.Tally.add_rows.Goals as goal

pub returns-clause-counts : goal.returns-clause-counts
returns-clause-counts c rows lines few k w =
    let is = c.width-width.ensures in
    let long = w.row_wide in
    let fits : length lines.row ≡ c.width-width.result = long ∙ sym is in
    let row = c.row-row.ensures ∙ w.row_is in
    let above = c.row-above.ensures ∙ w.above_is in
    let more = length_again rows c.args.count lines in
    let some : 1 ≤ c.args.count = omega arith in
    let times = c.from-times.ensures in
    let same = c.count_times-agreeing.ensures.same in
    record {
      number = omega (arith, more, k.number, same.rows, few);
      width_is = λ some. is;
      wide = all_again (λ l. length l.row ≡ c.args.window.now.width) rows c.args.count lines k.wide long;
      none = λ empty. absurd (omega (arith, more, some, empty));
      each = λ lag from' to'.
          let from : least_lag (c.args.self.now.two_line == 1) ≤ lag = rw (← same.two_line) from' in
          let to : lag ≤ last_lag (c.args.self.now.two_line == 1) (min c.args.self.now.most 127) c.args.window.now.width =
          rw (← same.most) (subst (λ t. lag ≤ last_lag (t == 1) (min c.count_times-agreeing.new.self.most 127) c.args.window.now.width) same.two_line to') in
          let within = subst (λ n. lag ≤ last_lag (c.args.self.now.two_line == 1) (min c.args.self.now.most 127) n) (sym is) to in
          let counted = c.count_times-agreeing.ensures.counts lines row fits k.kept lag from within in
          rw (counted, times, k.each lag from to)
          (rows_more rows c.args.count lines c.args.window.now.width lag k.wide long (omega arith) (omega arith));
      agreeing =
          rw (times, added_times, same.agreeing, k.agreeing, c.count_times-agreeing.ensures.agreeing lines row above fits k.kept)
          (rows_more rows c.args.count lines c.args.window.now.width c.args.offset k.wide long (omega arith) (omega arith));
      kept = c.count_times-agreeing.ensures.kept k.kept;
    }
