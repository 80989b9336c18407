use Rattle.std.proofs.Common.{not, sym, ap, subst, arith, ◌∙◌}
use Rattle.raster_core.specs.Choice.{PixelCounts}
use Rattle.raster_core.specs.Counting.{HasCounts, counting_of, fit_lines}
use Rattle.raster_core.proofs.ChoiceCountsRows.{counts_full, counts_typical, row_counted}
use Rattle.raster_core.proofs.choice.Choice.count_row.Goals as goal

pub returns-then-self-gt-ENOUGH-clause-counted : goal.returns-then-self-gt-ENOUGH-clause-counted
returns-then-self-gt-ENOUGH-clause-counted c stripe lines k are =
    let t = c.args.self.now in
    let P : PixelCounts → Type 0 = λ n. HasCounts t n in
    subst P (sym (counts_full (counting_of t) stripe (fit_lines (counting_of t).width lines) (omega (arith, k.pixels, c.if-self-gt-ENOUGH.true)))) k

pub returns-then-is_typical-clause-counted : goal.returns-then-is_typical-clause-counted
returns-then-is_typical-clause-counted c stripe lines k are =
    let t = c.args.self.now in
    let P : PixelCounts → Type 0 = λ n. HasCounts t n in
    subst P (sym (counts_typical (counting_of t) stripe (fit_lines (counting_of t).width lines) (ap not (sym (c.is_typical.ensures lines are) ∙ c.if-is_typical.true)))) k

pub returns-clause-counted : goal.returns-clause-counted
returns-clause-counted c stripe lines k are =
    row_counted c.args.self.now c.add_row.new.self c.columns-columns.result stripe
    (record {
      same = c.add_row.ensures.counting;
      first_is = c.columns-columns.ensures.first;
      end_is = c.columns-columns.ensures.end;
      some = c.if-columns.false;
      pixels = c.add_row.ensures.pixels;
      nominal = c.add_row.ensures.nominal;
      lags = c.add_row.ensures.lags;
    })
    k are c.if-self-gt-ENOUGH.false (sym (c.is_typical.ensures lines are) ∙ c.if-is_typical.false)
