use Rattle.std.proofs.Common.{◌∙◌, refl, arith}
use Rattle.libt85.proofs.RowsStandApart.{copies_next}
use Rattle.libt85.proofs.lined_source.LinedSourceRowSource.pass_equal.Goals as goal

pub rows-preserved : goal.rows-preserved
rows-preserved c = record {
  few = omega arith;
  passed = copies_next _ c.args.row.now c.rows.count c.rows.invariant.passed (c.if-not-pass_one.ensures.passed refl);
  none = λ none. absurd (omega arith);
  same_row = c.pass_one.ensures.same_row ∙ c.rows.invariant.same_row;
}
