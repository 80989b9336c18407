use Rattle.std.proofs.Common.{◌∙◌, sym}
use Rattle.std.proofs.lemmas.Slice.Eq.{bytes_eq-Decides}
use Rattle.raster_core.proofs.RowsAreEqual.{typical_test}
use Rattle.raster_core.proofs.encode.is_typical.Goals as goal

pub returns-then-shape-clause-lines : goal.returns-then-shape-clause-lines
returns-then-shape-clause-lines c = λ lines w.
    rw (c.if-shape.true) (c.eq.ensures ∙ typical_test _ lines.row lines.above (bytes_eq-Decides c.row.result.now c.row-then-shape.result.now) (c.row.ensures ∙ w.row_is) (c.row-then-shape.ensures ∙ w.above_is) (w.row_wide ∙ sym w.above_wide))
