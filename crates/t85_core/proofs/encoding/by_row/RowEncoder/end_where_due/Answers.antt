use Rattle.std.proofs.Common.{◌∙◌, sym, inl}
use Rattle.raster_core.specs.Window.{held}
use Rattle.t85_core.specs.States.ByRow.{view_of}
use Rattle.t85_core.proofs.BytesJoin.WalkEnds.{map_ok, on_err}
use Rattle.t85_core.proofs.ImagesEncode.RowEncoderAdvances.{ended_waits, cut_stream}
use Rattle.t85_core.proofs.encoding.by_row.RowEncoder.end_where_due.Goals as goal

pub returns-then-self-clause-ok : goal.returns-then-self-clause-ok
returns-then-self-clause-ok g c =
    map_ok c.end_stripe.result (λ ended image rows origin r. inl
    (ended_waits image _ rows _ _ origin _ (c.if-self.true ∙ sym c.end_stripe.ensures.keeps.0.1) (ended image rows origin r))) c.end_stripe.ensures.ok

pub returns-then-self-clause-cut : goal.returns-then-self-clause-cut
returns-then-self-clause-cut g c =
    on_err c.end_stripe.result (λ cut image rows origin r. cut_stream image _ rows (view_of c.args.self.now c.args.learning.now) (held c.args.window.now) origin _ r.plan_is.some
    (c.if-self.true ∙ r.plan_is.stripe_rows_is) (cut image rows origin r)) c.end_stripe.ensures.cut
