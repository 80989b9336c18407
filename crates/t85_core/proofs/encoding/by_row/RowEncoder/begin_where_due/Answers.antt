use Rattle.t85_core.proofs.BytesJoin.WalkEnds.{map_ok, on_err}
use Rattle.t85_core.proofs.ImagesEncode.RowEncoderAdvances.{stands_waiting}
use Rattle.t85_core.proofs.encoding.by_row.RowEncoder.begin_where_due.Goals as goal

pub returns-then-self-eq0-clause-ok : goal.returns-then-self-eq0-clause-ok
returns-then-self-eq0-clause-ok g c =
    map_ok c.begin_stripe.result (λ more image rows before origin so. more image rows before origin (stands_waiting image rows _ before origin _ c.if-self-eq0.true so)) c.begin_stripe.ensures.ok

pub returns-then-self-eq0-clause-cut : goal.returns-then-self-eq0-clause-cut
returns-then-self-eq0-clause-cut g c =
    on_err c.begin_stripe.result (λ cut row before image rows origin so. cut image rows row before origin
    (stands_waiting image rows _ before origin _ c.if-self-eq0.true so)) c.begin_stripe.ensures.cut
