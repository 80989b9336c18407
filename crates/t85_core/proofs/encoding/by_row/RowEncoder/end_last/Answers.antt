use Rattle.std.proofs.Common.{◌<◌, arith}
use Rattle.raster_core.specs.Window.{held}
use Rattle.t85_core.specs.States.ByRow.{view_of}
use Rattle.t85_core.proofs.BytesJoin.WalkEnds.{map_ok, on_err}
use Rattle.t85_core.proofs.ImagesEncode.RowEncoderAdvances.{stands_waiting, stands_running, waits_ended, ended_stripes, cut_stripes}
use Rattle.t85_core.proofs.encoding.by_row.RowEncoder.end_last.Goals as goal

pub returns-then-self-eq0-clause-ok : goal.returns-then-self-eq0-clause-ok
returns-then-self-eq0-clause-ok g c image rows origin so =
    let w = stands_waiting image rows (view_of c.args.self.now c.args.learning.now) (held c.args.window.now) origin (g.P.ByteTarget.view c.args.target.now).text c.if-self-eq0.true so in
    waits_ended (view_of c.args.self.now c.args.learning.now) w.plan_is w.come c.requires.ready.0.0 c.requires.ready.0.1 w

pub returns-else-self-eq0-clause-ok : goal.returns-else-self-eq0-clause-ok
returns-else-self-eq0-clause-ok g c =
    map_ok c.end_stripe.result (λ ended image rows origin so.
    let runs : 0 < c.args.self.now.in_stripe = omega arith in
    let r = stands_running image rows (view_of c.args.self.now c.args.learning.now) (held c.args.window.now) origin (g.P.ByteTarget.view c.args.target.now).text runs so in
    ended_stripes (held c.end_stripe.new.window) c.requires.ready.0.0 c.requires.ready.0.1 r (ended image rows origin r)) c.end_stripe.ensures.ok

pub returns-else-self-eq0-clause-cut : goal.returns-else-self-eq0-clause-cut
returns-else-self-eq0-clause-cut g c =
    on_err c.end_stripe.result (λ cut image rows origin so.
    let runs : 0 < c.args.self.now.in_stripe = omega arith in
    let r = stands_running image rows (view_of c.args.self.now c.args.learning.now) (held c.args.window.now) origin (g.P.ByteTarget.view c.args.target.now).text runs so in
    cut_stripes c.requires.ready.0.0 c.requires.ready.0.1 r (cut image rows origin r)) c.end_stripe.ensures.cut
