use Rattle.std.proofs.Common.{rules, ◌≡◌, ◌≤◌, subst, arith}
use Rattle.t85_core.specs.Encode.{raster_of}
use Rattle.raster_core.specs.Window.{held}
use Rattle.t85_core.specs.Jbg.{jbg}
use Rattle.t85_core.specs.RowSink.{held_of, known_length}
use Rattle.t85_core.specs.States.Views.{text_taken}
use Rattle.t85_core.specs.States.Sent.{Sends, SendsBeginning}
use Rattle.t85_core.specs.States.ByRow.{view_of}
use Rattle.t85_core.proofs.BytesJoin.BytesAreSent.{beginning_sent}
use Rattle.t85_core.proofs.BytesJoin.WalkEnds.{map_ok, on_err}
use Rattle.t85_core.proofs.BodiesDecode.ImageLeavesBuffer.{text_unheld}
use Rattle.t85_core.proofs.ImagesEncode.CallsHoldNothing.{moved, stands_cleared, stands_grown}
use Rattle.qm_core.specs.Encoder.{waiting_bytes}
use Rattle.std.specs.Prelude.{◌+◌, ◌*◌}
use Rattle.t85_core.specs.MostBytes.{AppendsAtMost}
use Rattle.t85_core.proofs.ImagesEncode.FewBytesAreAppended.{handed_few}
use Rattle.t85_core.proofs.encoding.by_row.RowEncoder.finish.Goals as goal

pub returns-clause-ok : goal.returns-clause-ok
returns-clause-ok g c =
    let buffer = c.new-buffer.result in
    let text_is : text_taken buffer ≡ (g.W.Output.view c.args.output.now).contents =
    rw (text_unheld buffer.bytes buffer.at buffer.end (g.W.Output.view buffer.output.now).contents c.new-buffer.ensures.empty, c.new-buffer.ensures.lent) in
    map_ok c.end_held.result (λ all image rows origin so.
    moved (λ w. (g.W.Output.view w).contents) (λ z. Sends origin z (jbg image.settings (raster_of image.width rows))) (search rules)
    (all image rows origin (stands_cleared image rows (view_of c.args.self.now c.args.learning.now) (held c.args.window.now)
    (held c.clear_padding.new.window) origin _ c.clear_padding.ensures.stays (rw text_is so)))) c.end_held.ensures.ok

pub returns-clause-cut : goal.returns-clause-cut
returns-clause-cut g c _ =
    let buffer = c.new-buffer.result in
    let after = c.end_held.new.buffer in
    let text_is : text_taken buffer ≡ (g.W.Output.view c.args.output.now).contents =
    rw (text_unheld buffer.bytes buffer.at buffer.end (g.W.Output.view buffer.output.now).contents c.new-buffer.ensures.empty, c.new-buffer.ensures.lent) in
    let lent : (g.W.Output.view buffer.output.now).contents ≡ (g.W.Output.view c.args.output.now).contents = rw c.new-buffer.ensures.lent in
    on_err c.end_held.result (λ cut image rows origin so.
    let grown = stands_grown image rows (view_of c.args.self.now c.args.learning.now) (held c.args.window.now) origin (g.W.Output.view c.args.output.now).contents so in
    let more = subst (λ z. known_length z ≤ known_length (g.W.Output.view after.output.now).contents) lent c.end_held.ensures.writes.1 in
    moved (λ w. (g.W.Output.view w).contents) (λ z. SendsBeginning origin z (jbg image.settings (raster_of image.width rows))) (search rules)
    (beginning_sent (held_of after.bytes after.at after.end) (omega arith)
    (cut image rows origin (stands_cleared image rows (view_of c.args.self.now c.args.learning.now) (held c.args.window.now)
    (held c.clear_padding.new.window) origin _ c.clear_padding.ensures.stays (rw text_is so))))) c.end_held.ensures.cut

pub returns-clause-few : goal.returns-clause-few
returns-clause-few g c =
    let buffer = c.new-buffer.result in
    let after = c.end_held.new.buffer in
    let text_is : text_taken buffer ≡ (g.W.Output.view c.args.output.now).contents =
    rw (text_unheld buffer.bytes buffer.at buffer.end (g.W.Output.view buffer.output.now).contents c.new-buffer.ensures.empty, c.new-buffer.ensures.lent) in
    let lent : (g.W.Output.view buffer.output.now).contents ≡ (g.W.Output.view c.args.output.now).contents = rw c.new-buffer.ensures.lent in
    let more = subst (λ z. known_length z ≤ known_length (g.W.Output.view after.output.now).contents) lent c.end_held.ensures.writes.1 in
    moved (λ w. (g.W.Output.view w).contents) (AppendsAtMost (2 * waiting_bytes c.args.self.now.encoder + 10) (g.W.Output.view c.args.output.now).contents) (search rules)
    (handed_few (2 * waiting_bytes c.args.self.now.encoder + 10) (g.W.Output.view c.args.output.now).contents (g.W.Output.view after.output.now).contents (held_of after.bytes after.at after.end) more
    (subst (λ z. AppendsAtMost (2 * waiting_bytes c.args.self.now.encoder + 10) z (text_taken after)) text_is c.end_held.ensures.few))
