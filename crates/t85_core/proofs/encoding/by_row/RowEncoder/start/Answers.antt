use Rattle.std.proofs.Common.{rules, ◌≡◌, ◌≤◌, ◌∙◌, ap, subst, []}
use Rattle.devices.specs.Device.{AppendsBeginning}
use Rattle.raster_core.specs.Window.{held}
use Rattle.t85_core.specs.Jbg.{head_of}
use Rattle.t85_core.specs.Options.{settings_of}
use Rattle.t85_core.specs.RowSink.{held_of, known_length}
use Rattle.t85_core.specs.States.Views.{text_taken}
use Rattle.t85_core.specs.States.Sent.{here}
use Rattle.t85_core.specs.States.ByRow.{Stands, view_of}
use Rattle.t85_core.specs.RowImage.{image_of}
use Rattle.t85_core.proofs.BytesJoin.WalkEnds.{map_if_ok, err_of}
use Rattle.t85_core.proofs.BytesJoin.OutputHoldsBytes.{beginning_handed}
use Rattle.t85_core.proofs.BodiesDecode.ImageLeavesBuffer.{text_unheld}
use Rattle.t85_core.proofs.ImagesEncode.CallsHoldNothing.{moved}
use Rattle.t85_core.proofs.encoding.by_row.RowEncoder.start.Goals as goal

pub returns-clause-begun : goal.returns-clause-begun
returns-clause-begun g c =
    let buffer = c.new-buffer.result in
    let text_is : text_taken buffer ≡ (g.W.Output.view c.args.output.now).contents =
    text_unheld buffer.bytes buffer.at buffer.end (g.W.Output.view buffer.output.now).contents c.new-buffer.ensures.empty ∙ ap (λ m. (g.W.Output.view m.now).contents) c.new-buffer.ensures.lent in
    map_if_ok c.start_held.result (λ e so.
    moved (λ w. (g.W.Output.view w).contents) (Stands (image_of (settings_of c.args.options.now) c.args.size.width c.args.size.height) [] (view_of e c.start_held.new.learning)
    (held c.start_held.new.window) (here (g.W.Output.view c.args.output.now).contents)) (search rules)
    (subst (λ z. Stands (image_of (settings_of c.args.options.now) c.args.size.width c.args.size.height) [] (view_of e c.start_held.new.learning) (held c.start_held.new.window) (here z)
    (g.W.Output.view c.start_held.new.buffer.output.now).contents) text_is so)) c.start_held.ensures.begun

pub returns-clause-cut : goal.returns-clause-cut
returns-clause-cut g c is =
    let buffer = c.new-buffer.result in
    let after = c.start_held.new.buffer in
    let text_is : text_taken buffer ≡ (g.W.Output.view c.args.output.now).contents =
    rw (text_unheld buffer.bytes buffer.at buffer.end (g.W.Output.view buffer.output.now).contents c.new-buffer.ensures.empty, c.new-buffer.ensures.lent) in
    let lent : (g.W.Output.view buffer.output.now).contents ≡ (g.W.Output.view c.args.output.now).contents = ap (λ m. (g.W.Output.view m.now).contents) c.new-buffer.ensures.lent in
    let head = head_of (settings_of c.args.options.now) c.args.size.width c.args.size.height in
    let more : known_length (g.W.Output.view c.args.output.now).contents ≤ known_length (g.W.Output.view after.output.now).contents =
    subst (λ z. known_length z ≤ known_length (g.W.Output.view after.output.now).contents) lent c.start_held.ensures.writes.1 in
    moved (λ w. (g.W.Output.view w).contents) (λ z. AppendsBeginning (g.W.Output.view c.args.output.now).contents z head) (search rules)
    (beginning_handed (g.W.Output.view after.output.now).contents (held_of after.bytes after.at after.end) more
    (subst (λ z. AppendsBeginning z (text_taken after) head) text_is (err_of c.start_held.result is c.start_held.ensures.cut)))
