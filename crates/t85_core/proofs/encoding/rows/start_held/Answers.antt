use Rattle.std.specs.Prelude.{OnErr}
use Rattle.std.proofs.Common.{subst}
use Rattle.devices.specs.Device.{AppendsBeginning}
use Rattle.raster_core.specs.Packed.{HasLines, white_lines}
use Rattle.raster_core.specs.Window.{held}
use Rattle.t85_core.specs.Jbg.{head_of}
use Rattle.t85_core.specs.Options.{settings_of}
use Rattle.t85_core.specs.States.Views.{text_taken}
use Rattle.t85_core.proofs.BytesJoin.CallsJoin.{Appends-keeps, beginning_all}
use Rattle.t85_core.proofs.BodiesDecode.ImageLeavesBuffer.{all_handed}
use Rattle.t85_core.proofs.ImagesEncode.CallsHoldNothing.{stands_kept}
use Rattle.t85_core.proofs.StreamsAreWalked.InfoEnds.{exit_all}
use Rattle.t85_core.proofs.encoding.rows.start_held.Goals as goal

pub returns-clause-begun : goal.returns-clause-begun
returns-clause-begun g c =
    let empty = c.in_ok-write_held.ensures.empty in
    let white = subst (λ w. HasLines (held c.clear.new.self) (white_lines w)) c.requires.width c.clear.ensures.white in
    stands_kept _ _ _ _ _ _ _ (all_handed _ _ _ _ _ empty.0 empty.1 c.write_held.ensures.text) (c.new.ensures.first _ c.first.ensures _ _ _ white c.in_ok-write_head.ensures.ok)

pub returns-in_err-write_held-clause-cut : goal.returns-in_err-write_held-clause-cut
returns-in_err-write_held-clause-cut g c =
    exit_all (λ r. OnErr r (AppendsBeginning (text_taken c.args.buffer.now) (text_taken c.write_held.new.self)
    (head_of (settings_of c.args.options.now) c.args.size.width c.args.size.height))) c.from_residual-in_err-write_held.result c.from_residual-in_err-write_held.ensures.1
    (beginning_all (Appends-keeps _ _ _ _ c.in_ok-write_head.ensures.ok c.write_held.ensures.text))
