use Rattle.std.specs.Prelude.{OnErr, Result, List, Bool, Option, ℕ, ◌++◌, ◌∷◌, []}
use Rattle.raster_core.specs.Packed.{Held}
use Rattle.raster_core.specs.Window.{held}
use Rattle.t85_core.specs.declared.fault.Fault.{Fault}
use Rattle.t85_core.specs.States.Views.{text_taken}
use Rattle.t85_core.specs.States.ByRow.{CutsRow, IsBelow, RowView, view_of}
use Rattle.t85_core.proofs.StreamsAreWalked.InfoEnds.{exit_all}
use Rattle.t85_core.proofs.BodiesDecode.ImageLeavesBuffer.{all_handed}
use Rattle.t85_core.proofs.ImagesEncode.CallsHoldNothing.{stands_kept, front_cut}
use Rattle.t85_core.proofs.encoding.by_row.RowEncoder.put_held.Goals as goal

abbrev Cut : RowView → Held → Option (List ℕ) → Option (List ℕ) → Result (Unit {0}) Fault → Type 0
Cut v window old new r = OnErr r ((row : List Bool) (before : Held) → IsBelow row before window → CutsRow row v before old new)

pub returns-in_err-put_taken-clause-cut : goal.returns-in_err-put_taken-clause-cut
returns-in_err-put_taken-clause-cut g c =
    exit_all (Cut (view_of c.args.self.now c.args.learning.now) (held c.args.window.now) (text_taken c.args.buffer.now)
    (text_taken c.put_taken.new.target)) c.from_residual.result c.from_residual.ensures.1 (c.in_err-put_taken.ensures.cut c.requires.open_)

pub returns-in-Ok-clause-ok : goal.returns-in-Ok-clause-ok
returns-in-Ok-clause-ok g c row before below image rows origin so =
    let empty = c.in-Ok.ensures.empty in
    stands_kept image (rows ++ row ∷ []) _ _ origin _ _ (all_handed _ _ _ _ _ empty.0 empty.1 c.write_held.ensures.text) (c.in_ok-put_taken.ensures.ok row before below image rows origin so)

pub returns-in-Err-clause-cut : goal.returns-in-Err-clause-cut
returns-in-Err-clause-cut g c row before below image rows origin so =
    front_cut image (rows ++ row ∷ []) origin _ _ c.write_held.ensures.text
    (c.fronts.ensures image (rows ++ row ∷ []) _ _ origin _ (c.in_ok-put_taken.ensures.ok row before below image rows origin so))
