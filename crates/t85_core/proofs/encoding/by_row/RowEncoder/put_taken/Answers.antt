use Rattle.std.specs.Prelude.{OnErr, Result, List, Bool, Option, ℕ, ◌++◌, ◌∷◌, []}
use Rattle.raster_core.specs.Packed.{Held}
use Rattle.raster_core.specs.Window.{held}
use Rattle.t85_core.specs.declared.fault.Fault.{Fault}
use Rattle.t85_core.specs.States.ByRow.{CutsRow, IsBelow, RowView, view_of}
use Rattle.t85_core.proofs.StreamsAreWalked.InfoEnds.{exit_all}
use Rattle.qm_core.specs.Encoder.{waiting_bytes}
use Rattle.std.proofs.Common.{ap}
use Rattle.t85_core.proofs.ImagesEncode.FewBytesAreAppended.{row_few, row_begun_few}
use Rattle.t85_core.proofs.encoding.by_row.RowEncoder.put_taken.Goals as goal

-- a beginning of each stream that begins with the rows and this one
abbrev Cut : RowView → Held → Option (List ℕ) → Option (List ℕ) → Result (Unit {0}) Fault → Type 0
Cut v window old new r = OnErr r ((row : List Bool) (before : Held) → IsBelow row before window → CutsRow row v before old new)

pub returns-in_err-begin_where_due-clause-cut : goal.returns-in_err-begin_where_due-clause-cut
returns-in_err-begin_where_due-clause-cut g c _ =
    exit_all (Cut (view_of c.args.self.now c.args.learning.now) (held c.args.window.now) (g.P.ByteTarget.view c.args.target.now).text
    (g.P.ByteTarget.view c.begin_where_due.new.target).text) c.from_residual.result c.from_residual.ensures.1
    (λ row before below image rows origin so. c.in_err-begin_where_due.ensures.cut row before image rows origin so)

pub returns-in_err-code-clause-cut : goal.returns-in_err-code-clause-cut
returns-in_err-code-clause-cut g c _ =
    exit_all (Cut (view_of c.args.self.now c.args.learning.now) (held c.args.window.now) (g.P.ByteTarget.view c.args.target.now).text
    (g.P.ByteTarget.view c.code.new.target).text) c.from_residual-in_err-code.result c.from_residual-in_err-code.ensures.1
    (λ row before below image rows origin so. c.in_err-code.ensures.cut image rows row before origin below (c.in_ok-begin_where_due.ensures.ok image rows before origin so))

pub returns-in_err-end_where_due-clause-cut : goal.returns-in_err-end_where_due-clause-cut
returns-in_err-end_where_due-clause-cut g c _ =
    exit_all (Cut (view_of c.args.self.now c.args.learning.now) (held c.args.window.now) (g.P.ByteTarget.view c.args.target.now).text
    (g.P.ByteTarget.view c.end_where_due.new.target).text) c.from_residual-in_err-end_where_due.result c.from_residual-in_err-end_where_due.ensures.1
    (λ row before below image rows origin so. c.in_err-end_where_due.ensures.cut image (rows ++ row ∷ []) origin
    (c.in_ok-code.ensures.ok image rows row before origin below (c.in_ok-begin_where_due.ensures.ok image rows before origin so)))

pub returns-clause-ok : goal.returns-clause-ok
returns-clause-ok g c row before below image rows origin so =
    c.in_ok-end_where_due.ensures.ok image (rows ++ row ∷ []) origin (c.in_ok-code.ensures.ok image rows row before origin below (c.in_ok-begin_where_due.ensures.ok image rows before origin so))

pub returns-in_err-code-clause-few : goal.returns-in_err-code-clause-few
returns-in_err-code-clause-few g c =
    row_begun_few _ _ _ (ap waiting_bytes c.begin_where_due.ensures.keeps.2) (ap (λ z. z.width) c.begin_where_due.ensures.keeps.0.0.0)
    c.in_ok-begin_where_due.ensures.few c.in_err-code.ensures.few.err

pub returns-in_err-end_where_due-clause-few : goal.returns-in_err-end_where_due-clause-few
returns-in_err-end_where_due-clause-few g c =
    row_few (waiting_bytes c.code.new.self.encoder) _ _ (ap waiting_bytes c.begin_where_due.ensures.keeps.2) (ap (λ z. z.width) c.begin_where_due.ensures.keeps.0.0.0)
    c.in_ok-begin_where_due.ensures.few c.in_ok-code.ensures.few.ok c.in_err-end_where_due.ensures.few

pub returns-clause-few : goal.returns-clause-few
returns-clause-few g c =
    row_few (waiting_bytes c.code.new.self.encoder) _ _ (ap waiting_bytes c.begin_where_due.ensures.keeps.2) (ap (λ z. z.width) c.begin_where_due.ensures.keeps.0.0.0)
    c.in_ok-begin_where_due.ensures.few c.in_ok-code.ensures.few.ok c.in_ok-end_where_due.ensures.few
