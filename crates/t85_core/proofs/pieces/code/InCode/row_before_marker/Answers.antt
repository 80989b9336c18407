use Rattle.std.proofs.Common.{◌≤◌, min, refl, arith}
use Rattle.t85_core.specs.Options.{fields_of}
use Rattle.t85_core.specs.Lent.{code_lent}
use Rattle.t85_core.specs.Private.RowTurns.{CodeGoes}
use Rattle.t85_core.specs.States.SizedImage.{sized}
use Rattle.raster_core.specs.Window.{held}
use Rattle.t85_core.proofs.BodiesDecode.WalkGoesOn.{in_code_of}
use Rattle.t85_core.proofs.StreamsAreWalked.InfoEnds.{exit_all}
use Rattle.t85_core.proofs.BodiesDecode.RowEndsOrWaits.{code_broke_off, code_ended, code_goes}
use Rattle.t85_core.proofs.pieces.code.InCode.row_before_marker.Goals as goal

pub returns-then-self-min-clause-goes : goal.returns-then-self-min-clause-goes
returns-then-self-min-clause-goes c = λ unread.
    code_goes unread c.next_row.ensures.step c.next_row.ensures.leaves

pub returns-in_err-find_end-clause-goes : goal.returns-in_err-find_end-clause-goes
returns-in_err-find_end-clause-goes c = λ unread.
    let all : min c.args.course.now.left c.args.image.now.header.l0 ≤ c.args.self.now.row = (let le = c.if-self-min.false in let least = c.min.ensures in omega (arith, le, least)) in
    let k = c.in_err-find_end.ensures in
    exit_all (CodeGoes (sized (fields_of c.args.image.now.header) c.args.image.now.height) (code_lent c.args.course.now c.args.self.now c.args.lent.now)
    (code_lent c.args.course.now c.find_end.new.self c.args.lent.now) c.args.piece.now.rest.now c.find_end.new.piece.rest.now) c.from_residual.result c.from_residual.ensures.1
    (code_broke_off _ (k.step c.args.course.now (held c.args.lent.now.window.now) c.args.lent.now.learned.now all)
    (k.other c.args.course.now (held c.args.lent.now.window.now) c.args.lent.now.learned.now all)
    (record { entities = refl; left = refl; given = refl; at = k.same.0 }) (in_code_of c.find_end.new.self.begun) k.none.0 k.none.1)

pub returns-clause-goes : goal.returns-clause-goes
returns-clause-goes c = λ unread.
    let all : min c.args.course.now.left c.args.image.now.header.l0 ≤ c.args.self.now.row = (let le = c.if-self-min.false in let least = c.min.ensures in omega (arith, le, least)) in
    let k = c.in_ok-find_end.ensures in
    code_ended _ (k.step c.args.course.now (held c.args.lent.now.window.now) c.args.lent.now.learned.now all)
    (k.in_time unread c.args.course.now (held c.args.lent.now.window.now) c.args.lent.now.learned.now all)
    (record { entities = refl; left = refl; given = refl; at = k.same.0 }) (in_code_of c.find_end.new.self.begun) k.marked
