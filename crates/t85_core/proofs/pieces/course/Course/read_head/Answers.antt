use Rattle.std.proofs.Common.{◌≡◌, [], Result, Ok, Err, refl, sym, subst}
use Rattle.std.specs.Prelude.{IsErrAnd}
use Rattle.t85_core.specs.Options.{fields_of}
use Rattle.t85_core.specs.Lent.{stage_view}
use Rattle.t85_core.specs.declared.pieces.course.Stage.TheVariants as stage
use Rattle.t85_core.specs.Stages.{stage_read}
use Rattle.t85_core.specs.Private.Pieces.{Step}
use Rattle.t85_core.specs.States.SizedImage.{sized}
use Rattle.t85_core.specs.declared.fault.Fault.{Fault}
use Rattle.t85_core.specs.declared.fault.Fault.TheVariants.{Changed}
use Rattle.t85_core.specs.declared.pieces.course.Stage.{Stage}
use Rattle.t85_core.specs.declared.pieces.head.Head.{Head}
use Rattle.t85_core.proofs.BodiesDecode.SegmentsPrecedeCode.{head_view, head_on, head_off, head_height, head_changes, head_begins}
use Rattle.t85_core.proofs.BodiesDecode.ImageIsPut.{in_use}
use Rattle.t85_core.proofs.BodiesDecode.WalkGoesOn.{on_then, off_then, step_exit, step_ok}
use Rattle.t85_core.proofs.pieces.course.Course.read_head.Goals as goal

-- the stage stays the same
read_err : (P : Fault → Type 0) (h : Head) (r : Result Stage Fault) → IsErrAnd r P → stage_read h r ≡ stage.Head h
read_err P h (Ok s) k = absurd k
read_err P h (Err f) k = refl

pub returns-in_err-coming-clause-step : goal.returns-in_err-coming-clause-step
returns-in_err-coming-clause-step c = λ rows learned.
    subst (λ z. Step (sized (fields_of c.args.image.now.header) c.args.image.now.height) (head_view c.args.self.now rows learned c.args.head.now)
    (stage_view c.args.self.now z rows learned) c.args.piece.now.rest.now c.pass.new.piece.rest.now c.from_residual.result)
    (sym (read_err _ c.pass.new.self c.from_residual.result c.from_residual.ensures.1))
    (step_exit (fields_of c.args.image.now.header) c.args.image.now.height (head_view c.args.self.now rows learned c.args.head.now)
    (head_view c.args.self.now rows learned c.pass.new.self) c.args.piece.now.rest.now c.pass.new.piece.rest.now c.from_residual.result c.in_err-coming.field-0.0 c.from_residual.ensures.1
    (head_off c.args.self.now rows learned c.args.head.now c.pass.ensures.on c.coder_laws.ensures (in_use c.args.image.now) c.in_err-coming.field-0.0 c.in_err-coming.ensures.err)
    (λ e. (head_on c.args.self.now rows learned c.args.head.now c.pass.ensures.on, c.in_err-coming.ensures.err.few e)))

pub returns-then-height-image-clause-step : goal.returns-then-height-image-clause-step
returns-then-height-image-clause-step c = λ rows learned.
    let came = c.in_ok-coming.ensures.ok in
    let k = rw c.in-Height.is at came.1 in
    record {
      ok = tt;
      err = off_then (fields_of c.args.image.now.header) c.args.image.now.height (head_view c.args.self.now rows learned c.args.head.now)
          (head_view c.args.self.now rows learned c.pass.new.self) c.args.piece.now.rest.now c.pass.new.piece.rest.now (head_on c.args.self.now rows learned c.args.head.now c.pass.ensures.on) Changed
          (head_changes c.args.self.now rows learned c.pass.new.self came.0 c.coder_laws.ensures (in_use c.args.image.now) c.in-Height.height k.3 k.0 k.1 c.if-height-image.true k.2);
      more = λ e. absurd (let bot : ⊥ = cc in bot);
    }

pub returns-else-height-image-clause-step : goal.returns-else-height-image-clause-step
returns-else-height-image-clause-step c = λ rows learned.
    let came = c.in_ok-coming.ensures.ok in
    let k = rw c.in-Height.is at came.1 in
    step_ok (on_then (fields_of c.args.image.now.header) c.args.image.now.height (head_view c.args.self.now rows learned c.args.head.now)
    (head_view c.args.self.now rows learned c.pass.new.self) c.args.piece.now.rest.now c.pass.new.piece.rest.now
    (head_on c.args.self.now rows learned c.args.head.now c.pass.ensures.on) _ c.in_ok-coming.coming.rest.now []
    (head_height c.args.self.now rows learned c.pass.new.self came.0 c.in-Height.height k.3 c.if-height-image.false k.1 k.2))

pub returns-in-Code-clause-step : goal.returns-in-Code-clause-step
returns-in-Code-clause-step c = λ rows learned.
    let came = c.in_ok-coming.ensures.ok in
    let k = rw c.in-Code.is at came.1 in
    step_ok (on_then (fields_of c.args.image.now.header) c.args.image.now.height (head_view c.args.self.now rows learned c.args.head.now)
    (head_view c.args.self.now rows learned c.pass.new.self) c.args.piece.now.rest.now c.pass.new.piece.rest.now
    (head_on c.args.self.now rows learned c.args.head.now c.pass.ensures.on) _ c.in_ok-coming.coming.rest.now []
    (head_begins c.args.self.now rows learned c.pass.new.self came.0 c.in-Code.code k.0 c.start-self.result c.start-self.ensures.stands c.start.result c.start.ensures k.1))
