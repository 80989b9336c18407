use Rattle.std.proofs.Common.{inl, ◌≡◌, None, Some, Err, inr, refl, sym, ap, subst, arith}
use Rattle.std.specs.Prelude.{IfSome}
use Rattle.t85_core.specs.Options.{fields_of}
use Rattle.t85_core.specs.Lent.{code_view}
use Rattle.t85_core.specs.Stages.{code_kind}
use Rattle.t85_core.specs.declared.segments.Code.TheVariants as code
use Rattle.t85_core.specs.Private.Segments.{RestFault}
use Rattle.t85_core.proofs.BytesJoin.WalkEnds.{exit}
use Rattle.t85_core.proofs.BodiesDecode.EntityIsPulled.{none_of}
use Rattle.t85_core.proofs.BodiesDecode.ImageIsPut.{in_use}
use Rattle.t85_core.proofs.BodiesDecode.WholeCodeNeverBreaks.{before_all, never_changed}
use Rattle.t85_core.proofs.BodiesDecode.WalkNumbersFit.{between_rows, rows_all}
use Rattle.t85_core.proofs.BodiesDecode.MarkerComesInTime.{in_time_found, unread}
use Rattle.t85_core.proofs.BodiesDecode.WalkGoesOn.{on_same, walk_at, at_stage, put_stage, stays, step_exit, other_exit, step_ok}
use Rattle.t85_core.proofs.BodiesDecode.WalkTakesRows.{ahead_is, behind_is, marker_off, code_kept, code_marked}
use Rattle.t85_core.proofs.pieces.code.InCode.find_end.Goals as goal

pub returns-in-Some-clause-step : goal.returns-in-Some-clause-step
returns-in-Some-clause-step c = λ course rows learned all. step_ok (stays (fields_of c.args.image.now.header) c.args.image.now.height
    (code_view course c.args.self.now rows learned) c.args.piece.now.rest.now)

pub returns-in-Some-clause-in_time : goal.returns-in-Some-clause-in_time
returns-in-Some-clause-in_time c = λ unmarked course rows learned all. absurd (unmarked (c.in-Some.reset, c.in-Some.ensures.some c.in-Some.reset refl))

pub returns-in_err-reset-clause-step : goal.returns-in_err-reset-clause-step
returns-in_err-reset-clause-step c = λ course rows learned all.
    step_exit (fields_of c.args.image.now.header) c.args.image.now.height
    (code_view course c.args.self.now rows learned) _ c.args.piece.now.rest.now c.find_marker.new.piece.rest.now c.from_residual.result c.in_err-reset.field-0.0 c.from_residual.ensures.1
    (λ text out w.
    let is = ap code_kind (between_rows course c.args.self.now w all) in
    let k = at_stage is w in
    marker_off k c.coder_laws.ensures (in_use c.args.image.now) (rows_all is w all) c.args.piece.now.rest.now c.in_err-reset.field-0.0
    (c.in_err-reset.ensures.err k.read.answers k.extra k.code k.code_is))
    (λ e. (
      (λ text out w.
          let is = ap code_kind (between_rows course c.args.self.now w all) in
          let k = at_stage is w in
          let m = c.in_err-reset.ensures.more (ap Err e) k.read.answers k.extra k.code k.code_is in
          on_same (fields_of c.args.image.now.header) c.args.image.now.height _ text out c.args.piece.now.rest.now c.find_marker.new.piece.rest.now m.given m.taken
          (walk_at w (ahead_is c.find_marker.new.first c.args.self.now.marker k.read.answers m.extra _ m.code_is)
          (behind_is c.find_marker.new.first c.args.self.now.marker k.read.answers m.extra _ m.code_is)
          (put_stage _ _ _ _ _ _ is (code_kept k (rows_all is w all) c.args.piece.now.rest.now c.find_marker.new.piece.rest.now m)))),
      (let few = c.in_err-reset.ensures.few (ap Err e) in omega (arith, few)),
    ))

pub returns-in_err-reset-clause-other : goal.returns-in_err-reset-clause-other
returns-in_err-reset-clause-other c = λ course rows learned all some. other_exit c.from_residual.result c.in_err-reset.field-0.0 c.from_residual.ensures.1
    (λ e.
    let k = at_stage (ap code_kind (between_rows course c.args.self.now some.2 all)) some.2 in
    let m = c.in_err-reset.ensures.err k.read.answers k.extra k.code k.code_is in
    never_changed (fields_of c.args.image.now.header) before_all m.breaks.rest (subst (RestFault m.breaks.rest) e m.breaks.broken))

pub returns-clause-step : goal.returns-clause-step
returns-clause-step c = λ course rows learned all. step_ok (λ text out w.
    let unmarked = c.end_marker.ensures.none (none_of _ c.in_default.not-Some) in
    let is = ap code_kind (between_rows course c.args.self.now w all) in
    let k = at_stage is w in
    let m = c.in_ok-reset.ensures.ok k.read.answers k.extra k.code k.code_is in
    on_same (fields_of c.args.image.now.header) c.args.image.now.height _ text out c.args.piece.now.rest.now c.find_marker.new.piece.rest.now m.given m.taken
    (walk_at w tt (subst (λ z. IfSome z (λ _. Some (code.Marker c.in_ok-reset.reset) ≡ None)) (sym (unread _ _ unmarked)) tt)
    (put_stage _ _ _ _ _ _ is (code_marked k (rows_all is w all) (unread _ _ unmarked) c.args.piece.now.rest.now c.find_marker.new.piece.rest.now c.in_ok-reset.reset m))))

pub returns-clause-in_time : goal.returns-clause-in_time
returns-clause-in_time c = λ unmarked course rows learned all text out w.
    let is = ap code_kind (between_rows course c.args.self.now w all) in
    let k = at_stage is w in
    let m = c.in_ok-reset.ensures.ok k.read.answers k.extra k.code k.code_is in
    (m.given, m.taken, in_time_found k c.coder_laws.ensures (in_use c.args.image.now) (rows_all is w all) unmarked c.args.piece.now.rest.now c.find_marker.new.piece.rest.now c.in_ok-reset.reset m)

pub returns-clause-marked : goal.returns-clause-marked
returns-clause-marked c = inr refl

pub returns-in_err-reset-clause-none : goal.returns-in_err-reset-clause-none
returns-in_err-reset-clause-none c = exit (λ _. (c.find_marker.new.first ≡ None) × (c.args.self.now.marker ≡ None)) c.from_residual.result c.from_residual.ensures.1
    (c.in_err-reset.ensures.gone, unread _ _ (c.end_marker.ensures.none (none_of _ c.in_default.not-Some)))

pub invariant_of-self-2 : goal.invariant_of-self-2
invariant_of-self-2 c = record {
  small = λ b e. absurd (let bot : ⊥ = cc in bot);
  behind = λ reset e. absurd (c.end_marker.ensures.none (none_of _ c.in_default.not-Some) (reset, inl e));
}
