use Rattle.std.proofs.Common.{◌≡◌, ◌∙◌, refl, sym, ap, rules}
use Rattle.t85_core.specs.Lent.{code_lent, phase_lent}
use Rattle.t85_core.specs.declared.pieces.course.Stage.TheVariants as stage
use Rattle.t85_core.specs.declared.pieces.phase.Phase.TheVariants as phase
use Rattle.t85_core.proofs.BodiesDecode.DecoderRepeatsRows.{code_is_in_code, none_of_some, repeats_known, repeats_of, repeats_open, unmoved}
use Rattle.t85_core.proofs.pieces.PieceDecoder.repeat_all.Goals as goal

pub returns-in-Code-stage-clause-repeats : goal.returns-in-Code-stage-clause-repeats
returns-in-Code-stage-clause-repeats c =
    let code = c.in-Code-stage.code in
    let is : c.args.self.now.phase ≡ phase.Known (stage.Code code) = c.in-Known.is ∙ ap phase.Known c.in-Code-stage.is in
    repeats_of (ap (λ p. phase_lent c.args.self.now p c.args.lent.now) (sym is))
    (repeats_known {d = phase_lent c.args.self.now (phase.Known (stage.Code code)) c.args.lent.now} {w' = code_lent c.repeat.new.course c.repeat.new.self c.repeat.new.lent} refl
    (record { few = c.repeat.ensures.few; row = c.repeat.ensures.row; on = c.repeat.ensures.on; none = λ z. unmoved (c.repeat.ensures.none z) }))

pub returns-else-is_some-clause-repeats : goal.returns-else-is_some-clause-repeats
returns-else-is_some-clause-repeats c =
    let code = c.in-Code.code in
    let self = c.args.self.now in
    let again = c.repeat-in-Code in
    let unmarked = c.end_marker.ensures.none (none_of_some c.end_marker.result (search rules)) in
    let same = again.ensures.same in
    let first : self.image.height ≡ self.image.header.yd = self.first (rw c.in-Code.is refl) in
    repeats_of (ap (λ p. phase_lent self p c.args.lent.now) (sym c.in-Code.is))
    (repeats_open {d = phase_lent self (phase.Code code) c.args.lent.now} {w' = code_lent again.new.course again.new.self again.new.lent} refl refl (rw (same.0, same.1) unmarked)
    (code_is_in_code again.new.self.begun) same.2
    (record { few = again.ensures.few; row = again.ensures.row; on = rw first at again.ensures.on; none = λ z. unmoved (again.ensures.none z) }))
