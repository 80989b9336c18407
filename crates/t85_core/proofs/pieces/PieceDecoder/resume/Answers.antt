use Rattle.std.proofs.Common.{◌≡◌, Some, None, ap, refl, sym, ◌∙◌}
use Rattle.t85_core.specs.Phases.{phase_behind, phase_is_open, phase_stage, phase_waits}
use Rattle.t85_core.specs.Lent.{stage_view}
use Rattle.t85_core.proofs.BodiesDecode.NumbersFixDecoder.{some_is, stands_as, stays}
use Rattle.t85_core.proofs.pieces.PieceDecoder.resume.Goals as goal

pub returns-in_err-phase-clause-all : goal.returns-in_err-phase-clause-all
returns-in_err-phase-clause-all c = λ d header fits k. absurd (let some : None ≡ Some d.phase = sym c.in_err-phase.was
    ∙ c.phase.ensures.all d.phase k.phase_is k.stage_is (rw (k.course_is.left_is, ← header) fits) in let bot : ⊥ = cc in bot)

pub returns-clause-resumes : goal.returns-clause-resumes
returns-clause-resumes c = λ d rows learned text out has header k.
    let fits = stays d has.stands in
    let same = some_is (c.in_ok-phase.ensures.all d.phase k.phase_is k.stage_is (rw (k.course_is.left_is, ← header) fits)) in
    record {
      going = refl;
      stands = stands_as d _ c.in_ok-course.course rows learned text out (ap (λ p. stage_view c.in_ok-course.course (phase_stage p) rows learned) same) (sym header) k.height_is (ap phase_is_open same)
          (ap phase_waits same) (ap phase_behind same) (c.in_ok-course.ensures.all d.course k.course_is) has.stands;
    }
