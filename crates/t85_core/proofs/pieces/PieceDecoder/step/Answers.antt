use Rattle.std.proofs.Common.{◌≡◌, ◌++◌, ◌∙◌, [], true, false, Ok, Err, refl, ap, sym, subst, inr, true≢false, rules}
use Rattle.t85_core.specs.declared.pieces.phase.Phase.TheVariants as phase
use Rattle.t85_core.specs.Lent.{code_lent, phase_lent, stage_lent}
use Rattle.t85_core.specs.Options.{fields_of}
use Rattle.t85_core.specs.Phases.{phase_looks}
use Rattle.t85_core.specs.Stages.{head_start}
use Rattle.t85_core.specs.States.PieceStands.{MarkerAfterRows}
use Rattle.t85_core.specs.States.Pieces.{HasMarker}
use Rattle.t85_core.specs.Private.RowTurns.{CodeGoes}
use Rattle.t85_core.specs.States.SizedImage.{sized}
use Rattle.t85_core.proofs.BodiesDecode.SegmentsComeBehind.{some_of}
use Rattle.t85_core.proofs.BodiesDecode.MarkerComesInTime.{in_time_more}
use Rattle.t85_core.proofs.BodiesDecode.DecoderRepeatsRows.{none_of_some}
use Rattle.t85_core.proofs.BodiesDecode.WalkGoesOn.{over_done}
use Rattle.t85_core.proofs.BodiesDecode.PieceStands.{at_first, code_broken, code_of, known_more, known_open, leaves_done, leaves_of, leaves_on, leaves_row, leaves_stop, on_none, put_code, put_waits, some_code, taken_is, turn_broken, turn_consumed, turn_on, turn_whole, waits_first}
use Rattle.t85_core.proofs.pieces.PieceDecoder.step.Goals as goal

-- ---- the height is known

pub returns-in-Ok-true-clause-leaves : goal.returns-in-Ok-true-clause-leaves
returns-in-Ok-true-clause-leaves c =
    let d = phase_lent c.args.self.now (phase.Known c.in-Known.stage) c.args.lent.now in
    let p = c.args.piece.now.rest.now in
    let p' = c.next.new.piece.rest.now in
    leaves_of (ap (λ z. phase_lent c.args.self.now z c.args.lent.now) (sym c.in-Known.is))
    (leaves_row c.args.is_all d _ p p' refl refl (turn_on d refl _ p p' _ (record { header = refl; height = refl; is_open = refl; waits = refl; behind = refl; going = refl })
    (c.in-Ok-true.ensures.step.row (ap Ok c.in-Ok-true.field-0-test))) (λ late. absurd (true≢false (sym late))))

pub returns-in-Ok-false-clause-leaves : goal.returns-in-Ok-false-clause-leaves
returns-in-Ok-false-clause-leaves c =
    let d = phase_lent c.args.self.now (phase.Known c.in-Known.stage) c.args.lent.now in
    let p = c.args.piece.now.rest.now in
    let p' = c.next.new.piece.rest.now in
    let k = c.in-Ok-false.ensures.step.done (ap Ok c.in-Ok-false.field-0-test) in
    leaves_of (ap (λ z. phase_lent c.args.self.now z c.args.lent.now) (sym c.in-Known.is))
    (leaves_done c.args.is_all d _ p p' c.args.self.now.image.height refl refl refl
    (turn_whole d refl (stage_lent c.next.new.self c.next.new.stage c.next.new.lent) p p' k.0 (over_done _ k.1) c.args.is_all)
    (turn_consumed d refl _ p p' (record { header = refl; height = refl; is_open = refl; waits = refl; behind = refl; going = refl }) k.0 (over_done _ k.1) c.args.is_all))

pub returns-in-Err-clause-leaves : goal.returns-in-Err-clause-leaves
returns-in-Err-clause-leaves c =
    let d = phase_lent c.args.self.now (phase.Known c.in-Known.stage) c.args.lent.now in
    let p = c.args.piece.now.rest.now in
    let p' = c.next.new.piece.rest.now in
    leaves_of (ap (λ z. phase_lent c.args.self.now z c.args.lent.now) (sym c.in-Known.is))
    (leaves_stop c.args.is_all d _ p p' c.in-Err.fault c.outcome_of.result
    (record { more = c.outcome_of.ensures.more; broken = c.outcome_of.ensures.broken; row = c.outcome_of.ensures.row; done = c.outcome_of.ensures.done }) refl refl refl
    (λ e. let m = c.in-Err.ensures.step.more (ap Err e) in (turn_on d refl _ p p' [] (record { header = refl; height = refl; is_open = refl; waits = refl; behind = refl; going = refl }) m.0, m.1))
    (turn_broken d refl p c.in-Err.fault c.in-Err.ensures.step.err))

-- ---- before the first stripe

pub returns-in-First-clause-leaves : goal.returns-in-First-clause-leaves
returns-in-First-clause-leaves c =
    leaves_of (ap (λ z. phase_lent c.args.self.now z c.args.lent.now) (sym c.in-First.is))
    (c.step_first.ensures.leaves _ _)

-- ---- in a code

no : {P : Type 0} → ⊥ → P
no bot = absurd bot

pub returns-then-is_some-clause-leaves : goal.returns-then-is_some-clause-leaves
returns-then-is_some-clause-leaves c =
    let d = phase_lent c.args.self.now (phase.Code c.in-Code.code) c.args.lent.now in
    let p = c.args.piece.now.rest.now in
    let marker = some_of c.end_marker.result (search rules) in
    let marked : HasMarker d.walk = (marker.0, c.end_marker.ensures.some marker.0 marker.1) in
    leaves_of (ap (λ z. phase_lent c.args.self.now z c.args.lent.now) (sym c.in-Code.is))
    (rw c.start.ensures
    (leaves_on c.args.is_all d _ p p refl refl
    (on_none d _ p (λ text out s.
    let w = code_of d text out refl refl s in
    put_waits _ text out refl refl (known_open refl s.height) (waits_first (fields_of c.args.self.now.image.header) d.walk head_start text out w.walk (inr (w.in_code, marked)) w.ungiven
    (λ _. w.in_time marked) refl refl)))))

pub returns-in-Ok-true-row_before_marker-clause-leaves : goal.returns-in-Ok-true-row_before_marker-clause-leaves
returns-in-Ok-true-row_before_marker-clause-leaves c =
    let old = c.args.self.now in
    let d = phase_lent old (phase.Code c.in-Code.code) c.args.lent.now in
    let p = c.args.piece.now.rest.now in
    let p' = c.row_before_marker.new.piece.rest.now in
    let new = code_lent c.row_before_marker.new.course c.row_before_marker.new.self c.row_before_marker.new.lent in
    let unread = c.end_marker.ensures.none (none_of_some c.end_marker.result (search rules)) in
    let goes = at_first (λ image. CodeGoes image d.walk new p p' (Ok true)) (old.first (ap phase_looks c.in-Code.is))
    (subst (λ b. CodeGoes (sized (fields_of old.image.header) old.image.height) d.walk new p p' (Ok b)) c.in-Ok-true-row_before_marker.field-0-test
    (c.in-Ok-true-row_before_marker.ensures.goes unread)) in
    leaves_of (ap (λ z. phase_lent old z c.args.lent.now) (sym c.in-Code.is))
    (leaves_row c.args.is_all d _ p p' refl refl
    (λ text out s.
    let w = code_of d text out refl refl s in
    let k = goes.step.row refl text out w.walk in
    let l = goes.leaves (text, out, w.walk) in (
      k.0,
      k.1,
      put_code _ _ _ refl refl (known_more (fields_of old.image.header) old.image.height true text k.0 s.height)
          (record { walk = k.2; in_code = l.code; ungiven = l.place.given ∙ w.ungiven; in_time = λ m. no (l.unmarked refl m) }),
    ))
    (λ _ marked text out rest n s follows i. absurd ((goes.leaves (text, out, (code_of d text out refl refl s).walk)).unmarked refl marked)))

pub returns-in-Ok-false-row_before_marker-clause-leaves : goal.returns-in-Ok-false-row_before_marker-clause-leaves
returns-in-Ok-false-row_before_marker-clause-leaves c =
    let old = c.args.self.now in
    let d = phase_lent old (phase.Code c.in-Code.code) c.args.lent.now in
    let p = c.args.piece.now.rest.now in
    let p' = c.row_before_marker.new.piece.rest.now in
    let new = code_lent c.row_before_marker.new.course c.row_before_marker.new.self c.row_before_marker.new.lent in
    let unread = c.end_marker.ensures.none (none_of_some c.end_marker.result (search rules)) in
    let goes = at_first (λ image. CodeGoes image d.walk new p p' (Ok false)) (old.first (ap phase_looks c.in-Code.is))
    (subst (λ b. CodeGoes (sized (fields_of old.image.header) old.image.height) d.walk new p p' (Ok b)) c.in-Ok-false-row_before_marker.field-0-test
    (c.in-Ok-false-row_before_marker.ensures.goes unread)) in
    leaves_of (ap (λ z. phase_lent old z c.args.lent.now) (sym c.in-Code.is))
    (rw c.start-in-Ok-false-row_before_marker.ensures
    (leaves_on c.args.is_all d _ p p' refl refl (λ text out s.
    let w = code_of d text out refl refl s in
    let k = (goes.step.marker refl).0 text out w.walk in
    let e = (goes.step.marker refl).1 text out w.walk in
    let l = goes.leaves (text, out, w.walk) in
    let same : e.0 ≡ k.0 = sym (taken_is p p' e.0 e.1) ∙ taken_is p p' k.0 k.1 in (
      k.0,
      k.1,
      put_waits _ _ _ refl refl (known_open refl (known_more (fields_of old.image.header) old.image.height true text k.0 s.height))
          (waits_first (fields_of old.image.header) new head_start _ _ k.2 (inr (l.code, l.marker refl)) (l.place.given ∙ w.ungiven)
          (λ _. in_time_more [] (subst (λ z. MarkerAfterRows (sized (fields_of old.image.header) old.image.header.yd) (text ++ z) out) same e.2)) refl refl),
    ))))

pub returns-in-Err-row_before_marker-clause-leaves : goal.returns-in-Err-row_before_marker-clause-leaves
returns-in-Err-row_before_marker-clause-leaves c =
    let old = c.args.self.now in
    let d = phase_lent old (phase.Code c.in-Code.code) c.args.lent.now in
    let p = c.args.piece.now.rest.now in
    let p' = c.row_before_marker.new.piece.rest.now in
    let fault = c.in-Err-row_before_marker.fault in
    let outcome = c.outcome_of-in-Err-row_before_marker in
    let new = code_lent c.row_before_marker.new.course c.row_before_marker.new.self c.row_before_marker.new.lent in
    let goes = at_first (λ image. CodeGoes image d.walk new p p' (Err fault)) (old.first (ap phase_looks c.in-Code.is))
    (c.in-Err-row_before_marker.ensures.goes (c.end_marker.ensures.none (none_of_some c.end_marker.result (search rules)))) in
    leaves_of (ap (λ z. phase_lent old z c.args.lent.now) (sym c.in-Code.is))
    (leaves_stop c.args.is_all d _ p p' fault outcome.result
    (record { more = outcome.ensures.more; broken = outcome.ensures.broken; row = outcome.ensures.row; done = outcome.ensures.done }) refl refl refl
    (λ e. (
      (λ text out s.
          let w = code_of d text out refl refl s in
          let k = (goes.step.more (ap Err e)).0 text out w.walk in
          let l = goes.leaves (text, out, w.walk) in (
            k.0,
            k.1,
            put_code _ _ _ refl refl (known_more (fields_of old.image.header) old.image.height true text k.0 s.height)
                (record { walk = k.2; in_code = l.code; ungiven = l.place.given ∙ w.ungiven; in_time = λ m. absurd (l.unread (ap Err e) m) }),
          )),
      (goes.step.more (ap Err e)).1,
    ))
    (code_broken d p fault refl refl goes.step.err (λ some. (goes.leaves (some_code d refl refl some)).other)))
