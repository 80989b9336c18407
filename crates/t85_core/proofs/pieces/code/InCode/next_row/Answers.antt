use Rattle.std.proofs.Common.{[], ℕ, List, Some, refl, sym, subst, append-nil, arith}
use Rattle.t85_core.specs.Options.{fields_of}
use Rattle.raster_core.specs.Window.{held}
use Rattle.t85_core.specs.Lent.{code_view, code_lent}
use Rattle.t85_core.specs.Private.Pieces.{SomeStands, StepsOn}
use Rattle.t85_core.specs.States.Pieces.{WalkStands}
use Rattle.t85_core.specs.Private.RowTurns.{BegunLeaves, BegunStep}
use Rattle.t85_core.specs.States.SizedImage.{sized}
use Rattle.t85_core.proofs.BodiesDecode.WalkGoesOn.{on_same}
use Rattle.t85_core.proofs.BodiesDecode.RowEndsOrWaits.{begun_then, begun_leaves_then}
use Rattle.t85_core.proofs.pieces.code.InCode.next_row.Goals as goal

pub returns-in-Some-clause-step : goal.returns-in-Some-clause-step
returns-in-Some-clause-step c =
    subst (λ b. BegunStep (sized (fields_of c.args.image.now.header) c.args.image.now.height) (code_lent c.args.course.now (record c.args.self.now { begun = b }) c.args.lent.now)
    (code_lent c.finish_row.new.course c.finish_row.new.self c.finish_row.new.lent) c.args.piece.now.rest.now c.finish_row.new.piece.rest.now c.finish_row.result)
    (sym c.in-Some.is) c.finish_row.ensures.step

pub returns-in-Some-clause-leaves : goal.returns-in-Some-clause-leaves
returns-in-Some-clause-leaves c =
    subst (λ b. SomeStands (sized (fields_of c.args.image.now.header) c.args.image.now.height) (code_lent c.args.course.now (record c.args.self.now { begun = b }) c.args.lent.now) →
    BegunLeaves c.args.waits (code_lent c.args.course.now (record c.args.self.now { begun = b }) c.args.lent.now)
    (code_lent c.finish_row.new.course c.finish_row.new.self c.finish_row.new.lent) c.finish_row.result) (sym c.in-Some.is) c.finish_row.ensures.leaves

-- the row is entered
entered : (c : goal.After-finish_row-in-None) → (text out : List ℕ) → WalkStands (sized (fields_of c.args.image.now.header) c.args.image.now.height)
    (code_lent c.args.course.now c.args.self.now c.args.lent.now) text out →
    WalkStands (sized (fields_of c.args.image.now.header) c.args.image.now.height)
    (code_view (record c.args.course.now { kept = c.enter_row.new.kept }) (record c.args.self.now { begun = Some c.start-place.result })
    (held c.enter_row.new.window) c.args.lent.now.learned.now) text out
entered c text out w =
    c.enter_row.ensures.enters (fields_of c.args.image.now.header) c.args.image.now.height c.args.course.now c.start-place.result c.args.lent.now.learned.now text out c.in-None.is c.requires.left
    (record { is_begun = c.start-place.ensures.none; done = c.start-place.ensures.done; past = c.start-place.ensures.past })
    (omega (arith, c.start-place.ensures.done, c.args.image.now.header.some_width)) w

-- no byte is taken
entered_on : (c : goal.After-finish_row-in-None) →
    StepsOn (sized (fields_of c.args.image.now.header) c.args.image.now.height) (code_lent c.args.course.now c.args.self.now c.args.lent.now)
    (code_view (record c.args.course.now { kept = c.enter_row.new.kept }) (record c.args.self.now { begun = Some c.start-place.result })
    (held c.enter_row.new.window) c.args.lent.now.learned.now) c.args.piece.now.rest.now c.args.piece.now.rest.now []
entered_on c = λ text out w. on_same (fields_of c.args.image.now.header) c.args.image.now.height
    (code_view (record c.args.course.now { kept = c.enter_row.new.kept }) (record c.args.self.now { begun = Some c.start-place.result })
    (held c.enter_row.new.window) c.args.lent.now.learned.now) text out c.args.piece.now.rest.now c.args.piece.now.rest.now [] refl
    (subst (λ z. WalkStands (sized (fields_of c.args.image.now.header) c.args.image.now.height)
    (code_view (record c.args.course.now { kept = c.enter_row.new.kept }) (record c.args.self.now { begun = Some c.start-place.result })
    (held c.enter_row.new.window) c.args.lent.now.learned.now) z out) (sym (append-nil text)) (entered c text out w))

pub returns-in-None-clause-step : goal.returns-in-None-clause-step
returns-in-None-clause-step c = begun_then (entered_on c) (record { entities = refl; left = refl; given = refl; at = refl })
    (refl, refl, refl) c.finish_row-in-None.result c.finish_row-in-None.ensures.step

pub returns-in-None-clause-leaves : goal.returns-in-None-clause-leaves
returns-in-None-clause-leaves c = λ some. begun_leaves_then (entered_on c) (record { entities = refl; left = refl; given = refl; at = refl }) (refl, refl, refl)
    (c.finish_row-in-None.ensures.leaves (some.0, some.1, entered c some.0 some.1 some.2))
