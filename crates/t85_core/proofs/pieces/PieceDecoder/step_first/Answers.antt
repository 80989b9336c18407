use Rattle.std.proofs.Common.{◌≡◌, ◌-◌, ◌*◌, List, ℕ, Some, false, true, ap, refl, subst, rules, arith}
use Rattle.qm_core.specs.Place.{Estimate}
use Rattle.raster_core.specs.Packed.{Held}
use Rattle.t85_core.specs.declared.fault.Fault.TheVariants.{Truncated}
use Rattle.t85_core.specs.declared.pieces.Outcome.TheVariants as outcome
use Rattle.t85_core.specs.declared.pieces.head.Head.{Head}
use Rattle.t85_core.specs.declared.pieces.PieceDecoder.{PieceDecoder}
use Rattle.t85_core.specs.declared.pieces.course.Stage.TheVariants as stage
use Rattle.t85_core.specs.declared.pieces.phase.Phase.TheVariants as phase
use Rattle.t85_core.specs.Grammar.{is_valid_length}
use Rattle.t85_core.specs.Lent.{PieceView, phase_view, stage_view}
use Rattle.t85_core.specs.Options.{fields_of}
use Rattle.t85_core.specs.Private.Behind.{StopsBehind}
use Rattle.t85_core.specs.States.Behind.{behind_at}
use Rattle.t85_core.specs.Private.PieceSteps.{HeadEntered, HeightComes, KeepsDecoder, SomeStand}
use Rattle.t85_core.proofs.BodiesDecode.SegmentsPrecedeCode.{started_view}
use Rattle.t85_core.proofs.BodiesDecode.DecoderLooksBehind.{passed_behind, raised_on}
use Rattle.t85_core.proofs.BodiesDecode.HeightStaysOpen.{still_open}
use Rattle.t85_core.proofs.BodiesDecode.PieceStands.{behind_broken, broken_where, closed_none, code_entered, entered, leaves_after, leaves_broken, leaves_more, leaves_on, not_head, on_none, on_where}
use Rattle.t85_core.proofs.pieces.PieceDecoder.step_first.Goals as goal

-- the decoder there, with these marker segments
abbrev at_first : PieceDecoder → Head → Held → List Estimate → PieceView
at_first d head rows learned = phase_view d (phase.First head) rows learned

-- the same, if no height may follow
abbrev in_head : PieceDecoder → Head → Held → List Estimate → PieceView
in_head d head rows learned = record (at_first d head rows learned) { walk = stage_view d.course (stage.Head head) rows learned }

enters : (d : PieceDecoder) (head : Head) (rows : Held) (learned : List Estimate) → SomeStand (at_first d head rows learned) → HeadEntered (at_first d head rows learned) (in_head d head rows learned)
enters d head rows learned some =
    let here = at_first d head rows learned in
    let keeps : KeepsDecoder here here = record { header = refl; height = refl; is_open = refl; waits = refl; behind = refl; going = refl } in
    entered here here (in_head d head rows learned) (closed_none here here refl refl some (not_head _ refl) keeps refl)
    (record { header = refl; height = refl; is_open = refl; waits = refl; behind = refl; going = refl }) refl refl

pub returns-then-is_open_end-clause-leaves : goal.returns-then-is_open_end-clause-leaves
returns-then-is_open_end-clause-leaves c = λ rows learned.
    let d = at_first c.args.self.now c.args.head rows learned in
    let here = at_first c.args.self.now c.pass.new.self rows learned in
    let ended = (c.is_open_end.ensures.yes (search rules)).0 in
    let stops = subst (λ z. StopsBehind (fields_of c.args.self.now.image.header) (behind_at z false) c.pass.new.self c.pass.new.piece.rest.now Truncated) c.place_of.ensures
    (subst (StopsBehind (fields_of c.args.self.now.image.header) (behind_at c.place_of.result false) c.pass.new.self c.pass.new.piece.rest.now) ended c.in-Err.ensures.err) in
    leaves_after c.args.is_all d here here c.args.piece.now.rest.now c.pass.new.piece.rest.now c.pass.new.piece.rest.now refl refl
    (passed_behind d here c.args.head c.pass.new.self c.args.piece.now.rest.now c.pass.new.piece.rest.now _ false refl refl refl refl refl refl refl refl refl c.place_of.ensures refl
    (c.pass.ensures.on c.place_of.result.given)) (Some outcome.More)
    (leaves_more c.args.is_all here here c.pass.new.piece.rest.now c.pass.new.piece.rest.now refl refl (c.is_open_end.ensures.yes (search rules)).1 refl refl
    (on_none here here c.pass.new.piece.rest.now (λ text out s. s)) (c.in-Err.ensures.err.few ended) (still_open here c.pass.new.piece.rest.now refl refl stops))

pub returns-else-is_open_end-clause-leaves : goal.returns-else-is_open_end-clause-leaves
returns-else-is_open_end-clause-leaves c = λ rows learned.
    let d = at_first c.args.self.now c.args.head rows learned in
    let here = at_first c.args.self.now c.pass.new.self rows learned in
    let stops = subst (λ z. StopsBehind (fields_of c.args.self.now.image.header)
    (behind_at z false) c.pass.new.self c.pass.new.piece.rest.now c.in-Err.fault) c.place_of.ensures c.in-Err.ensures.err in
    leaves_after c.args.is_all d here here c.args.piece.now.rest.now c.pass.new.piece.rest.now c.pass.new.piece.rest.now refl refl
    (passed_behind d here c.args.head c.pass.new.self c.args.piece.now.rest.now c.pass.new.piece.rest.now _ false refl refl refl refl refl refl refl refl refl c.place_of.ensures refl
    (c.pass.ensures.on c.place_of.result.given)) (Some (outcome.Broken c.in-Err.fault))
    (broken_where c.args.is_all here here c.pass.new.piece.rest.now c.pass.new.piece.rest.now refl refl c.in-Err.fault (λ some.
    leaves_broken c.args.is_all here here c.pass.new.piece.rest.now c.pass.new.piece.rest.now c.in-Err.fault refl refl
    (behind_broken here (in_head c.args.self.now c.pass.new.self rows learned) c.coder_laws.ensures refl refl
    (enters c.args.self.now c.pass.new.self rows learned some) c.pass.new.piece.rest.now c.in-Err.fault stops c.args.is_all (c.is_open_end.ensures.no (search rules)))))

pub returns-in-Height-clause-leaves : goal.returns-in-Height-clause-leaves
returns-in-Height-clause-leaves c = λ rows learned.
    let d = at_first c.args.self.now c.args.head rows learned in
    let here = at_first c.args.self.now c.pass.new.self rows learned in
    let came = c.in-Ok.ensures.ok in
    let k = rw c.in-Height.is at came.1 in
    let comes : HeightComes (fields_of c.args.self.now.image.header) here.walk c.in-Height.height c.pass.new.piece.rest.now c.in-Ok.coming.rest.now = record {
      valid = subst (λ e. is_valid_length (fields_of c.args.self.now.image.header) e c.in-Height.height ≡ true) (ap (λ p. p.entities) c.place_of.ensures) k.0;
      legal = k.1;
      piece_is = k.2;
    } in
    let old = c.args.self.now in
    let none : old.course.entities * old.image.header.l0 ≡ 0 * old.image.header.l0 = ap (λ (m : ℕ). m * old.image.header.l0) c.requires.none in
    let nothing : 0 * old.image.header.l0 ≡ 0 = omega arith in
    let some_rows = k.1.1 in
    let within = k.1.2 in
    let left : c.in-Height.height ≡ old.course.left - (old.image.header.yd - c.in-Height.height) =
    (let counts = old.counts in let first = c.requires.open in omega (arith, none, nothing, counts, first, within)) in
    leaves_after c.args.is_all d here _ c.args.piece.now.rest.now c.pass.new.piece.rest.now c.in-Ok.coming.rest.now refl refl
    (passed_behind d here c.args.head c.pass.new.self c.args.piece.now.rest.now c.pass.new.piece.rest.now _ false refl refl refl refl refl refl refl refl refl c.place_of.ensures refl
    (c.pass.ensures.on c.place_of.result.given)) _
    (on_where c.args.is_all here _ c.pass.new.piece.rest.now c.in-Ok.coming.rest.now refl refl (λ some.
    leaves_on c.args.is_all here _ c.pass.new.piece.rest.now c.in-Ok.coming.rest.now refl refl
    (raised_on here (in_head c.args.self.now c.pass.new.self rows learned) _ c.in-Height.height c.pass.new.piece.rest.now c.in-Ok.coming.rest.now refl refl
    (enters c.args.self.now c.pass.new.self rows learned some) came.0 comes (omega (arith, none, nothing, some_rows))
    refl refl refl (ap (λ m. record (in_head old c.pass.new.self rows learned).walk { left = m; given = true }) left))))

pub returns-in-Code-clause-leaves : goal.returns-in-Code-clause-leaves
returns-in-Code-clause-leaves c = λ rows learned.
    let d = at_first c.args.self.now c.args.head rows learned in
    let here = at_first c.args.self.now c.pass.new.self rows learned in
    let came = c.in-Ok.ensures.ok in
    let k = rw c.in-Code.is at came.1 in
    leaves_after c.args.is_all d here _ c.args.piece.now.rest.now c.pass.new.piece.rest.now c.in-Ok.coming.rest.now refl refl
    (passed_behind d here c.args.head c.pass.new.self c.args.piece.now.rest.now c.pass.new.piece.rest.now _ false refl refl refl refl refl refl refl refl refl c.place_of.ensures refl
    (c.pass.ensures.on c.place_of.result.given)) _
    (on_where c.args.is_all here _ c.pass.new.piece.rest.now c.in-Ok.coming.rest.now refl refl (λ some.
    leaves_on c.args.is_all here _ c.pass.new.piece.rest.now c.in-Ok.coming.rest.now refl refl
    (code_entered c.coder_laws.ensures here (in_head c.args.self.now c.pass.new.self rows learned) _ c.in-Code.code c.start-self.result c.pass.new.piece.rest.now c.in-Ok.coming.rest.now refl refl
    (enters c.args.self.now c.pass.new.self rows learned some) came.0 k.0 c.start-self.ensures.stands k.1 refl refl refl refl
    (started_view (record c.args.self.now.course { decoder = c.start-self.result }) rows learned c.start.ensures))))
