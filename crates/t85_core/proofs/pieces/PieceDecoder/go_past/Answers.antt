use Rattle.std.proofs.Common.{◌≡◌, ◌≤◌, Bool, true, false, Result, Ok, Err, min, refl, sym, subst, arith}
use Rattle.std.specs.Prelude.{IfOk, IfErr}
use Rattle.raster_core.specs.Window.{held}
use Rattle.t85_core.specs.declared.fault.Fault.{Fault}
use Rattle.t85_core.specs.declared.pieces.phase.Phase.TheVariants as phase
use Rattle.t85_core.specs.Lent.{decoder_lent, phase_lent, stage_lent}
use Rattle.t85_core.specs.Options.{fields_of}
use Rattle.t85_core.specs.Stages.{code_kind, stage_behind}
use Rattle.t85_core.specs.Private.Behind.{StopsBehind}
use Rattle.t85_core.specs.States.Behind.{behind_at}
use Rattle.t85_core.specs.Private.PieceSteps.{EndsConsumed, EndsWhole, LookIsOver, is_last_of, place_after}
use Rattle.t85_core.specs.Private.StripeEnds.{EndsAtMarker}
use Rattle.t85_core.proofs.BodiesDecode.SegmentsPrecedeCode.{started_view}
use Rattle.t85_core.proofs.BodiesDecode.NoHeightFollows.{look_consumed, look_whole}
use Rattle.t85_core.proofs.BodiesDecode.NoHeightIsBelow.{leaves_code, leaves_fault, leaves_look}
use Rattle.t85_core.proofs.BodiesDecode.DecoderLooksBehind.{look_code, look_fault, own_first}
use Rattle.t85_core.proofs.BodiesDecode.StripeIsOver.{head_over, last_in, not_last_in, stripe_over}
use Rattle.t85_core.proofs.BodiesDecode.WalkGoesOn.{in_code_of}
use Rattle.t85_core.proofs.BodiesDecode.PieceStands.{at_first, behind_broken, broken_where, code_entered, done_where, leaves_broken, leaves_done, leaves_on, on_where, own_height, row_where}
use Rattle.t85_core.proofs.pieces.PieceDecoder.go_past.Goals as goal

-- by what comes next
by_next : {T : Type 0} {Q : Type 0} {A : T → Type 0} {B : Fault → Type 0} (r : Result T Fault) → IfOk r A → IfErr r B → ((t : T) → A t → Q) → ((f : Fault) → B f → Q) → Q
by_next (Ok t) a b ok err = ok t a
by_next (Err f) a b ok err = err f b

by_last : {Q : Type 0} (b : Bool) → (b ≡ true → Q) → (b ≡ false → Q) → Q
by_last true last more = last refl
by_last false last more = more refl

pub returns-then-behind-min-clause-leaves : goal.returns-then-behind-min-clause-leaves
returns-then-behind-min-clause-leaves c =
    let d = phase_lent c.args.self.now (phase.Behind c.args.behind) c.args.lent.now in
    let d' = decoder_lent c.give_row.new.self c.give_row.new.lent in
    let p = c.args.piece.now.rest.now in
    let least = c.min.ensures in
    row_where c.args.is_all d d' p p c.give_row.ensures.same.0 c.give_row.ensures.same.1 (λ some.
    let gives = c.give_row.ensures.gives c.min.result c.if-behind-min.true some in
    by_last (is_last_of c.args.self.now c.args.behind)
    (λ last. leaves_look d d' refl refl c.min.result gives p c.args.is_all last (λ back rest s follows. by_next c.args.next c.requires.code c.requires.fault
    (λ t k. look_code refl s t.0 p t.1.now rest k.0 k.2)
    (λ f k. look_fault refl s p rest f (own_height c.args.self.now.image.header).accepted.height_to (some.2.height.variable refl)
    (subst (λ l. StopsBehind (fields_of c.args.self.now.image.header) (behind_at (place_after c.args.self.now c.args.behind) l) c.args.behind.head p f) last k.1) (λ t. follows (k.0 t))))
    (omega (arith, least)))
    (λ more. by_next c.args.next c.requires.code c.requires.fault
    (λ t k. leaves_code d d' refl refl c.min.result gives t.0 p t.1.now k.0 more k.1 k.2 (omega (arith, least)) c.args.is_all)
    (λ f k. leaves_fault d d' refl refl c.min.result gives f p more
    (subst (λ l. StopsBehind (fields_of c.args.self.now.image.header) (behind_at (place_after c.args.self.now c.args.behind) l) c.args.behind.head p f) more k.1)
    (omega (arith, least)) (omega (arith, least)) c.args.is_all k.0)))

pub returns-then-not-follows-clause-leaves : goal.returns-then-not-follows-clause-leaves
returns-then-not-follows-clause-leaves c =
    let d = phase_lent c.args.self.now (phase.Behind c.args.behind) c.args.lent.now in
    let p = c.args.piece.now.rest.now in
    let code = in_code_of c.args.behind.code.begun in
    let few = (c.end_stripe-follows.ensures.counts.last c.if-not-follows.true).0 in
    let last = last_in (code_kind c.args.behind.code.begun) c.args.self.now.course.left c.args.self.now.image.header.l0 code few in
    let all : min c.args.self.now.course.left c.args.self.now.image.header.l0 ≤ c.args.behind.code.row =
    (let least = c.min.ensures in let given = c.if-behind-min.false in omega (arith, least, given)) in
    let there = stage_lent c.end_stripe-follows.new.self (stage_behind c.end_stripe-follows.result) c.end_stripe-follows.new.lent in
    let ends = at_first (λ image. EndsAtMarker image c.resets-reset.result d.walk there) c.requires.open (c.end_stripe-follows.ensures.ends c.args.behind.code) in
    done_where c.args.is_all d _ p p refl refl c.args.self.now.image.height refl (λ some.
    let over : LookIsOver c.args.is_all d p = λ back rest s follows. by_next c.args.next c.requires.code c.requires.fault
    (λ t k. look_code refl s t.0 p t.1.now rest k.0 k.2)
    (λ f k. look_fault refl s p rest f (own_height c.args.self.now.image.header).accepted.height_to (some.2.height.variable refl)
    (subst (λ l. StopsBehind (fields_of c.args.self.now.image.header) (behind_at (place_after c.args.self.now c.args.behind) l) c.args.behind.head p f) last k.1) (λ t. follows (k.0 t))) in
    let e = stripe_over refl refl some code all c.resets-reset.ensures ends in
    let height = sym (own_first d refl some) in
    leaves_done c.args.is_all d _ p p _ refl refl refl
    (subst (EndsWhole c.args.is_all d p) height (look_whole d (record d { walk = there }) p c.args.is_all c.coder_laws.ensures refl refl last over e))
    (subst (EndsConsumed c.args.is_all d (record d { waits = false }) p p) height
    (look_consumed d (record d { walk = there }) p c.args.is_all c.coder_laws.ensures refl refl last over e (record d { waits = false }) refl)))

pub returns-in-Ok-clause-leaves : goal.returns-in-Ok-clause-leaves
returns-in-Ok-clause-leaves c =
    let d = phase_lent c.args.self.now (phase.Behind c.args.behind) c.args.lent.now in
    let p = c.args.piece.now.rest.now in
    let k = rw c.in-Ok.is at c.requires.code in
    let code = in_code_of c.args.behind.code.begun in
    let wide = (c.end_stripe-follows.ensures.counts.more c.if-not-follows.false).0 in
    let all : min c.args.self.now.course.left c.args.self.now.image.header.l0 ≤ c.args.behind.code.row =
    (let least = c.min.ensures in let given = c.if-behind-min.false in omega (arith, least, given)) in
    let ended = stage_lent c.end_stripe-follows.new.self (stage_behind c.end_stripe-follows.result) c.end_stripe-follows.new.lent in
    let ends = at_first (λ image. EndsAtMarker image c.resets-reset.result d.walk ended) c.requires.open (c.end_stripe-follows.ensures.ends c.args.behind.code) in
    on_where c.args.is_all d _ p c.in-Ok.rest.now refl refl (λ some.
    let h = head_over refl refl some code all c.resets-reset.ensures ends (not_last_in (code_kind c.args.behind.code.begun) c.args.self.now.course.left c.args.self.now.image.header.l0 code wide) in
    leaves_on c.args.is_all d _ p c.in-Ok.rest.now refl refl
    (code_entered c.coder_laws.ensures d _ _ c.in-Ok.code c.start-self.result p c.in-Ok.rest.now refl refl h k.0 k.1 c.start-self.ensures.stands k.2 refl refl refl refl
    (started_view (record c.end_stripe-follows.new.self { decoder = c.start-self.result }) (held c.end_stripe-follows.new.lent.window.now) c.end_stripe-follows.new.lent.learned.now c.start.ensures)))

pub returns-in-Err-clause-leaves : goal.returns-in-Err-clause-leaves
returns-in-Err-clause-leaves c =
    let d = phase_lent c.args.self.now (phase.Behind c.args.behind) c.args.lent.now in
    let p = c.args.piece.now.rest.now in
    let k = rw c.in-Err.is at c.requires.fault in
    let code = in_code_of c.args.behind.code.begun in
    let wide = (c.end_stripe-follows.ensures.counts.more c.if-not-follows.false).0 in
    let all : min c.args.self.now.course.left c.args.self.now.image.header.l0 ≤ c.args.behind.code.row =
    (let least = c.min.ensures in let given = c.if-behind-min.false in omega (arith, least, given)) in
    let more = not_last_in (code_kind c.args.behind.code.begun) c.args.self.now.course.left c.args.self.now.image.header.l0 code wide in
    let ended = stage_lent c.end_stripe-follows.new.self (stage_behind c.end_stripe-follows.result) c.end_stripe-follows.new.lent in
    let ends = at_first (λ image. EndsAtMarker image c.resets-reset.result d.walk ended) c.requires.open (c.end_stripe-follows.ensures.ends c.args.behind.code) in
    broken_where c.args.is_all d _ p p refl refl c.in-Err.fault (λ some.
    leaves_broken c.args.is_all d _ p p c.in-Err.fault refl refl
    (behind_broken d _ c.coder_laws.ensures refl refl (head_over refl refl some code all c.resets-reset.ensures ends more) p c.in-Err.fault
    (subst (λ l. StopsBehind (fields_of c.args.self.now.image.header) (behind_at (place_after c.args.self.now c.args.behind) l) c.args.behind.head p c.in-Err.fault) more k.1) c.args.is_all k.0))
