use Rattle.std.proofs.Common.{◌≡◌, ◌≤◌, ◌<◌, ◌-◌, true, min, refl, ap, arith}
use Rattle.t85_core.specs.Lent.{phase_lent, decoder_lent, stage_lent}
use Rattle.t85_core.specs.Stages.{code_kind, stage_behind}
use Rattle.t85_core.specs.Private.StripeEnds.{EndsAtMarker}
use Rattle.t85_core.specs.declared.pieces.course.Stage.TheVariants as stage
use Rattle.t85_core.specs.declared.pieces.phase.Phase.TheVariants as phase
use Rattle.t85_core.proofs.BodiesDecode.NoHeightIsBelow.{leaves_height}
use Rattle.t85_core.proofs.BodiesDecode.DecoderLooksBehind.{height_over, late_consumed, late_whole, raised_on}
use Rattle.t85_core.proofs.BodiesDecode.StripeIsOver.{head_over, more_follow, not_last_in}
use Rattle.t85_core.proofs.BodiesDecode.WalkGoesOn.{in_code_of}
use Rattle.t85_core.proofs.BodiesDecode.PieceStands.{at_first, leaves_done, leaves_on, on_where, row_where}
use Rattle.t85_core.proofs.pieces.PieceDecoder.take_height.Goals as goal

pub returns-then-behind-min-clause-leaves : goal.returns-then-behind-min-clause-leaves
returns-then-behind-min-clause-leaves c = λ is_all.
    let d = phase_lent c.args.self.now (phase.Behind c.args.behind) c.args.lent.now in
    row_where is_all d (decoder_lent c.give_row.new.self c.give_row.new.lent) c.args.piece.now.rest.now c.args.piece.now.rest.now c.give_row.ensures.same.0 c.give_row.ensures.same.1 (λ some.
    leaves_height d (decoder_lent c.give_row.new.self c.give_row.new.lent) refl refl c.min.result
    (c.give_row.ensures.gives c.min.result c.if-behind-min.true some) c.args.height c.args.piece.now.rest.now c.args.rest.now c.requires.between c.requires.comes
    (let e = c.min.ensures in omega (arith, e)) is_all)

pub returns-then-left-self-clause-leaves : goal.returns-then-left-self-clause-leaves
returns-then-left-self-clause-leaves c = λ is_all.
    let d = phase_lent c.args.self.now (phase.Behind c.args.behind) c.args.lent.now in
    let code = in_code_of c.args.behind.code.begun in
    let fits : c.args.self.now.course.left - (c.args.self.now.image.header.yd - c.args.height) ≤ c.args.self.now.image.header.l0 = c.if-left-self.true in
    let few : c.args.self.now.course.left - (c.args.self.now.image.header.yd - c.args.height) ≤ c.args.behind.code.row =
    (let least = c.min.ensures in let given = c.if-behind-min.false in omega (arith, least, given, fits)) in
    leaves_done is_all d _ c.args.piece.now.rest.now c.args.rest.now c.args.height refl refl refl
    (late_whole d c.coder_laws.ensures c.args.height c.args.piece.now.rest.now c.args.rest.now refl refl c.requires.between code c.requires.comes fits few is_all)
    (late_consumed d c.coder_laws.ensures c.args.height c.args.piece.now.rest.now c.args.rest.now refl refl c.requires.between code c.requires.comes fits few d is_all refl)

pub returns-clause-leaves : goal.returns-clause-leaves
returns-clause-leaves c = λ is_all.
    let old = c.args.self.now in
    let d = phase_lent old (phase.Behind c.args.behind) c.args.lent.now in
    let code = in_code_of c.args.behind.code.begun in
    let over : old.image.header.l0 < old.course.left - (old.image.header.yd - c.args.height) = (let more = c.if-left-self.false in omega (arith, more)) in
    let wide : old.image.header.l0 < old.course.left = omega (arith, over) in
    let all : min old.course.left old.image.header.l0 ≤ c.args.behind.code.row = (let least = c.min.ensures in let given = c.if-behind-min.false in omega (arith, least, given, over, wide)) in
    let ended = stage_lent c.end_stripe-follows.new.self (stage_behind c.end_stripe-follows.result) c.end_stripe-follows.new.lent in
    let ends = at_first (λ image. EndsAtMarker image c.resets-reset.result d.walk ended) c.requires.open (c.end_stripe-follows.ensures.ends c.args.behind.code) in
    let less = (c.end_stripe-follows.ensures.counts.more (more_follow c.end_stripe-follows.result old.image.header.l0 c.end_stripe-follows.ensures.counts wide)).1 in
    let left : (old.course.left - (old.image.header.yd - c.args.height)) - old.image.header.l0 ≡ c.end_stripe-follows.new.self.left - (old.image.header.yd - c.args.height) =
    (let e = c.end_stripe-follows.ensures.counts.more (more_follow c.end_stripe-follows.result old.image.header.l0 c.end_stripe-follows.ensures.counts wide) in let is = e.1 in
    omega (arith, is)) in
    on_where is_all d _ c.args.piece.now.rest.now c.args.rest.now refl refl (λ some.
    let h = head_over refl refl some code all c.resets-reset.ensures ends (not_last_in (code_kind c.args.behind.code.begun) old.course.left old.image.header.l0 code wide) in
    leaves_on is_all d _ c.args.piece.now.rest.now c.args.rest.now refl refl
    (raised_on d _ _ c.args.height c.args.piece.now.rest.now c.args.rest.now refl refl h c.requires.between c.requires.comes
    (height_over d _ c.args.height c.args.piece.now.rest.now c.args.rest.now refl refl some h c.requires.comes (λ _. over))
    refl refl refl (ap (λ m. record (stage_lent c.end_stripe-follows.new.self (stage.Head c.args.behind.head) c.end_stripe-follows.new.lent) { left = m; given = true }) left)))
