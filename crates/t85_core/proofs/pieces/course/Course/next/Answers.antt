use Rattle.std.proofs.Common.{◌≤◌, [], Ok, Err, min, ap, refl, sym, subst, ◌∙◌, arith}
use Rattle.raster_core.specs.Window.{held}
use Rattle.t85_core.specs.Options.{fields_of}
use Rattle.t85_core.specs.Lent.{code_lent, stage_lent}
use Rattle.t85_core.specs.Stages.{stage_behind}
use Rattle.t85_core.specs.declared.pieces.course.Stage.TheVariants as stage
use Rattle.t85_core.specs.States.SizedImage.{sized}
use Rattle.t85_core.specs.Private.Pieces.{StepsOn}
use Rattle.t85_core.proofs.BodiesDecode.WalkGoesOn.{counts_kept, counts_then, ended_counts, ends_on, in_code_of, on_then, off_then, stays, turn_exit, turn_row}
use Rattle.t85_core.proofs.BodiesDecode.RowEndsOrWaits.{is_row, row_on}
use Rattle.t85_core.proofs.pieces.course.Course.next.Goals as goal

pub steps-init : goal.steps-init
steps-init c = record {
  lends = (refl, refl, (refl, refl));
  counts = λ e. e;
  no_more = omega arith;
  so_far = stays (fields_of c.args.image.now.header) c.args.image.now.height (stage_lent c.args.self.now c.args.stage.now c.args.lent.now) c.args.piece.now.rest.now;
}

pub steps-preserved-in-Head : goal.steps-preserved-in-Head
steps-preserved-in-Head c =
    let on = subst (λ z. StepsOn (sized (fields_of c.args.image.now.header) c.args.image.now.height) (stage_lent c.args.self.now c.args.stage.now c.args.lent.now)
    (stage_lent c.steps.self z c.steps.lent) c.args.piece.now.rest.now c.steps.piece.rest.now []) c.in-Head.is c.steps.invariant.so_far in
    let step = c.in_ok-next-in-Head.ensures.step (held c.steps.lent.window.now) c.steps.lent.learned.now in
    record {
      lends = c.steps.invariant.lends;
      no_more = (let now_left = c.read_head.ensures.no_more in let was_left = c.steps.invariant.no_more in omega (arith, now_left, was_left));
      counts = counts_then (sized (fields_of c.args.image.now.header) c.args.image.now.height) c.args.self.now c.steps.self c.read_head.new.self c.steps.invariant.counts
          (counts_kept (sized (fields_of c.args.image.now.header) c.args.image.now.height) c.steps.self c.read_head.new.self c.read_head.ensures.counts);
      so_far = on_then (fields_of c.args.image.now.header) c.args.image.now.height (stage_lent c.args.self.now c.args.stage.now c.args.lent.now) _ c.args.piece.now.rest.now c.steps.piece.rest.now on
          (stage_lent c.read_head.new.self c.in_ok-next-in-Head.next c.steps.lent) c.read_head.new.piece.rest.now [] step.ok;
    }

pub returns-in_err-next-in-Head-clause-step : goal.returns-in_err-next-in-Head-clause-step
returns-in_err-next-in-Head-clause-step c =
    let on = subst (λ z. StepsOn (sized (fields_of c.args.image.now.header) c.args.image.now.height) (stage_lent c.args.self.now c.args.stage.now c.args.lent.now)
    (stage_lent c.steps.self z c.steps.lent) c.args.piece.now.rest.now c.steps.piece.rest.now []) c.in-Head.is c.steps.invariant.so_far in
    let step = c.in_err-next-in-Head.ensures.step (held c.steps.lent.window.now) c.steps.lent.learned.now in
    turn_exit (fields_of c.args.image.now.header) c.args.image.now.height (stage_lent c.args.self.now c.args.stage.now c.args.lent.now)
    (stage_lent c.read_head.new.self (stage.Head c.read_head.new.head) c.steps.lent) c.args.piece.now.rest.now c.read_head.new.piece.rest.now c.from_residual.result _ c.from_residual.ensures.1
    (off_then (fields_of c.args.image.now.header) c.args.image.now.height
    (stage_lent c.args.self.now c.args.stage.now c.args.lent.now) _ c.args.piece.now.rest.now c.steps.piece.rest.now on _ step.err)
    (λ e. let m = step.more (ap Err e) in (
      on_then (fields_of c.args.image.now.header) c.args.image.now.height
          (stage_lent c.args.self.now c.args.stage.now c.args.lent.now) _ c.args.piece.now.rest.now c.steps.piece.rest.now on
          (stage_lent c.read_head.new.self (stage.Head c.read_head.new.head) c.steps.lent) c.read_head.new.piece.rest.now [] m.0,
      m.1,
    ))

pub returns-in_err-next_row-in-Code-clause-step : goal.returns-in_err-next_row-in-Code-clause-step
returns-in_err-next_row-in-Code-clause-step c =
    let on = subst (λ z. StepsOn (sized (fields_of c.args.image.now.header) c.args.image.now.height) (stage_lent c.args.self.now c.args.stage.now c.args.lent.now)
    (stage_lent c.steps.self z c.steps.lent) c.args.piece.now.rest.now c.steps.piece.rest.now []) c.in-Code.is c.steps.invariant.so_far in
    let step = c.in_err-next_row-in-Code.ensures.step in
    turn_exit (fields_of c.args.image.now.header) c.args.image.now.height (stage_lent c.args.self.now c.args.stage.now c.args.lent.now)
    (code_lent c.next_row.new.course c.next_row.new.self c.next_row.new.lent) c.args.piece.now.rest.now c.next_row.new.piece.rest.now c.from_residual-in_err-next_row-in-Code.result
    _ c.from_residual-in_err-next_row-in-Code.ensures.1
    (off_then (fields_of c.args.image.now.header) c.args.image.now.height (stage_lent c.args.self.now c.args.stage.now c.args.lent.now)
    (code_lent c.steps.self c.in-Code.code c.steps.lent) c.args.piece.now.rest.now c.steps.piece.rest.now on _ step.err)
    (λ e. let m = step.more (ap Err e) in (
      on_then (fields_of c.args.image.now.header) c.args.image.now.height (stage_lent c.args.self.now c.args.stage.now c.args.lent.now)
          (code_lent c.steps.self c.in-Code.code c.steps.lent) c.args.piece.now.rest.now c.steps.piece.rest.now on
          (code_lent c.next_row.new.course c.next_row.new.self c.next_row.new.lent) c.next_row.new.piece.rest.now [] m.0,
      m.1,
    ))

pub returns-then-code-min-clause-step : goal.returns-then-code-min-clause-step
returns-then-code-min-clause-step c =
    let on = subst (λ z. StepsOn (sized (fields_of c.args.image.now.header) c.args.image.now.height) (stage_lent c.args.self.now c.args.stage.now c.args.lent.now)
    (stage_lent c.steps.self z c.steps.lent) c.args.piece.now.rest.now c.steps.piece.rest.now []) c.in-Code.is c.steps.invariant.so_far in
    turn_row (fields_of c.args.image.now.header) c.args.image.now.height (stage_lent c.args.self.now c.args.stage.now c.args.lent.now)
    (code_lent c.next_row.new.course c.next_row.new.self c.next_row.new.lent) c.args.piece.now.rest.now c.next_row.new.piece.rest.now
    (on_then (fields_of c.args.image.now.header) c.args.image.now.height (stage_lent c.args.self.now c.args.stage.now c.args.lent.now)
    (code_lent c.steps.self c.in-Code.code c.steps.lent) c.args.piece.now.rest.now c.steps.piece.rest.now on
    (code_lent c.next_row.new.course c.next_row.new.self c.next_row.new.lent) c.next_row.new.piece.rest.now (held c.next_row.new.lent.window.now).current
    (row_on c.in_ok-next_row-in-Code.field-0 c.in_ok-next_row-in-Code.ensures.step c.in_ok-next_row-in-Code.ensures.leaves))

pub returns-then-code-min-clause-code : goal.returns-then-code-min-clause-code
returns-then-code-min-clause-code c = λ some _.
    let on = subst (λ z. StepsOn (sized (fields_of c.args.image.now.header) c.args.image.now.height) (stage_lent c.args.self.now c.args.stage.now c.args.lent.now)
    (stage_lent c.steps.self z c.steps.lent) c.args.piece.now.rest.now c.steps.piece.rest.now []) c.in-Code.is c.steps.invariant.so_far in
    let leaves = c.in_ok-next_row-in-Code.ensures.leaves (_, _, (on some.0 some.1 some.2).2) in
    (leaves.row (ap Ok (is_row c.in_ok-next_row-in-Code.field-0 leaves))).1

pub returns-in_err-reset-in-Code-clause-step : goal.returns-in_err-reset-in-Code-clause-step
returns-in_err-reset-in-Code-clause-step c =
    let on = subst (λ z. StepsOn (sized (fields_of c.args.image.now.header) c.args.image.now.height) (stage_lent c.args.self.now c.args.stage.now c.args.lent.now)
    (stage_lent c.steps.self z c.steps.lent) c.args.piece.now.rest.now c.steps.piece.rest.now []) c.in-Code.is c.steps.invariant.so_far in
    let all : min c.steps.self.left c.args.image.now.header.l0 ≤ c.in-Code.code.row = (let le = c.if-code-min.false in let min_is = c.min.ensures in omega (arith, le, min_is)) in
    let step = c.in_err-reset-in-Code.ensures.step c.steps.self (held c.steps.lent.window.now) c.steps.lent.learned.now all in
    turn_exit (fields_of c.args.image.now.header) c.args.image.now.height (stage_lent c.args.self.now c.args.stage.now c.args.lent.now)
    (code_lent c.steps.self c.find_end.new.self c.steps.lent) c.args.piece.now.rest.now c.find_end.new.piece.rest.now c.from_residual-in_err-reset-in-Code.result
    _ c.from_residual-in_err-reset-in-Code.ensures.1
    (off_then (fields_of c.args.image.now.header) c.args.image.now.height (stage_lent c.args.self.now c.args.stage.now c.args.lent.now)
    (code_lent c.steps.self c.in-Code.code c.steps.lent) c.args.piece.now.rest.now c.steps.piece.rest.now on _ step.err)
    (λ e. let m = step.more (ap Err e) in (
      on_then (fields_of c.args.image.now.header) c.args.image.now.height (stage_lent c.args.self.now c.args.stage.now c.args.lent.now)
          (code_lent c.steps.self c.in-Code.code c.steps.lent) c.args.piece.now.rest.now c.steps.piece.rest.now on
          (code_lent c.steps.self c.find_end.new.self c.steps.lent) c.find_end.new.piece.rest.now [] m.0,
      m.1,
    ))

pub steps-preserved : goal.steps-preserved
steps-preserved c =
    let on = subst (λ z. StepsOn (sized (fields_of c.args.image.now.header) c.args.image.now.height) (stage_lent c.args.self.now c.args.stage.now c.args.lent.now)
    (stage_lent c.steps.self z c.steps.lent) c.args.piece.now.rest.now c.steps.piece.rest.now []) c.in-Code.is c.steps.invariant.so_far in
    let all : min c.steps.self.left c.args.image.now.header.l0 ≤ c.in-Code.code.row = (let le = c.if-code-min.false in let min_is = c.min.ensures in omega (arith, le, min_is)) in
    let step = c.in_ok-reset-in-Code.ensures.step c.steps.self (held c.steps.lent.window.now) c.steps.lent.learned.now all in
    let row = c.in_ok-reset-in-Code.ensures.same.1 in
    let now = c.end_stripe-follows.ensures.lent in
    let was = c.steps.invariant.lends in
    record {
      lends = (now.0 ∙ was.0, now.1 ∙ was.1, (now.2.0 ∙ was.2.0, now.2.1 ∙ was.2.1));
      no_more = (let now_left = c.find_end.ensures.no_more in let was_left = c.steps.invariant.no_more in omega (arith, now_left, was_left));
      counts = λ e. ended_counts (sized (fields_of c.args.image.now.header) c.args.image.now.height) c.end_stripe-follows.result c.end_stripe-follows.ensures.counts (c.steps.invariant.counts e);
      so_far =
          subst (λ z. StepsOn (sized (fields_of c.args.image.now.header) c.args.image.now.height) (stage_lent c.args.self.now c.args.stage.now c.args.lent.now)
          (stage_lent c.end_stripe-follows.new.self z c.end_stripe-follows.new.lent) c.args.piece.now.rest.now c.find_end.new.piece.rest.now []) (sym c.behind.ensures)
          (on_then (fields_of c.args.image.now.header) c.args.image.now.height (stage_lent c.args.self.now c.args.stage.now c.args.lent.now)
          (code_lent c.steps.self c.find_end.new.self c.steps.lent) c.args.piece.now.rest.now c.find_end.new.piece.rest.now
          (on_then (fields_of c.args.image.now.header) c.args.image.now.height (stage_lent c.args.self.now c.args.stage.now c.args.lent.now)
          (code_lent c.steps.self c.in-Code.code c.steps.lent) c.args.piece.now.rest.now c.steps.piece.rest.now on
          (code_lent c.steps.self c.find_end.new.self c.steps.lent) c.find_end.new.piece.rest.now [] step.ok)
          (stage_lent c.end_stripe-follows.new.self (stage_behind c.end_stripe-follows.result) c.end_stripe-follows.new.lent) c.find_end.new.piece.rest.now []
          (ends_on c.find_end.new.piece.rest.now (c.end_stripe-follows.ensures.ends c.find_end.new.self (in_code_of c.find_end.new.self.begun)
          (subst (λ n. min c.steps.self.left c.args.image.now.header.l0 ≤ n) (sym row) all) c.in_ok-reset-in-Code.ensures.marked)));
    }

pub returns-in_err-next-in-Head-clause-counts : goal.returns-in_err-next-in-Head-clause-counts
returns-in_err-next-in-Head-clause-counts c = counts_then (sized (fields_of c.args.image.now.header) c.args.image.now.height) c.args.self.now c.steps.self c.read_head.new.self c.steps.invariant.counts
    (counts_kept (sized (fields_of c.args.image.now.header) c.args.image.now.height) c.steps.self c.read_head.new.self c.read_head.ensures.counts)

pub returns-in_err-next_row-in-Code-clause-counts : goal.returns-in_err-next_row-in-Code-clause-counts
returns-in_err-next_row-in-Code-clause-counts c = counts_then (sized (fields_of c.args.image.now.header) c.args.image.now.height) c.args.self.now c.steps.self c.next_row.new.course
    c.steps.invariant.counts (counts_kept (sized (fields_of c.args.image.now.header) c.args.image.now.height) c.steps.self c.next_row.new.course c.next_row.ensures.stripe)

pub returns-then-code-min-clause-counts : goal.returns-then-code-min-clause-counts
returns-then-code-min-clause-counts c = counts_then (sized (fields_of c.args.image.now.header) c.args.image.now.height) c.args.self.now c.steps.self c.next_row.new.course c.steps.invariant.counts
    (counts_kept (sized (fields_of c.args.image.now.header) c.args.image.now.height) c.steps.self c.next_row.new.course c.next_row.ensures.stripe)

pub returns-in_err-reset-in-Code-clause-counts : goal.returns-in_err-reset-in-Code-clause-counts
returns-in_err-reset-in-Code-clause-counts c = c.steps.invariant.counts
