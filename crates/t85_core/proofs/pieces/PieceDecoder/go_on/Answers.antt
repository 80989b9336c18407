use Rattle.std.proofs.Common.{[], Some, refl, ◌∙◌, arith}
use Rattle.t85_core.specs.Lent.{decoder_lent}
use Rattle.t85_core.proofs.BodiesDecode.EntityIsPulled.{none_of}
use Rattle.t85_core.proofs.BodiesDecode.PieceStands.{leaves_after, on_compose, on_none}
use Rattle.t85_core.proofs.pieces.PieceDecoder.go_on.Goals as goal

pub returns-in-Some-clause-leaves : goal.returns-in-Some-clause-leaves
returns-in-Some-clause-leaves c =
    leaves_after c.args.is_all (decoder_lent c.args.self.now c.args.lent.now) (decoder_lent c.steps.self c.steps.lent)
    (decoder_lent c.step.new.self c.step.new.lent) c.args.piece.now.rest.now c.steps.piece.rest.now c.step.new.piece.rest.now c.steps.invariant.header c.steps.invariant.going
    c.steps.invariant.so_far (Some c.in-Some.outcome) c.in-Some.ensures.leaves

pub steps-preserved : goal.steps-preserved
steps-preserved c =
    let on = c.step.ensures.leaves.on (none_of _ c.in_default.not-Some) in
    record {
      header = c.step.ensures.leaves.header ∙ c.steps.invariant.header;
      going = c.step.ensures.leaves.going ∙ c.steps.invariant.going;
      no_more = (let now = c.step.ensures.lowers.0 in let was = c.steps.invariant.no_more in omega (arith, now, was));
      lends = (let now = c.step.ensures.lent in let was = c.steps.invariant.lends in (now.0 ∙ was.0, now.1 ∙ was.1, (now.2.0 ∙ was.2.0, now.2.1 ∙ was.2.1)));
      so_far = on_compose (decoder_lent c.args.self.now c.args.lent.now) (decoder_lent c.steps.self c.steps.lent)
          (decoder_lent c.step.new.self c.step.new.lent) c.args.piece.now.rest.now c.steps.piece.rest.now c.step.new.piece.rest.now [] c.steps.invariant.so_far on;
    }

pub steps-init : goal.steps-init
steps-init c = record {
  header = refl;
  going = refl;
  no_more = omega arith;
  lends = (refl, refl, (refl, refl));
  so_far = on_none (decoder_lent c.args.self.now c.args.lent.now) (decoder_lent c.args.self.now c.args.lent.now) c.args.piece.now.rest.now (λ text out s. s);
}
