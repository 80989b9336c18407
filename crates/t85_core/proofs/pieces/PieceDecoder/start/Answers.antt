use Rattle.std.proofs.Common.{◌≡◌, ◌∙◌, [], ap, refl, sym, subst, rules}
use Rattle.t85_core.specs.Lent.{stage_lent}
use Rattle.t85_core.specs.Options.{fields_of}
use Rattle.t85_core.specs.Phases.{phase_behind, phase_is_open, phase_stage, phase_waits}
use Rattle.t85_core.specs.Private.Pieces.{IsFirstWalk}
use Rattle.t85_core.specs.States.Pieces.{WalkStands}
use Rattle.t85_core.specs.States.SizedImage.{sized}
use Rattle.t85_core.proofs.BodiesDecode.PieceStands.{first_none, first_open, first_stage, first_waits, started}
use Rattle.t85_core.proofs.pieces.PieceDecoder.start.Goals as goal

pub returns-clause-none : goal.returns-clause-none
returns-clause-none c =
    let window : c.window-1.given.0 ≡ c.start.new.lent.window.now = search rules in
    let learned : c.learned-1.given.0 ≡ c.start.new.lent.learned.now = search rules in
    let phase = c.first.ensures in
    let none = ap phase_behind phase ∙ first_none _ in
    let at = ap phase_stage phase ∙ first_stage _ in
    rw (window, learned)
    record {
      going = refl;
      stands = started _ (ap phase_is_open phase ∙ first_open _) (ap phase_waits phase ∙ first_waits _ ∙ sym (ap phase_is_open phase)) refl
          (subst (λ s. IsFirstWalk (stage_lent c.start.result s c.start.new.lent)) (sym at) c.start.ensures.first)
          (subst (λ s. WalkStands (sized (fields_of c.args.header) c.args.header.yd) (stage_lent c.start.result s c.start.new.lent) [] []) (sym at) c.start.ensures.stands) (ap (λ b. b.at) none)
          (ap (λ b. b.comment) none);
    }
