use Rattle.std.proofs.Common.{ap, refl, ◌∙◌, rules}
use Rattle.t85_core.specs.Stages.{code_kind}
use Rattle.t85_core.proofs.BodiesDecode.WalkNumbersFit.{row_in_stripe}
use Rattle.t85_core.proofs.BodiesDecode.WalkGoesOn.{at_stage}
use Rattle.t85_core.proofs.BodiesDecode.WalkTakesRows.{row_entered}
use Rattle.t85_core.proofs.pieces.code.InCode.enter_row.Goals as goal

pub returns-clause-enters : goal.returns-clause-enters
returns-clause-enters c = λ h height course place learned text out none wants start within w.
    let k = at_stage (ap code_kind none) w in
    record {
      left_is = w.left_is;
      width_is = ap (λ r. r.width) c.turn.ensures.turned ∙ w.width_is;
      code_is = w.code_is;
      behind = w.behind;
      within = within;
      stands = row_entered k (row_in_stripe w wants) _ _ start refl c.turn.ensures.turned c.offset_in-kept.ensures.is refl;
    }

pub returns-clause-window : goal.returns-clause-window
returns-clause-window c = (ap (λ w. w.width) c.turn.ensures.turned, search rules)
