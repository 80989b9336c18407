use Rattle.std.proofs.Common.{◌≡◌, ◌∙◌, ap, refl}
use Rattle.libt85.proofs.ChoiceTakesRows.{counting_by}
use Rattle.libt85.proofs.choice.judge_choice.Goals as goal

pub returns-clause-counting : goal.returns-clause-counting
returns-clause-counting c =
    let options : c.in-Ok.accepted.options ≡ c.args.options.now.options = ap (λ s. s.options) c.in-Ok.ensures.held in
    let most : c.in-Ok.accepted.most_offset ≡ c.args.options.now.most_offset = ap (λ s. s.most_offset) c.in-Ok.ensures.held in
    c.new.ensures.counting ∙ counting_by c.in-Ok.accepted.options c.in-Ok.accepted.most_offset c.args.width c.in-Ok.accepted.in_range c.if-width-gt-MOST_WIDTH.false ∙ rw (options, most) refl
