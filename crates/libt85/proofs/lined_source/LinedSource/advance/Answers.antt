use Rattle.std.proofs.Common.{refl, ◌∙◌, ap, drop}
use Rattle.libt85.proofs.RowsStandApart.{stepped, ended, front_short}
use Rattle.libt85.proofs.lined_source.LinedSource.advance.Goals as goal

pub returns-clause-same : goal.returns-clause-same
returns-clause-same c =
    let s = c.args.self.now in
    stepped s.rows s.row s.stride s.rest.now _ _ c.requires.some refl (c.split_at.ensures.back ∙ ap (λ n. drop n s.rest.now) c.min.ensures)

pub returns-clause-end : goal.returns-clause-end
returns-clause-end c short =
    let s = c.args.self.now in
    ended _ s.row s.stride s.rest.now _ _ s.apart refl (c.split_at.ensures.back ∙ ap (λ n. drop n s.rest.now) c.min.ensures) (front_short s.row s.rest.now short)
