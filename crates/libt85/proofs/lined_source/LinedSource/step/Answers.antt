use Rattle.std.proofs.Common.{◌∙◌, ap, take}
use Rattle.libt85.proofs.RowsStandApart.{cut_short}
use Rattle.libt85.proofs.lined_source.LinedSource.step.Goals as goal

pub returns-clause-same : goal.returns-clause-same
returns-clause-same c = rw (c.split_at.ensures.front, c.min.ensures) c.advance.ensures.same

pub returns-clause-end : goal.returns-clause-end
returns-clause-end c few =
    c.advance.ensures.end (cut_short c.args.self.now.row c.args.self.now.rest.now (c.split_at.ensures.front ∙ ap (λ n. take n c.args.self.now.rest.now) c.min.ensures) few)
