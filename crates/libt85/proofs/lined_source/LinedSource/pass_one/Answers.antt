use Rattle.std.proofs.Common.{◌∙◌, ap, not, true≢false, arith}
use Rattle.std.proofs.lemmas.Slice.Eq.{bytes_eq-Decides}
use Rattle.libt85.proofs.RowsStandApart.{none_left, not_whole, other_row}
use Rattle.libt85.proofs.lined_source.LinedSource.pass_one.Goals as goal
use Rattle.libt85.proofs.lined_source.LinedSource.pass_one.Goals.{then-self-eq0-via-then-self-eq0, then-self-eq0-via-else-self-eq0+then-self}

pub returns-then-self-eq0-clause-other : goal.returns-then-self-eq0-clause-other
returns-then-self-eq0-clause-other c _ rest is =
    let s = c.args.self.now in
    elim c.then-self-eq0.branch [
      | then-self-eq0-via-then-self-eq0 w ↦ none_left s.rows s.row s.stride s.rest.now c.args.row.now rest w.if-self-eq0.true (omega (arith, c.requires.whole, s.some)) is
      | then-self-eq0-via-else-self-eq0+then-self w ↦ not_whole s.rows s.row s.stride s.rest.now c.args.row.now rest s.apart w.if-self.true c.requires.whole is
    ]

pub returns-then-ne-clause-other : goal.returns-then-ne-clause-other
returns-then-ne-clause-other c _ rest is =
    let s = c.args.self.now in
    let test = c.if-ne.ensures in
    other_row s.rows s.row s.stride s.rest.now c.args.row.now rest c.if-self-eq0.false (omega arith) c.requires.whole
    (λ same. true≢false (test ∙ ap not ((bytes_eq-Decides c.split_at.result.0.now c.args.row.now).1 (c.split_at.ensures.front ∙ same)))) is
