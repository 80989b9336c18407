use Rattle.std.proofs.Common.{rules, ◌∙◌}
use Rattle.libt85.proofs.BestOffsetIsFound.{best_next, window_kept}
use Rattle.libt85.proofs.encoder.T85Encoder.find_best.Goals as goal

pub returns-clause-best : goal.returns-clause-best
returns-clause-best c =
    let window = c.resume-window.ensures in
    let best = c.best_offset-best in
    best_next {window = c.resume-window.result} best.result c.args.rows.now (record { ready = c.requires.ready; long = c.requires.long; place_is = window.place; rows_are = window.held })
    c.unwrap_or.ensures (best.ensures.applies ∙ c.requires.rows) best.ensures.best

pub returns-clause-same : goal.returns-clause-same
returns-clause-same c =
    let window = c.resume-window.ensures in
    let same = window.same_reference in
    let kept = window_kept {window = c.resume-window.result} (record { ready = c.requires.ready; long = c.requires.long; place_is = window.place; rows_are = window.held }) window.width in
    search (rules, same, kept)
