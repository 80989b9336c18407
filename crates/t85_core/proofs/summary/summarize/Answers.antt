use Rattle.std.proofs.Common.{rules, ◌∙◌, ap}
use Rattle.t85_core.specs.Info.{Summarize}
use Rattle.t85_core.proofs.BytesJoin.InputHoldsBytes.{known_unheld}
use Rattle.t85_core.proofs.StreamsAreWalked.InfoEnds.{exit_all, told_header, told_body}
use Rattle.t85_core.proofs.summary.summarize.Goals as goal

pub returns-in_err-header : goal.returns-in_err-header
returns-in_err-header g c =
    exit_all (Summarize _) c.from_residual.result c.from_residual.ensures.1
    (told_header _ c.in_err-header.ensures.refused c.in_err-header.ensures.counts)

pub returns : goal.returns
returns g c =
    let header = c.in_ok-header.ensures.accepted in
    let stream = c.new-stream.result in
    let start = known_unheld stream.bytes (g.R.Input.view stream.input.now).remaining c.new-stream.ensures.empty ∙ ap (λ m. (g.R.Input.view m.now).remaining) c.new-stream.ensures.lent in
    told_body _ _ _ header (rw start at c.summarize_body.ensures.ok) (rw start at c.summarize_body.ensures.err) (rw start at c.summarize_body.ensures.unread) c.summarize_body.ensures.among
    (λ read. c.summarize_body.ensures.reads.drained read ∙ ap (λ d. (g.R.Input.view d).remaining) (search rules))
    (search rules)
