use Rattle.std.proofs.Common.{◌≡◌, ◌∙◌, ap, sym, true, true≢false, rules}
use Rattle.tests.proofs.by_row.Rows.closed.Goals as goal

pub finish-finished-requires-clause-ready : goal.finish-finished-requires-clause-ready
finish-finished-requires-clause-ready c = λ going.
    let was : c.args.encoder.now.is_closed ≡ true = search rules in
    let same = (c.put_row-put.ensures.closed was).1 in
    absurd (true≢false (sym (ap (λ e. e.is_closed) same ∙ was) ∙ going))
