use Rattle.std.proofs.Common.{◌+◌, ◌++◌, ap, ◌∙◌, arith, length}
use Rattle.libt85.specs.LinedSink.{lined_state, taken}
use Rattle.libt85.proofs.ConsumerTakesRows.{row_taken, not_spilled}
use Rattle.libt85.proofs.lined_sink.LinedSink.put_row.Goals as goal

pub returns-clause-taken : goal.returns-clause-taken
returns-clause-taken c =
    let s = c.args.self.now in
    let none = not_spilled s.spilled (λ e. (let last = s.spilled_last e in omega (arith, last, c.requires.room))) in
    let after = c.copy_from_slice.ensures.after in
    let whole = ap length after ∙ c.requires.long in
    row_taken {s = lined_state s} (s.y + 1)
    (record { apart = s.apart; none = none; few = c.requires.room; whole = whole; within = s.rows_within s.y c.requires.room }) (omega (arith, whole)) (omega arith)
    ∙ ap (λ l. taken (lined_state s) ++ l) after
