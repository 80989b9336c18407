use Rattle.std.proofs.Common.{sym, ◌∙◌, arith}
use Rattle.t85_core.specs.Options.{fields_of}
use Rattle.libt85.proofs.PremisesHold.{bytes_each, in_use}
use Rattle.libt85.proofs.RowsAreDelivered.{rows_fit, rows_fill}
use Rattle.libt85.proofs.decoding_rows.write_rows.Goals as goal

pub returns-clause-writes : goal.returns-clause-writes
returns-clause-writes c =
    let used = in_use c.args.header.now c.args.height c.requires.from c.requires.to in
    let o = c.outcomes.ensures.one_outcome (fields_of c.args.header.now) c.args.height c.args.body.now used (bytes_each c.args.body.now (λ i. omega (arith, c.type_inv.body i))) in
    rw c.answer_status.ensures
    (rows_fit o c.requires.output c.decode_rows-answer.new.sink c.decode_rows-answer.ensures.rows (sym c.is_some.ensures ∙ c.if-is_some.false))

pub returns-then-is_some-clause-writes : goal.returns-then-is_some-clause-writes
returns-then-is_some-clause-writes c =
    let used = in_use c.args.header.now c.args.height c.requires.from c.requires.to in
    let o = c.outcomes.ensures.one_outcome (fields_of c.args.header.now) c.args.height c.args.body.now used (bytes_each c.args.body.now (λ i. omega (arith, c.type_inv.body i))) in
    rows_fill o c.requires.output c.decode_rows-answer.new.sink c.decode_rows-answer.ensures.rows (sym c.is_some.ensures ∙ c.if-is_some.true)
