use Rattle.std.proofs.Common.{◌<◌, ◌^◌, ap, sym, ◌∙◌, arith}
use Rattle.libt85.specs.Delivered.{lined}
use Rattle.libt85.proofs.StreamIsStored.{stored, overfull}
use Rattle.libt85.proofs.encoding.write_stream.Goals as goal

pub returns-clause-writes : goal.returns-clause-writes
returns-clause-writes c =
    let given = c.new-source.ensures.rows ∙ ap (λ row. lined c.args.size.height row c.args.stride c.args.rows.now) c.row_bytes.ensures in
    let result = c.answer_status.ensures in
    rw result (rw given at (stored c.args.room.now c.encode_rows-answer.new.output c.requires.not_low c.requires.room
    (sym c.is_some.ensures ∙ c.if-is_some.false) c.encode_rows-answer.ensures.outcome))

pub returns-then-is_some-clause-writes : goal.returns-then-is_some-clause-writes
returns-then-is_some-clause-writes c =
    let given = c.new-source.ensures.rows ∙ ap (λ row. lined c.args.size.height row c.args.stride c.args.rows.now) c.row_bytes.ensures in
    let tall : c.args.size.height < 2 ^ 32 = omega arith in
    rw given at (overfull c.args.options.now c.args.size c.args.room.now c.encode_rows-answer.new.output c.code_denotes.ensures tall c.requires.not_low c.requires.room
    (sym c.is_some.ensures ∙ c.if-is_some.true) c.encode_rows-answer.ensures.outcome)
