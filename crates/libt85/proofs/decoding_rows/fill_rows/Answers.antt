use Rattle.std.proofs.Common.{subst, rules, ap}
use Rattle.t85_core.specs.Options.{fields_of}
use Rattle.libt85.specs.Delivered.{lending}
use Rattle.libt85.specs.DecodedRows.{DeliversRows}
use Rattle.libt85.proofs.decoding_rows.fill_rows.Goals as goal

pub returns : goal.returns
returns c =
    let h = fields_of c.args.header.now in
    let height = c.args.height in
    let body = c.args.body.now in
    let made = c.new-output in
    let status = c.write_rows-status in
    let same = status.ensures.same_reference in
    let a = subst (λ stride. DeliversRows h height body stride
    (lending made.result.bytes.now status.new.output.bytes.now status.new.output.y status.result)) made.ensures.stride status.ensures.writes in
    let b = subst (λ memory. DeliversRows h height body c.args.stride (lending memory status.new.output.bytes.now status.new.output.y status.result)) (ap (λ m. m.now) made.ensures.room) a in
    subst (λ memory. DeliversRows h height body c.args.stride (lending c.args.rows.now memory status.new.output.y status.result)) (search (rules, same)) b
