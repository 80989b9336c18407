use Rattle.std.proofs.Common.{subst, rules}
use Rattle.std.specs.Int.{div_ceil}
use Rattle.t85_core.specs.Options.{settings_of}
use Rattle.libt85.specs.Encoded.{DeliversCode, asked}
use Rattle.libt85.specs.Delivered.{lined}
use Rattle.libt85.proofs.encoding.fill_stream.Goals as goal

pub returns : goal.returns
returns c =
    let same = c.write_stream-status.ensures.same_reference in
    let size = c.args.size in
    subst (λ memory. DeliversCode (asked (settings_of c.args.options.now) size.width size.height)
    (lined size.height (div_ceil size.width 8) c.args.stride c.args.rows.now) memory c.write_stream-status.new.room.len c.write_stream-status.result)
    (search (rules, same)) c.write_stream-status.ensures.writes
