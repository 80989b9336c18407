use Rattle.std.proofs.Common.{subst, rules}
use Rattle.t85_core.specs.Options.{fields_of}
use Rattle.libt85.specs.Decoded.{DeliversText}
use Rattle.libt85.proofs.decoding.fill_image.Goals as goal

pub returns : goal.returns
returns c =
    let same = c.write_image-status.ensures.same_reference in
    subst (λ memory. DeliversText (fields_of c.args.header.now) c.args.height c.args.body.now memory c.write_image-status.new.room.len c.write_image-status.result)
    (search (rules, same)) c.write_image-status.ensures.writes
