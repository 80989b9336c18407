use Rattle.std.proofs.Common.{◌∙◌}
use Rattle.libt85.proofs.EncoderTakesRows.{name_taken}
use Rattle.libt85.proofs.RoomSuffices.{when_right}
use Rattle.libt85.proofs.encoder.T85Encoder.name.Goals as goal

pub returns : goal.returns
returns c =
    let named = c.name_offset.ensures in
    name_taken c.args.offset c.requires.ready c.requires.may (named.ready c.requires.ready.goes_on.ready) (c.keep.ensures.numbers ∙ c.numbers.ensures) c.keep.ensures.same c.keep.ensures.place
    (when_right c.name_offset.result (named.taken ∙ c.requires.may) named.named)
