use Rattle.std.proofs.Common.{sym, ◌∙◌}
use Rattle.t85_core.proofs.StreamsAreWalked.PartsAreReturned.{tail_none, tail_marker}
use Rattle.t85_core.proofs.parts.PartWalk.tail_len.Goals as goal

pub returns-in-Some-clause-is : goal.returns-in-Some-clause-is
returns-in-Some-clause-is c =
    let k = rw c.in-Some.is at c.marker_at.ensures.some in
    tail_marker c.args.self.now c.args.stream.now c.in-Some.field-0 k.0 c.if-not-self.false (sym c.rest_of.ensures ∙ k.1)

pub returns-in-None-clause-is : goal.returns-in-None-clause-is
returns-in-None-clause-is c = tail_none c.args.self.now c.args.stream.now (λ reset more there. c.marker_at.ensures.none c.in-None.is reset more (c.rest_of.ensures ∙ there))
