use Rattle.std.proofs.Common.{◌-◌, length, refl, ap}
use Rattle.t85_core.proofs.StreamsAreWalked.PartsAreReturned.{tells_taken, any_taken, takes_before, never_before}
use Rattle.t85_core.proofs.parts.PartWalk.next_before_height.Goals as goal

pub returns-in-Some-clause-told : goal.returns-in-Some-clause-told
returns-in-Some-clause-told c = λ zero most n g ss gs p.
    let left = c.read_before_height.new.source.rest.now in
    let read = rw c.rest_of-rest.ensures at c.in-Some.ensures.some in
    tells_taken c.take.ensures.told c.take.ensures.behind
    (takes_before p left _ (ap (λ z. length z - length left) c.rest_of-rest.ensures) zero most g c.in-Some.taken c.in-Some.ensures.segment read)

pub returns-in-None-clause-told : goal.returns-in-None-clause-told
returns-in-None-clause-told c = λ zero most n g ss gs p. absurd (never_before p zero most (rw c.rest_of-rest.ensures at (c.in-None.ensures.none refl g.variable)) n g)

pub returns-in-Some-clause-any : goal.returns-in-Some-clause-any
returns-in-Some-clause-any c =
    let left = c.read_before_height.new.source.rest.now in
    any_taken c.args.stream.now c.args.self.now _ c.in-Some.taken left c.take.ensures.told c.take.ensures.behind refl (ap (λ z. length z - length left) c.rest_of-rest.ensures)
    (rw c.rest_of-rest.ensures at c.in-Some.ensures.lowers)
