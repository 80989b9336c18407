use Rattle.std.proofs.Common.{◌-◌, length, refl, ap}
use Rattle.t85_core.proofs.StreamsAreWalked.PartsAreReturned.{tells_taken, any_taken, takes_in_stripe, breaks_in_stripe}
use Rattle.t85_core.proofs.parts.PartWalk.next_in_stripe.Goals as goal

pub returns-in-Ok-clause-told : goal.returns-in-Ok-clause-told
returns-in-Ok-clause-told c = λ few ss gs p.
    let left = c.read_part.new.source.rest.now in
    let read = rw c.rest_of-rest.ensures at c.in-Ok.ensures.ok in
    tells_taken c.take.ensures.told c.take.ensures.behind
    (takes_in_stripe p left _ (ap (λ z. length z - length left) c.rest_of-rest.ensures) few c.is_given.result c.in-Ok.taken c.is_given.ensures read)

pub returns-in-Err-clause-told : goal.returns-in-Err-clause-told
returns-in-Err-clause-told c = λ few ss gs p. (breaks_in_stripe p c.is_given.ensures few (rw c.rest_of-rest.ensures at c.in-Err.ensures.err), refl)

pub returns-in-Ok-clause-any : goal.returns-in-Ok-clause-any
returns-in-Ok-clause-any c =
    let left = c.read_part.new.source.rest.now in
    any_taken c.args.stream.now c.args.self.now _ c.in-Ok.taken left c.take.ensures.told c.take.ensures.behind refl (ap (λ z. length z - length left) c.rest_of-rest.ensures)
    (rw c.rest_of-rest.ensures at c.in-Ok.ensures.lowers)
