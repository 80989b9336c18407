use Rattle.libt85.proofs.EntityComesFirst.{has_entity}
use Rattle.libt85.proofs.decoder.rest.entity_len.Goals as goal

pub returns-in-Some-clause-some : goal.returns-in-Some-clause-some
returns-in-Some-clause-some c = has_entity c.args.bytes.now _ c.in-Some.ensures.some
