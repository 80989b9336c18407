use Rattle.t85_core.proofs.StreamsDenote.CallsTakePieces.{taken_at, fed_at, wait_at, more_at, await_at, whole_at, consumed_at, broken_at}
use Rattle.t85_core.proofs.laws.pieces.Goals as goal

pub returns-clause-taken : goal.returns-clause-taken
returns-clause-taken c = taken_at

pub returns-clause-fed : goal.returns-clause-fed
returns-clause-fed c = fed_at

pub returns-clause-wait : goal.returns-clause-wait
returns-clause-wait c = wait_at

pub returns-clause-more : goal.returns-clause-more
returns-clause-more c = more_at

pub returns-clause-awaits : goal.returns-clause-awaits
returns-clause-awaits c = await_at

pub returns-clause-whole : goal.returns-clause-whole
returns-clause-whole c = whole_at

pub returns-clause-consumed : goal.returns-clause-consumed
returns-clause-consumed c = consumed_at

pub returns-clause-broken : goal.returns-clause-broken
returns-clause-broken c = broken_at
