use Rattle.std.proofs.Common.{refl}
use Rattle.t85_core.specs.Options.{fields_of}
use Rattle.t85_core.proofs.StreamsAreWalked.PartsAreReturned.{tells_taken, any_header, tells_refused, tells_header, tells_behind}
use Rattle.t85_core.proofs.parts.PartWalk.next.Goals as goal

pub returns-in-Err-clause-told : goal.returns-in-Err-clause-told
returns-in-Err-clause-told c = λ from p. (tells_refused c.args.stream.now c.in-Err.fault c.args.self.now c.in-Err.ensures.refused from p, refl)

pub returns-then-self-eq0-clause-told : goal.returns-then-self-eq0-clause-told
returns-then-self-eq0-clause-told c = λ from p.
    tells_taken c.pass_header.ensures.told c.pass_header.ensures.behind
    (tells_header c.args.stream.now (fields_of c.in-Ok.header) c.args.self.now c.in-Ok.ensures.accepted c.if-self-eq0.true from p)

pub returns-clause-told : goal.returns-clause-told
returns-clause-told c = λ from p. tells_behind c.args.stream.now (fields_of c.in-Ok.header) c.args.self.now _ _ c.in-Ok.ensures.accepted c.if-self-eq0.false c.next_in_body.ensures.told from p

pub returns-then-self-eq0-clause-any : goal.returns-then-self-eq0-clause-any
returns-then-self-eq0-clause-any c = any_header c.args.stream.now
    (fields_of c.in-Ok.header) c.args.self.now c.in-Ok.ensures.accepted c.if-self-eq0.true c.pass_header.ensures.told c.pass_header.ensures.behind
