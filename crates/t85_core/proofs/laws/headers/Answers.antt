use Rattle.std.proofs.Common.{[], subst, append-nil}
use Rattle.t85_core.specs.Header.{HeaderOf, header_bytes}
use Rattle.t85_core.proofs.BytesJoin.BytesAreKnown.{HeaderOf-append, header_fault-append}
use Rattle.t85_core.proofs.BodiesParse.StreamHasOneReading.{accepted, header_is}
use Rattle.t85_core.proofs.StreamsDenote.HeaderIsWritten.{header_begins}
use Rattle.t85_core.proofs.laws.headers.Goals as goal

pub returns : goal.returns
returns c = record {
  stands = λ bytes more h is. HeaderOf-append more is;
  refusal_stands = header_fault-append;
  not_refused = accepted;
  one = λ bytes h other p q. header_is p q;
  written = λ h ok. subst (λ bytes. HeaderOf bytes h) (append-nil (header_bytes h)) (header_begins h [] ok);
}
