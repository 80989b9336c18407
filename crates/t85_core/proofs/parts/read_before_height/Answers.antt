use Rattle.t85_core.specs.Options.{fields_of}
use Rattle.std.proofs.Common.{Some}
use Rattle.t85_core.proofs.StreamsAreWalked.WalkLooksBehind.{looked_none, looked_code, looked_fault}
use Rattle.t85_core.proofs.StreamsAreWalked.PartsAreRead.{not_read}
use Rattle.t85_core.proofs.parts.read_before_height.Goals as goal

pub returns-in-Code-clause-none : goal.returns-in-Code-clause-none
returns-in-Code-clause-none c = λ _ _.
    let h = rw c.in-Code.is at c.in-Ok.ensures.ok in
    looked_code (looked_none (fields_of c.args.header.now) (Some c.args.source.now.rest.now)) (Some c.next_element.new.stream.rest.now) c.args.entities c.in-Code.field-0 h.1

pub returns-in-Err-clause-none : goal.returns-in-Err-clause-none
returns-in-Err-clause-none c = λ _ variable.
    looked_fault (looked_none (fields_of c.args.header.now) (Some c.args.source.now.rest.now)) c.args.entities c.in-Err.field-0 c.args.header.now.not_too_tall variable
    (not_read _ c.in-Err.ensures.reads.counts) c.in-Err.ensures.err
