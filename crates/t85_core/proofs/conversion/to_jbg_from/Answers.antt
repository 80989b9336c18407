use Rattle.std.proofs.Common.{rules, ◌∙◌, sym}
use Rattle.t85_core.specs.ToJbg.{ToJbg}
use Rattle.t85_core.proofs.StreamsAreWalked.InfoEnds.{exit_all}
use Rattle.t85_core.proofs.ImagesEncode.ImageIsEncoded.{takes_header, refused_header, too_low, no_room}
use Rattle.t85_core.proofs.ImagesEncode.ImageIsWritten.{image_broken, image_unflushed, image_whole}
use Rattle.t85_core.proofs.conversion.to_jbg_from.Goals as goal

pub returns-in-Err-clause-outcome : goal.returns-in-Err-clause-outcome
returns-in-Err-clause-outcome g c = refused_header _ _ _ _ _ _ _ _ c.in-Err.fault
    (c.headers.ensures.read_fault_is_theirs _ _ c.in-Err.fault c.in-Err.ensures) c.in-Err.ensures.given c.in-Err.ensures.taken c.in-Err.ensures.fault c.in-Err.ensures.failures

pub returns-then-is_low-clause-outcome : goal.returns-then-is_low-clause-outcome
returns-then-is_low-clause-outcome g c =
    let size = c.in-Ok.header.0 in
    too_low _ _ _ _ _ _ _ _ c.in-Ok.header.1 size.width size.height
    (takes_header size c.headers.ensures.written_is_read (search rules) (c.headers.ensures.read_header_is_theirs _ _ c.in-Ok.header c.in-Ok.ensures))
    (sym c.is_low.ensures ∙ c.if-is_low.true) c.in-Ok.ensures.failures

pub returns-in-Err-vec-clause-outcome : goal.returns-in-Err-vec-clause-outcome
returns-in-Err-vec-clause-outcome g c =
    let size = c.in-Ok.header.0 in
    no_room _ _ _ _ _ _ _ _ c.in-Ok.header.1 size.width size.height
    (takes_header size c.headers.ensures.written_is_read (search rules) (c.headers.ensures.read_header_is_theirs _ _ c.in-Ok.header c.in-Ok.ensures))
    (sym c.is_low.ensures ∙ c.if-is_low.false) c.in-Ok.ensures.failures

pub returns-in_err-encode-clause-outcome : goal.returns-in_err-encode-clause-outcome
returns-in_err-encode-clause-outcome g c =
    let size = c.in-Ok.header.0 in
    exit_all (ToJbg _ _ _ _) c.from_residual.result c.from_residual.ensures.1
    (image_broken _ _ _ _ _ _ _ (takes_header size c.headers.ensures.written_is_read (search rules)
    (c.headers.ensures.read_header_is_theirs _ _ c.in-Ok.header c.in-Ok.ensures)) c.in-Ok.ensures.failures (sym c.is_low.ensures ∙ c.if-is_low.false) c.in_err-encode.ensures.outcome)

pub returns-in-Ok-flush-clause-outcome : goal.returns-in-Ok-flush-clause-outcome
returns-in-Ok-flush-clause-outcome g c =
    let size = c.in-Ok.header.0 in
    image_whole _ _ _ _ _ _ _ (takes_header size c.headers.ensures.written_is_read (search rules)
    (c.headers.ensures.read_header_is_theirs _ _ c.in-Ok.header c.in-Ok.ensures)) c.in-Ok.ensures.failures _
    c.in_ok-encode.ensures.outcome c.in-Ok-flush.ensures.bytes c.in-Ok-flush.ensures.flushed c.in-Ok-flush.ensures.failures

pub returns-clause-outcome : goal.returns-clause-outcome
returns-clause-outcome g c =
    let size = c.in-Ok.header.0 in
    image_unflushed _ _ _ _ _ _ _ (takes_header size c.headers.ensures.written_is_read (search rules)
    (c.headers.ensures.read_header_is_theirs _ _ c.in-Ok.header c.in-Ok.ensures)) c.in-Ok.ensures.failures _
    c.in_ok-encode.ensures.outcome c.in-Err-flush.ensures.bytes c.in-Err-flush.ensures.failures
