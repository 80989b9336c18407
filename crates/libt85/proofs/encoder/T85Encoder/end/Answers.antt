use Rattle.std.proofs.Common.{rules}
use Rattle.libt85.proofs.EncoderTakesRows.{stream_ended}
use Rattle.libt85.proofs.encoder.T85Encoder.end.Goals as goal

pub returns-clause-ends : goal.returns-clause-ends
returns-clause-ends c =
    let same = c.end_in.ensures.same_reference in
    let resumed = c.resume-window.ensures in
    stream_ended {window = c.resume-window.result} _ c.code_denotes.ensures (record { ready = c.requires.ready; long = c.requires.long; place_is = resumed.place; rows_are = resumed.held })
    c.requires.may_end.0 (search (rules, same)) (search rules) c.end_in.ensures.ended
