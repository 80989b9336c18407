use Rattle.std.proofs.Common.{arith}
use Rattle.libt85.proofs.RoomSuffices.{never_full, nothing_in, when_right}
use Rattle.libt85.proofs.encoder.end_in.Goals as goal

pub returns-clause-ended : goal.returns-clause-ended
returns-clause-ended c = λ enough.
    let room = c.args.room.now in
    let done = c.finish.ensures in
    let safe = never_full c.finish.result room c.finish.new.output c.requires.room done.few (omega (arith, enough)) (done.writes c.requires.going).counts done.ended.2 in
    rw (nothing_in room c.requires.room, safe.1) at (when_right c.finish.result safe.0 done.ok)
