use Rattle.libt85.proofs.RoomSuffices.{never_full, nothing_in, when_right}
use Rattle.libt85.proofs.encoder.put_in.Goals as goal

pub returns-clause-put : goal.returns-clause-put
returns-clause-put c = λ enough.
    let room = c.args.room.now in
    let put = c.put_row.ensures in
    let safe = never_full c.put_row.result room c.put_row.new.output c.requires.room put.few enough (put.writes c.requires.going).counts put.goes_on.4 in
    let right = safe.0 in (
      when_right c.put_row.result right put.goes_on.1,
      (put.window, when_right c.put_row.result right put.place),
      rw (nothing_in room c.requires.room, safe.1) at (when_right c.put_row.result right put.ok),
    )
