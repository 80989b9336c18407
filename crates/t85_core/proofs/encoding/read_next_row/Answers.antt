use Rattle.std.proofs.Common.{◌≡◌, length, refl, rules}
use Rattle.std.specs.Int.{div_ceil}
use Rattle.t85_core.proofs.ImagesEncode.EncoderTakesRow.{row_taken, put_current}
use Rattle.t85_core.proofs.encoding.read_next_row.Goals as goal

pub returns-in-Ok-clause-ok : goal.returns-in-Ok-clause-ok
returns-in-Ok-clause-ok g c =
    let wide : length c.next_row.new.row ≡ div_ceil c.turn.new.self.width 8 = search rules in
    rw (put_current c.current_row-current.result.start c.current_row-current.result.end c.turn.new.self.rows.now c.next_row.new.row c.place.ensures.place c.width.ensures c.turn.new.self.long wide
    c.current_row-current.ensures.put) (row_taken c.turn.ensures.turned c.requires.width c.in-Ok.ensures.read.value c.in-Ok.ensures.read.taken)

pub returns-in-Err-clause-short : goal.returns-in-Err-clause-short
returns-in-Err-clause-short g c =
    (c.in-Err.fault, refl, record { given = c.in-Err.ensures.read.given; taken = c.in-Err.ensures.read.taken; has_fault = c.in-Err.ensures.read.fault; at_end = c.in-Err.ensures.read.at_end })
