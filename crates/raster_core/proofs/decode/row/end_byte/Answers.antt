use Rattle.std.proofs.Common.{arith}
use Rattle.raster_core.proofs.BytesAreDecoded.{byte_ended, byte_stopped, wrap}
use Rattle.raster_core.proofs.decode.row.end_byte.Goals as goal

pub returns-in-Ok-clause-ok : goal.returns-in-Ok-clause-ok
returns-in-Ok-clause-ok g c =
    byte_ended (record { second_is = c.around_at.ensures.is; above_is = c.around_at-2.ensures.is })
    c.requires.begun (omega arith) (omega arith) (wrap _) c.behind.ensures.done c.behind.ensures.past c.in-Ok.ensures.pixels.0

pub returns-in-Err-clause-err : goal.returns-in-Err-clause-err
returns-in-Err-clause-err g c =
    byte_stopped (record { second_is = c.around_at.ensures.is; above_is = c.around_at-2.ensures.is })
    (omega arith)
    (omega arith) c.behind-in-Err.ensures.begun c.behind-in-Err.ensures.done c.behind-in-Err.ensures.past c.in-Err.ensures.pixels.1.1
