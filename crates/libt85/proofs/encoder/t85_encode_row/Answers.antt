use Rattle.std.proofs.Common.{rules}
use Rattle.libt85.proofs.EncoderIsCalled.{row_put, row_refused}
use Rattle.libt85.proofs.encoder.t85_encode_row.Goals as goal

pub returns-in-Err : goal.returns-in-Err
returns-in-Err c = row_refused c.in-Err.ensures.ready

pub returns : goal.returns
returns c = row_put _ c.in-Ok.ensures.ready c.in-Ok.ensures.enough c.window_bytes-needed.ensures (search rules) c.row_bytes-long.ensures (search rules) c.put.ensures.taken
