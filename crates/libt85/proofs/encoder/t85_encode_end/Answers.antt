use Rattle.std.proofs.Common.{rules}
use Rattle.libt85.proofs.EncoderIsCalled.{end_put, end_refused}
use Rattle.libt85.proofs.encoder.t85_encode_end.Goals as goal

pub returns-in-Err : goal.returns-in-Err
returns-in-Err c = end_refused c.in-Err.ensures.ready

pub returns : goal.returns
returns c = end_put c.in-Ok.ensures.ready c.in-Ok.ensures.enough c.window_bytes-needed.ensures (search rules) c.end.ensures.ended c.end.ensures.ends
