use Rattle.std.proofs.Common.{rules}
use Rattle.libt85.proofs.EncoderIsCalled.{start_done, start_refused}
use Rattle.libt85.proofs.encoder.t85_encode_start.Goals as goal

pub returns-in-Err : goal.returns-in-Err
returns-in-Err c = start_refused (search rules)

pub returns : goal.returns
returns c = start_done _ (search rules) c.in-Ok.ensures.held c.in-Ok.ensures.width c.in-Ok.ensures.height (search rules) (search rules) c.begin.ensures.begun
