use Rattle.std.proofs.Common.{rules}
use Rattle.libt85.proofs.EncoderIsCalled.{left_told}
use Rattle.libt85.proofs.encoder.t85_encode_rows_left.Goals as goal

pub returns-clause-left : goal.returns-clause-left
returns-clause-left c = left_told c.args.encoder.now (search rules)
