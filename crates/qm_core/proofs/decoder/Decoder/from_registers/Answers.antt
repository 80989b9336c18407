use Rattle.std.proofs.Common.{ap, rules, Some}
use Rattle.qm_core.proofs.NumbersFixDecoder.{one_decoder}
use Rattle.qm_core.proofs.decoder.Decoder.from_registers.Goals as goal

pub returns-clause-same : goal.returns-clause-same
returns-clause-same c d going is = ap Some (one_decoder _ d (search rules) going (search rules))
