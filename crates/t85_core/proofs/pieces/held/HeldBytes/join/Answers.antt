use Rattle.std.proofs.Common.{rules}
use Rattle.t85_core.proofs.BodiesDecode.DecoderHoldsRest.{joined_is}
use Rattle.t85_core.proofs.pieces.held.HeldBytes.join.Goals as goal

pub returns-clause-joined : goal.returns-clause-joined
returns-clause-joined c = joined_is c.count-count.result c.copy_from_slice.new.self c.copy_from_slice-2.new.self _ _ _ c.args.front.now (search rules) (search rules) (search rules)
