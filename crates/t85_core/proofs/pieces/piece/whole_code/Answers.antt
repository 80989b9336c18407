use Rattle.t85_core.proofs.BodiesDecode.FewBytesRemain.{ends_few}
use Rattle.t85_core.proofs.BodiesDecode.MarkerIsFound.{code_ends}
use Rattle.t85_core.proofs.pieces.piece.whole_code.Goals as goal

pub returns-in-Err-clause-err : goal.returns-in-Err-clause-err
returns-in-Err-clause-err c = code_ends _ _ _ c.in-Err.ensures.err (let k = c.in-Err.ensures.reads.counts in k)

pub returns-in-Err-clause-few : goal.returns-in-Err-clause-few
returns-in-Err-clause-few c = ends_few _ _ (code_ends _ _ _ c.in-Err.ensures.err (let k = c.in-Err.ensures.reads.counts in k))
