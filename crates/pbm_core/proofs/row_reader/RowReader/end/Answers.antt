use Rattle.pbm_core.proofs.RowGrows.{filled_cut}
use Rattle.pbm_core.proofs.row_reader.RowReader.end.Goals as goal

pub returns-clause-ends : goal.returns-clause-ends
returns-clause-ends c form width before row is = filled_cut form c.args.self.now width row before is
