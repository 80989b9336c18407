use Rattle.pbm_core.proofs.HeaderGrows.{scanned_cut}
use Rattle.pbm_core.proofs.header_reader.HeaderReader.end.Goals as goal

pub returns-clause-ends : goal.returns-clause-ends
returns-clause-ends c = scanned_cut c.args.self.now.place c.args.self.now
