use Rattle.std.proofs.Common.{[]}
use Rattle.pbm_core.proofs.HeaderGrows.{front_done}
use Rattle.pbm_core.proofs.header_reader.HeaderReader.end_width.Goals as goal

pub returns-in-Ok : goal.returns-in-Ok
returns-in-Ok c before is =
    let n = c.in-Ok.ensures.number in
    c.enter_space.ensures before [] (front_done c.args.self.form c.args.self.width c.args.self.value c.in-Ok.width before is c.requires.width n.0 n.1 n.2) tt
