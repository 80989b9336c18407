use Rattle.std.proofs.Common.{inl, []}
use Rattle.pbm_core.proofs.header_reader.HeaderReader.read_first_space.Goals as goal

pub returns : goal.returns
returns c before is = c.enter_space.ensures before [] (inl (is.0, is.1)) tt
