use Rattle.t85_core.proofs.StreamsDenote.CodeDenotes.{code_denotes_at}
use Rattle.t85_core.proofs.laws.code_denotes.Goals as goal

pub returns : goal.returns
returns c = λ s raster proper is announced. code_denotes_at c.writing_laws.ensures s raster proper is announced
