use Rattle.t85_core.proofs.BodiesDecode.NumbersFixRepeats.{repeats_by_numbers}
use Rattle.t85_core.proofs.laws.repeats.Goals as goal

pub returns : goal.returns
returns c = repeats_by_numbers
