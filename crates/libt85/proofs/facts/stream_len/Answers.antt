use Rattle.std.proofs.Common.{ap}
use Rattle.t85_core.specs.Parts.{Nothing}
use Rattle.libt85.proofs.facts.stream_len.Goals as goal

pub parts-init : goal.parts-init
parts-init c = (Nothing, ap (λ w. w.offset) c.start-walk.ensures)
