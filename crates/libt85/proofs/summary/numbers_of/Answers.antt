use Rattle.std.proofs.Common.{ℕ, List, Option, Some, Result, Ok, Err}
use Rattle.std.specs.Prelude.{IfErr}
use Rattle.t85_core.specs.Change.{between}
use Rattle.t85_core.specs.declared.fault.Fault.{Fault}
use Rattle.t85_core.specs.declared.summary.Summary.{Summary}
use Rattle.t85_core.specs.Height.{StreamFault}
use Rattle.t85_core.specs.Info.{Summarize}
use Rattle.libt85.proofs.TextIsDelivered.{unread_once}
use Rattle.libt85.proofs.summary.numbers_of.Goals as goal

by_answer : (bytes : List ℕ) (left : Option (List ℕ)) (r : Result Summary Fault) → Summarize (between (Some bytes) left 0 0) r → IfErr r (λ f. StreamFault bytes f)
by_answer bytes left (Ok s) h = tt
by_answer bytes left (Err f) h = h.refused (unread_once f h.reads)

pub returns-clause-refused : goal.returns-clause-refused
returns-clause-refused c = by_answer _ _ c.summarize.result c.summarize.ensures
