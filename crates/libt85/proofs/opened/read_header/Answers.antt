use Rattle.std.proofs.Common.{◌≡◌, ◌≤◌, ℕ, List, length, Option, Some, Result, Ok, Err}
use Rattle.std.specs.Prelude.{IfErr}
use Rattle.t85_core.specs.Header.{header_fault}
use Rattle.t85_core.specs.Laws.{HeaderLaws}
use Rattle.t85_core.specs.Failures.{Ends, CountsRead}
use Rattle.t85_core.specs.declared.fault.Fault.{Fault}
use Rattle.t85_core.specs.declared.fault.Fault.TheVariants.{ShortHeader}
use Rattle.libt85.proofs.HeaderIsRefused.{refused_whole}
use Rattle.libt85.proofs.opened.read_header.Goals as goal

by_answer : {T : Type 0} → HeaderLaws → (bytes : List ℕ) (left : Option (List ℕ)) (r : Result T Fault) →
    IfErr r (Ends ShortHeader (Some bytes) left (λ given fault. (length given ≤ 20) × (header_fault given ≡ Some fault))) → CountsRead 0 0 r → IfErr r (λ f. header_fault bytes ≡ Some f)
by_answer laws bytes left (Ok h) ends counts = tt
by_answer laws bytes left (Err f) ends counts = refused_whole laws bytes left f ends counts

pub returns-clause-refused : goal.returns-clause-refused
returns-clause-refused c = by_answer c.headers.ensures _ _ c.read.result c.read.ensures.refused c.read.ensures.counts
