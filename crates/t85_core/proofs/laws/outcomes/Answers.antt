use Rattle.t85_core.proofs.StreamsDenote.DecidedRowsStay.{decided_stays_at}
use Rattle.t85_core.proofs.StreamsDenote.OutcomeIsUnique.{one_outcome_at}
use Rattle.t85_core.proofs.laws.outcomes.Goals as goal

pub returns-clause-decided_stays : goal.returns-clause-decided_stays
returns-clause-decided_stays c = λ h height stripes segments code more reset later flags rows body raster u bytes others d p e.
    decided_stays_at c.coder_laws.ensures u.accepted (record { stripes = stripes; segments = segments; code = code; more = more; bytes = bytes; others = others }) reset later d p e

pub returns-clause-one_outcome : goal.returns-clause-one_outcome
returns-clause-one_outcome c = λ h n body u bytes. one_outcome_at c.coder_laws.ensures h n body u bytes
