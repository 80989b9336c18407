use Rattle.std.proofs.Common.{subst}
use Rattle.t85_core.specs.States.Written.{IsCountedTo}
use Rattle.t85_core.proofs.encoding.steps.count_row.Goals as goal

pub returns-in-Some-clause-counts : goal.returns-in-Some-clause-counts
returns-in-Some-clause-counts c lines l few has counted =
    rw c.in-Some.is (c.add_row.ensures.counts lines l few (subst (λ o. IsCountedTo c.args.window.now.width o c.args.tally.now lines) c.in-Some.is counted) has)
