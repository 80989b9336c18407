use Rattle.std.proofs.Common.{rules, ◌∙◌}
use Rattle.tests.proofs.LineIsWritten.{compared, no_fault}
use Rattle.tests.proofs.trial.has_told.Goals as goal
use Rattle.tests.proofs.trial.has_told.Goals.{then-ran-eq1, else-ran-eq1}

pub returns-after-ran-eq1 : goal.returns-after-ran-eq1
returns-after-ran-eq1 c = elim c.if-ran-eq1.branch [
  | then-ran-eq1 w ↦
      rw c.in-Some.is (compared c.args.ran.now.status c.args.ran.now.messages.items w.as_slice.result.now w.as_bytes.result.now _ _
      w.if-ran-eq1.true w.as_slice.ensures.value (w.as_bytes.ensures.value ∙ c.in_ok-said-in-Some.ensures.ok) (w.result-is ∙ w.eq.ensures))
  | else-ran-eq1 w ↦ rw c.in-Some.is (no_fault c.args.ran.now.status c.args.ran.now.messages.items _ c.if-ran-eq1.result w.if-ran-eq1.false (search rules))
]
