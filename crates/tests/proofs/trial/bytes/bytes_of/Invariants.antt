use Rattle.tests.proofs.DigitsMakeBytes.{Pairs}
use Rattle.tests.proofs.trial.bytes.bytes_of.Given as goal

abbrev pub invariant-loop-c : goal.invariant-loop-c
invariant-loop-c l = Pairs l.hex l.bytes.items l.high l.c-iterator.rest.now
