use Rattle.std.proofs.Common.{rules}
use Rattle.tests.proofs.DigitsMakeBytes.{two}
use Rattle.tests.proofs.trial.bytes.bytes_of.Goals as goal

pub loop-c-preserved : goal.loop-c-preserved
loop-c-preserved c =
    rw c.in_ok-push-in-Some-high.ensures.items
    (two c.args.hex.now c.loop-c.bytes.items c.in-Some-high.h c.in-Some.c c.if-c-lt58.digit c.next.new.self.rest.now (search rules) (search rules))
