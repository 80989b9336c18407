use Rattle.std.proofs.Common.{◌≡◌}
use Rattle.t85_core.proofs.StreamsAreWalked.StripeIsPassed.{HasSkipped}
use Rattle.t85_core.proofs.segments.skip_code.Given as goal

abbrev pub invariant-code : goal.invariant-code
invariant-code g l = record {
  skipped : HasSkipped (g.S.ByteSource.view l.fn.stream).known (g.S.ByteSource.view l.stream).known;
  same_source : (g.S.ByteSource.view l.stream).source ≡ (g.S.ByteSource.view l.fn.stream).source;
  unfailed : (g.S.ByteSource.view l.stream).failures ≡ (g.S.ByteSource.view l.fn.stream).failures;
}

abbrev pub decreases-code : goal.decreases-code
decreases-code g l = (g.S.ByteSource.view l.stream).left
