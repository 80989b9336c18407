use Rattle.std.proofs.Common.{◌≡◌}
use Rattle.t85_core.specs.Options.{fields_of}
use Rattle.t85_core.proofs.StreamsAreWalked.WalkLooksBehind.{HasLooked}
use Rattle.t85_core.proofs.height.look.Given as goal

abbrev pub invariant-comments : goal.invariant-comments
invariant-comments g l = record {
  looked : HasLooked (fields_of l.header) (g.S.ByteSource.view l.fn.stream).known (g.S.ByteSource.view l.stream).known;
  same_source : (g.S.ByteSource.view l.stream).source ≡ (g.S.ByteSource.view l.fn.stream).source;
  unfailed : (g.S.ByteSource.view l.stream).failures ≡ (g.S.ByteSource.view l.fn.stream).failures;
}

abbrev pub decreases-comments : goal.decreases-comments
decreases-comments g l = (g.S.ByteSource.view l.stream).left
