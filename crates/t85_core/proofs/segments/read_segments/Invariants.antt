use Rattle.std.proofs.Common.{◌≡◌}
use Rattle.t85_core.specs.Options.{fields_of}
use Rattle.t85_core.specs.States.Segments.{HasPassed, segments_so_far}
use Rattle.t85_core.proofs.segments.read_segments.Given as goal

abbrev pub invariant-pieces : goal.invariant-pieces
invariant-pieces g l = record {
  passed : HasPassed (fields_of l.header) l.place l.moved_before (g.S.ByteSource.view l.fn.stream).known (g.S.ByteSource.view l.stream).known (segments_so_far l.at l.moved l.given l.comments);
  same_source : (g.S.ByteSource.view l.stream).source ≡ (g.S.ByteSource.view l.fn.stream).source;
  unfailed : (g.S.ByteSource.view l.stream).failures ≡ (g.S.ByteSource.view l.fn.stream).failures;
}

abbrev pub decreases-pieces : goal.decreases-pieces
decreases-pieces g l = (g.S.ByteSource.view l.stream).left
