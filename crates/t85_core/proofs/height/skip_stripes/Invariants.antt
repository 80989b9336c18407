use Rattle.std.proofs.Common.{◌≡◌, ◌≤◌, ◌-◌}
use Rattle.t85_core.specs.Options.{fields_of}
use Rattle.t85_core.proofs.StreamsAreWalked.StripesAreSkipped.{HasStripes}
use Rattle.t85_core.proofs.height.skip_stripes.Given as goal

abbrev pub invariant-stripes : goal.invariant-stripes
invariant-stripes g l = record {
  has : HasStripes (fields_of l.header) l.moved_before (l.entities - l.from) (g.S.ByteSource.view l.fn.stream).known (g.S.ByteSource.view l.stream).known l.moved l.passed.moves l.passed.comments;
  least : l.from ≤ l.entities;
  few : l.passed.moves ≤ l.entities - l.from;
  same_source : (g.S.ByteSource.view l.stream).source ≡ (g.S.ByteSource.view l.fn.stream).source;
  unfailed : (g.S.ByteSource.view l.stream).failures ≡ (g.S.ByteSource.view l.fn.stream).failures;
}
