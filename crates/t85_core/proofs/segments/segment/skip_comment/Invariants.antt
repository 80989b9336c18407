use Rattle.std.proofs.Common.{◌≡◌, ◌≤◌, ℕ, List, length}
use Rattle.std.specs.Io.KnownBytes.{Consumes}
use Rattle.t85_core.proofs.segments.segment.skip_comment.Given as goal

-- as many bytes of the text were passed as turns were made
abbrev pub invariant-text : goal.invariant-text
invariant-text g l = record {
  passed : List ℕ;
  count : length passed ≡ l.counter;
  taken : Consumes (g.S.ByteSource.view l.initial.stream).known (g.S.ByteSource.view l.stream).known passed;
  same_source : (g.S.ByteSource.view l.stream).source ≡ (g.S.ByteSource.view l.fn.stream).source;
  unfailed : (g.S.ByteSource.view l.stream).failures ≡ (g.S.ByteSource.view l.fn.stream).failures;
  no_more : (g.S.ByteSource.view l.stream).left ≤ (g.S.ByteSource.view l.fn.stream).left;
}
