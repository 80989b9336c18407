use Rattle.std.proofs.Common.{◌≡◌, []}
use Rattle.t85_core.specs.Options.{fields_of}
use Rattle.t85_core.specs.Lent.{walk_lent}
use Rattle.t85_core.specs.Private.Reading.{ReadsWalk, still_left}
use Rattle.t85_core.specs.States.SizedImage.{sized}
use Rattle.t85_core.proofs.decoding.next_rows.Given as goal

abbrev pub invariant-turns : goal.invariant-turns
invariant-turns g l = record {
  on : ReadsWalk (sized (fields_of l.image.header) l.image.height) (walk_lent l.fn.walk l.fn.lent) (walk_lent l.walk l.lent) (g.S.HeldSource.view l.fn.stream).known
      (g.S.HeldSource.view l.stream).known [];
  unfailed : (g.S.HeldSource.view l.stream).failures ≡ (g.S.HeldSource.view l.fn.stream).failures;
  same_source : (g.S.HeldSource.view l.stream).source ≡ (g.S.HeldSource.view l.fn.stream).source;
}

abbrev pub decreases-turns : goal.decreases-turns
decreases-turns g l = still_left (g.S.HeldSource.view l.stream) (g.S.HeldSource.bytes l.stream)
