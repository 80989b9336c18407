use Rattle.std.proofs.Common.{◌≡◌, ◌≤◌, ◌-◌}
use Rattle.t85_core.specs.Options.{fields_of}
use Rattle.t85_core.specs.Lent.{walk_lent}
use Rattle.t85_core.specs.Private.Reading.{ImageSoFar}
use Rattle.t85_core.specs.States.SizedImage.{sized}
use Rattle.t85_core.specs.States.Passage.{passage}
use Rattle.t85_core.proofs.decoding.decode_image.Given as goal

abbrev pub invariant-rows : goal.invariant-rows
invariant-rows g l = record {
  so_far : ImageSoFar (sized (fields_of l.image.header) l.image.height) (walk_lent l.walk l.lent)
      (passage (g.S.HeldSource.view l.fn.stream).known (g.S.HeldSource.view l.stream).known (g.K.RowSink.view l.fn.sink).text (g.K.RowSink.view l.sink).text) l.row;
  unfailed : (g.S.HeldSource.view l.stream).failures ≡ (g.S.HeldSource.view l.fn.stream).failures;
  unwritten : (g.K.RowSink.view l.sink).failures ≡ (g.K.RowSink.view l.fn.sink).failures;
  grows : (g.K.RowSink.view l.fn.sink).written ≤ (g.K.RowSink.view l.sink).written;
  same_source : (g.S.HeldSource.view l.stream).source ≡ (g.S.HeldSource.view l.fn.stream).source;
  same_row : g.K.RowSink.row_bytes l.sink ≡ g.K.RowSink.row_bytes l.fn.sink;
  same_writer : (g.K.RowSink.view l.sink).writer ≡ (g.K.RowSink.view l.fn.sink).writer;
}

abbrev pub decreases-rows : goal.decreases-rows
decreases-rows g l = (l.image.height - l.row)
