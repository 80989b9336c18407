use Rattle.std.proofs.Common.{◌≡◌, ◌≤◌, ◌-◌, false}
use Rattle.raster_core.specs.Window.{held, width_of}
use Rattle.t85_core.specs.Options.{settings_of}
use Rattle.t85_core.specs.RowImage.{image_of}
use Rattle.t85_core.specs.States.Passage.{passage}
use Rattle.t85_core.specs.States.ByRow.{MayGoOn, IsLined, view_of}
use Rattle.t85_core.proofs.ImagesEncode.RowsMakeImage.{ComeTo}
use Rattle.t85_core.proofs.encoding.encode_image.Given as goal

abbrev pub invariant-rows : goal.invariant-rows
invariant-rows g l = record {
  come : ComeTo (g.S.RowSource.origin l.fn.source).form (image_of (settings_of l.options) l.size.width l.size.height)
      (passage (g.S.RowSource.view l.fn.source).remaining (g.S.RowSource.view l.source).remaining (g.P.ByteTarget.view l.fn.target).text (g.P.ByteTarget.view l.target).text)
      (view_of l.encoder l.learning) (held l.window);
  going : l.encoder.is_closed ≡ false;
  ready : MayGoOn l.encoder;
  size_is : l.encoder.size ≡ l.size;
  width : width_of l.window ≡ l.size.width;
  lined : IsLined (held l.window);
  reads : (g.S.RowSource.view l.source).failures ≡ (g.S.RowSource.view l.fn.source).failures;
  same_origin : g.S.RowSource.origin l.source ≡ g.S.RowSource.origin l.fn.source;
  same_source : (g.S.RowSource.view l.source).source ≡ (g.S.RowSource.view l.fn.source).source;
  writes : (g.P.ByteTarget.view l.target).failures ≡ (g.P.ByteTarget.view l.fn.target).failures;
  grows : (g.P.ByteTarget.view l.fn.target).written ≤ (g.P.ByteTarget.view l.target).written;
  same_writer : (g.P.ByteTarget.view l.target).writer ≡ (g.P.ByteTarget.view l.fn.target).writer;
}

abbrev pub decreases-rows : goal.decreases-rows
decreases-rows g l = l.size.height - l.encoder.rows
