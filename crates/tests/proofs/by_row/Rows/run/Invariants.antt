use Rattle.std.proofs.Common.{◌≡◌, false}
use Rattle.raster_core.specs.Window.{width_of}
use Rattle.t85_core.specs.States.ByRow.{MayGoOn}
use Rattle.tests.proofs.by_row.Rows.run.Given as goal

abbrev pub invariant-rows : goal.invariant-rows
invariant-rows l = record {
  going : l.encoder.is_closed ≡ false;
  ready : MayGoOn l.encoder;
  size_is : l.encoder.size ≡ l.self.size;
  width : width_of l.window ≡ l.self.size.width;
}
