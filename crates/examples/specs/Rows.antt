-- The precondition of a row encoder that is rebuilt from its numbers.
use Rattle.std.specs.Prelude.{ℕ, ◌≡◌, ◌<◌, List, length, false}
use Rattle.pbm_core.specs.Pbm.{bytes_of_row}
use Rattle.pbm_core.specs.declared.size.Size.{Size}
use Rattle.raster_core.specs.Window.{width_of}
use Rattle.raster_core.specs.declared.window.Window.{Window}
use Rattle.t85_core.specs.Jbg.{Settings, is_low}
use Rattle.t85_core.specs.States.ByRow.{IsPlan, MayGoOn, plan_of}
use Rattle.t85_core.specs.RowImage.{image_of}
use Rattle.t85_core.specs.declared.encoding.by_row.RowEncoder.{RowEncoder}

-- An encoder of this size and with these settings accepts this row, whatever the context states.
pub record MayTake (s : Settings) (size : Size) (e : RowEncoder) (window : Window) (row : List ℕ) : Type 0 where
  pub low : is_low s size.height ≡ false
  pub plan : IsPlan (image_of s size.width size.height) (plan_of e)
  pub width : width_of window ≡ size.width
  pub whole : length row ≡ bytes_of_row size.width
  pub left : e.rows < size.height
  pub ready : MayGoOn e
