use Rattle.raster_core.specs.Window.{shape_mode}
use Rattle.raster_core.proofs.EventsArePut.{puts_as, puts_none}
use Rattle.raster_core.proofs.RowIsPut.{first_is_none}
use Rattle.raster_core.proofs.encode.encode_flag.Goals as goal

pub returns-else-shape : goal.returns-else-shape
returns-else-shape g c =
    puts_as (first_is_none (shape_mode c.args.shape) c.args.previous c.args.flag c.if-shape.false) (puts_none)
