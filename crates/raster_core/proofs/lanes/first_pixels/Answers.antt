use Rattle.std.proofs.Common.{refl, ◌∙◌}
use Rattle.raster_core.proofs.TablesFillLanes.{first_pixels_are, first_moved_are}
use Rattle.raster_core.proofs.OffsetIsTested.{set_is, clear_is}
use Rattle.raster_core.proofs.lanes.first_pixels.Goals as goal

pub returns-then-this-ne0 : goal.returns-then-this-ne0
returns-then-this-ne0 g c = λ j few.
    rw (set_is c.if-this-ne0.true refl) (c.moved_pixel_lanes.ensures j few ∙ first_moved_are c.args.second_bytes c.args.above_bytes c.args.far c.args.row j few)

pub returns : goal.returns
returns g c = λ j few.
    rw (clear_is c.if-this-ne0.false refl) (c.pixel_lanes.ensures j few ∙ first_pixels_are c.args.second_bytes c.args.above_bytes c.args.row j few)
