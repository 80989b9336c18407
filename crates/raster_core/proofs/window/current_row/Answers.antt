use Rattle.std.proofs.Common.{refl}
use Rattle.raster_core.proofs.RingHoldsRows.{put_current}
use Rattle.raster_core.proofs.window.current_row.Goals as goal

pub returns-clause-put : goal.returns-clause-put
returns-clause-put c = λ bytes row long wide.
    let e = c.div_ceil-long.ensures in
    put_current c.args.place c.args.width bytes row (rw e refl) (rw e refl) c.requires long wide
