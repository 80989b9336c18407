use Rattle.std.proofs.Common.{◌*◌}
use Rattle.raster_core.proofs.ColumnsAgree.{between_word}
use Rattle.raster_core.proofs.columns.Columns.mask_at.Goals as goal

pub returns : goal.returns
returns c =
    rw (c.mask_at.ensures, c.mask_at-2.ensures) (between_word c.args.self.first c.args.self.end (64 * c.args.place))
