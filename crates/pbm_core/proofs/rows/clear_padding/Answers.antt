use Rattle.std.proofs.Common.{length}
use Rattle.pbm_core.proofs.RowsAreMasked.{masked_same}
use Rattle.pbm_core.proofs.rows.clear_padding.Goals as goal

pub returns : goal.returns
returns c = masked_same c.args.size.width (length c.args.row.now) c.args.row.now c.requires
