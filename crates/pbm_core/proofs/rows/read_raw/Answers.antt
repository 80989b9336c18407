use Rattle.std.proofs.Common.{◌∙◌}
use Rattle.pbm_core.proofs.BytesPackPixels.{raw_row}
use Rattle.pbm_core.proofs.CallsRead.{passed, reads}
use Rattle.pbm_core.proofs.rows.read_raw.Goals as goal

pub returns : goal.returns
returns g c =
    let filled = c.in_ok-fill.ensures in
    let whole = c.fill.auto.buf ∙ c.requires in
    reads (passed filled) (raw_row c.args.size.width filled.given c.fill.new.buf _ c.args.size.some_width whole filled.value.0 filled.value.1 c.clear_padding.ensures)
