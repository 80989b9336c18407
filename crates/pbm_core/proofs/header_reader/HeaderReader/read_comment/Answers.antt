use Rattle.std.proofs.Common.{rules}
use Rattle.pbm_core.specs.Pbm.{IsLineEnd}
use Rattle.pbm_core.proofs.HeaderGrows.{grown, gap_closed}
use Rattle.pbm_core.proofs.header_reader.HeaderReader.read_comment.Goals as goal

pub returns-then-is_line_end : goal.returns-then-is_line_end
returns-then-is_line_end c before is =
    let ends : IsLineEnd c.args.byte = search rules in
    grown c.args.byte is (λ rest o. gap_closed rest c.args.byte o ends)
