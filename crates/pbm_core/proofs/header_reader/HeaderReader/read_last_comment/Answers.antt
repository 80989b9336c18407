use Rattle.std.proofs.Common.{rules}
use Rattle.pbm_core.specs.Pbm.{IsLineEnd}
use Rattle.pbm_core.proofs.HeaderGrows.{comment_goes_on, comment_ends}
use Rattle.pbm_core.proofs.header_reader.HeaderReader.read_last_comment.Goals as goal

pub returns-then-is_line_end : goal.returns-then-is_line_end
returns-then-is_line_end c before is =
    let ends : IsLineEnd c.args.byte = search rules in
    c.whole.ensures _ is.is_width.some is.is_width.within is.is_height.some is.is_height.within
    (comment_ends c.args.self.form c.args.self.width c.args.self.value before c.args.byte is ends)

pub returns : goal.returns
returns c before is =
    let other : ¬ IsLineEnd c.args.byte = search rules in
    comment_goes_on c.args.self.form c.args.self.width c.args.self.value before c.args.byte is other
