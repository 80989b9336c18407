use Rattle.std.proofs.Common.{sym, ◌∙◌, not}
use Rattle.t85_core.specs.RowImage.{may_name}
use Rattle.t85_core.specs.States.ByRow.{view_of}
use Rattle.t85_core.proofs.ImagesEncode.OffsetIsNamed.{offset_named, name_waits}
use Rattle.t85_core.proofs.encoding.by_row.RowEncoder.name_offset.Goals as goal

pub returns-then-takes_name-clause-named : goal.returns-then-takes_name-clause-named
returns-then-takes_name-clause-named c learning image rows window origin text so =
    let e = c.args.self.now in
    offset_named c.args.offset image rows (view_of e learning) window origin text
    (name_waits (not e.is_closed) (may_name e.shape.two_line e.most_offset c.args.offset) (sym c.takes_name.ensures ∙ c.if-takes_name.true)) so
