use Rattle.std.proofs.Common.{◌≡◌, ◌∙◌, length, ap, arith}
use Rattle.std.proofs.lemmas.List.{length-take-le}
use Rattle.pbm_core.specs.Pbm.{bytes_of_row}
use Rattle.libt85.proofs.PbmIsRead.{no_rows_left, row_reads}
use Rattle.libt85.proofs.pbm.T85Pbm.read_row.Goals as goal

pub returns-then-self-eq0 : goal.returns-then-self-eq0
returns-then-self-eq0 c = no_rows_left c.if-self-ne-VERSION.false c.if-self-ne-ROWS.false c.if-self-eq0.true c.alone-then-self-eq0.ensures.answer c.alone-then-self-eq0.ensures.taken

pub returns : goal.returns
returns c =
    let size = c.in-Some.ensures.some in
    let needed : c.row_bytes-needed.result ≡ bytes_of_row c.args.self.now.width = c.row_bytes-needed.ensures ∙ ap bytes_of_row size.0 in
    let long : length c.take_row.new.row ≡ c.row_bytes-needed.result = c.take_row.auto.row ∙ length-take-le c.row_bytes-needed.result c.args.row.now (omega (arith, c.if-row-needed.false)) in
    row_reads c.take_row.new.row c.if-self-ne-VERSION.false c.if-self-ne-ROWS.false (omega (arith, c.if-self-eq0.false)) needed
    (omega (arith, c.if-row-needed.false)) long c.take_row.ensures.same_width
    c.take_row.ensures.same_form c.take_row.ensures.within c.take_row.ensures.tells
