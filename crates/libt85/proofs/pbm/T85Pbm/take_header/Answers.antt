use Rattle.std.proofs.Common.{subst, sym, ap, ◌∙◌, ◌++◌, take}
use Rattle.pbm_core.specs.HeaderPieces.{DecidesHeader, HasScanned}
use Rattle.libt85.proofs.PbmIsRead.{enters}
use Rattle.libt85.specs.Pbm.{form_number}
use Rattle.libt85.proofs.pbm.T85Pbm.take_header.Goals as goal

pub returns-in-Header-clause-tells : goal.returns-in-Header-clause-tells
returns-in-Header-clause-tells c before is =
    let scanned : HasScanned c.header_reader-reader.result before = rw c.header_reader-reader.ensures is.scanned in
    let takes = c.read-progress.ensures.takes before scanned in
    let header = subst (λ o. DecidesHeader (before ++ take c.read-progress.result.taken c.args.bytes.now) c.read-progress.new.self o) c.in-Header.is takes.decides in
    let e = c.enter_rows.ensures in
    (λ row. enters c.in-Header.size header (e.version ∙ c.requires.version) e.next e.width e.height e.form e.left e.filled e.made, e.form_number ∙ ap form_number (sym e.form))
