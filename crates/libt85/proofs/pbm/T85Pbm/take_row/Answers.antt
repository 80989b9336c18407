use Rattle.std.proofs.Common.{◌∙◌, ℕ, List, ◌++◌, take, ap, take_all, arith, []}
use Rattle.libt85.specs.declared.pbm.T85Pbm.{T85Pbm}
use Rattle.pbm_core.specs.Pbm.{bytes_of_row}
use Rattle.pbm_core.specs.declared.fault.PbmFault.TheVariants.{Truncated}
use Rattle.libt85.specs.Pbm.{row_reader_of}
use Rattle.libt85.proofs.PbmIsRead.{filled_in, filled_out, row_in, fault_in, row_goes_on, row_ends, row_fault}
use Rattle.libt85.proofs.pbm.T85Pbm.take_row.Goals as goal

pub returns-in-More-clause-tells : goal.returns-in-More-clause-tells
returns-in-More-clause-tells c before rows is =
    let p : T85Pbm = c.args.self.now in
    let given : List ℕ = take c.read-progress.result.taken c.args.bytes.now in
    let filled = filled_in (row_reader_of p) c.args.row.now is.part c.form.ensures c.requires.width c.requires.whole is.filled in
    let takes = c.read-progress.ensures.takes is.part (rw c.row_reader-reader.ensures filled) in
    let more = rw c.in-More.is at takes.decides in
    let whole = c.read-progress.auto.row ∙ c.requires.whole in (
      takes.all_taken c.in-More.is,
      row_goes_on p c.read-progress.new.self c.read-progress.new.row given is c.requires.left
          (filled_out c.read-progress.new.self c.read-progress.new.row (is.part ++ given) c.form.ensures c.requires.width whole more.0),
      row_fault p given Truncated is c.requires.left (fault_in (is.part ++ given) Truncated c.form.ensures c.requires.width more.1),
    )

pub returns-in-Row-clause-tells : goal.returns-in-Row-clause-tells
returns-in-Row-clause-tells c before rows is =
    let p : T85Pbm = c.args.self.now in
    let given : List ℕ = take c.read-progress.result.taken c.args.bytes.now in
    let filled = filled_in (row_reader_of p) c.args.row.now is.part c.form.ensures c.requires.width c.requires.whole is.filled in
    let takes = c.read-progress.ensures.takes is.part (rw c.row_reader-reader.ensures filled) in
    let row = rw c.in-Row.is at takes.decides in
    let whole = c.read-progress.auto.row ∙ c.requires.whole in
    record {
      pixels = row.0.pixels;
      reads = row_ends p c.read-progress.new.self c.read-progress.new.row given row.0.pixels is c.requires.left
          (row_in (is.part ++ given) row.0.pixels c.form.ensures c.requires.width row.0.is_row)
          (filled_out c.read-progress.new.self c.read-progress.new.row [] c.form.ensures c.requires.width whole row.1);
      packed = take_all (bytes_of_row p.width) c.read-progress.new.row (let e = ap bytes_of_row c.requires.width in omega (arith, e, whole)) ∙ row.0.packed;
    }

pub returns-in-Broken-clause-tells : goal.returns-in-Broken-clause-tells
returns-in-Broken-clause-tells c before rows is =
    let p : T85Pbm = c.args.self.now in
    let given : List ℕ = take c.read-progress.result.taken c.args.bytes.now in
    let filled = filled_in (row_reader_of p) c.args.row.now is.part c.form.ensures c.requires.width c.requires.whole is.filled in
    let takes = c.read-progress.ensures.takes is.part (rw c.row_reader-reader.ensures filled) in
    let broken = rw c.in-Broken.is at takes.decides in (
      row_fault p given c.in-Broken.fault is c.requires.left (fault_in (is.part ++ given) c.in-Broken.fault c.form.ensures c.requires.width broken.0),
      broken.1,
      rw c.number.ensures at (c.end.ensures.ended is.version_is),
    )
