use Rattle.std.proofs.Common.{◌+◌, subst, sym, arith}
use Rattle.libt85.specs.Pbm.{EndsPbm}
use Rattle.libt85.proofs.PbmIsRead.{ends_whole, ends_in_rows}
use Rattle.libt85.proofs.pbm.t85_pbm_end.Goals as goal

pub returns-then-pbm-eq0 : goal.returns-then-pbm-eq0
returns-then-pbm-eq0 c = ends_whole c.args.pbm.now c.if-pbm-ne-VERSION.false c.if-pbm-eq-ROWS.true c.if-pbm-eq0.true

pub returns-then-pbm-eq-ROWS : goal.returns-then-pbm-eq-ROWS
returns-then-pbm-eq-ROWS c =
    let e = c.end-then-pbm-eq-ROWS.ensures in
    subst (λ n. EndsPbm c.args.pbm.now (30 + n)) (sym c.number-then-pbm-eq-ROWS.ensures)
    (ends_in_rows c.args.pbm.now c.end-then-pbm-eq-ROWS.result c.if-pbm-ne-VERSION.false c.if-pbm-eq-ROWS.true (omega (arith, c.if-pbm-eq0.false)) e.truncated
    (λ form width before row has. e.ends form width before row (rw c.row_reader.ensures has)))
