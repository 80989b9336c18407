use Rattle.std.proofs.Common.{[], sym, ap, subst, arith, append-nil, length-append}
use Rattle.std.specs.Prelude.{replicate}
use Rattle.raster_core.specs.Window.{held}
use Rattle.t85_core.specs.Private.AgainRows.{IsPackedIn}
use Rattle.t85_core.specs.States.ByRow.{Stands, view_of}
use Rattle.t85_core.proofs.BytesJoin.WalkEnds.{map_ok, on_err}
use Rattle.t85_core.proofs.ImagesEncode.RowEncoderAdvances.{stands_many}
use Rattle.t85_core.proofs.ImagesEncode.RowsJoin.{none_read}
use Rattle.t85_core.proofs.ImagesEncode.TypicalRowsAreEncoded.{copies_read, length_copies}
use Rattle.t85_core.proofs.encoding.by_row.RowEncoder.put_equal.Goals as goal

pub returns-then-count-eq0-clause-ok : goal.returns-then-count-eq0-clause-ok
returns-then-count-eq0-clause-ok g c image rows origin so = (
  [],
  none_read (ap (λ s. (g.S.RowSource.view s).remaining) (c.pass_equal-count.ensures.none c.if-count-eq0.true)),
  subst (λ z. Stands image z (view_of c.args.self.now c.args.learning.now) (held c.args.window.now) origin (g.P.ByteTarget.view c.args.target.now).text) (sym (append-nil rows)) so,
)

pub returns-clause-ok : goal.returns-clause-ok
returns-clause-ok g c =
    map_ok c.put_again.result (λ all image rows origin so.
    let passed = c.pass_equal-count.ensures.passed (omega arith) in
    let more = all image rows origin so in
    (replicate c.pass_equal-count.result more.0, copies_read c.pass_equal-count.result passed.0 c.rows.ensures.packed_are_rows (subst (λ b. IsPackedIn image.width b more.0) (sym c.row.ensures) more.1) passed.1, more.2)) c.put_again.ensures.ok

pub returns-clause-cut : goal.returns-clause-cut
returns-clause-cut g c =
    on_err c.put_again.result (λ all image rows origin so.
    let count = c.pass_equal-count.result in
    let passed = c.pass_equal-count.ensures.passed (omega arith) in
    let more = all image rows origin so in
    let here = stands_many image rows (view_of c.args.self.now c.args.learning.now) (held c.args.window.now) origin (g.P.ByteTarget.view c.args.target.now).text so in (
      replicate count more.0,
      copies_read c.pass_equal-count.result passed.0 c.rows.ensures.packed_are_rows (subst (λ b. IsPackedIn image.width b more.0) (sym c.row.ensures) more.1) passed.1,
      (let sum = length-append rows (replicate count more.0) in let many = length_copies count more.0 in
          omega (arith, sum, many, here.0, here.1, c.most_again-most.ensures.left, c.pass_equal-count.ensures.few)),
      more.2,
    )) c.put_again.ensures.cut
