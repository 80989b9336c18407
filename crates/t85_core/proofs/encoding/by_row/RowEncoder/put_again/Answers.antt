use Rattle.std.proofs.Common.{◌++◌, inr, refl, ap, ◌∙◌, arith}
use Rattle.std.specs.Prelude.{OnErr}
use Rattle.raster_core.specs.Window.{held}
use Rattle.t85_core.specs.Private.AgainRows.{CutsAgain}
use Rattle.t85_core.specs.States.ByRow.{lent_to, view_of}
use Rattle.t85_core.specs.States.Written.{row_start_in}
use Rattle.t85_core.proofs.StreamsAreWalked.InfoEnds.{exit_all}
use Rattle.t85_core.proofs.ImagesEncode.RowEncoderAdvances.{rows_cut, stands_running}
use Rattle.t85_core.proofs.ImagesEncode.TypicalRowsAreEncoded.{copies_coded, events_again, events_are, length_copies, repeated_lined, row_wide}
use Rattle.t85_core.proofs.encoding.by_row.RowEncoder.put_again.Goals as goal

pub returns-in_err-code_again-clause-cut : goal.returns-in_err-code_again-clause-cut
returns-in_err-code_again-clause-cut g c =
    let t = c.requires.typical in
    exit_all (λ z. OnErr z (CutsAgain c.args.count (lent_to c.args.self.now c.args.learning.now (held c.args.window.now) (g.P.ByteTarget.view c.args.target.now).text)
    (g.P.ByteTarget.view c.code_again.new.target).text)) c.from_residual.result c.from_residual.ensures.1
    (λ image rows origin so.
    let r = stands_running image rows (view_of c.args.self.now c.args.learning.now) (held c.args.window.now) origin (g.P.ByteTarget.view c.args.target.now).text t.0 so in
    let row = (row_start_in image.settings image.width r.at r.part).above in (
      row,
      record { wide = row_wide c.args.count r c.requires.lined.1 t.0 t.1 t.2; packed = r.running.is_held.lines_are.row_is },
      rows_cut r _ _ c.writing_laws.ensures (let many = length_copies c.args.count row in omega (arith, many, c.requires.some)) (let many = length_copies c.args.count row in omega (arith, many, r.in_stripe, r.plan_is.stripe_rows_is, c.requires.fewer))
          (events_are c.args.count r c.requires.lined.1 t.0 t.1 t.2) (c.in_err-code_again.ensures.rows _ r.pushed r.running.codes).cut,
    ))

pub returns-clause-ok : goal.returns-clause-ok
returns-clause-ok g c image rows origin so =
    let t = c.requires.typical in
    let r = stands_running image rows (view_of c.args.self.now c.args.learning.now) (held c.args.window.now) origin (g.P.ByteTarget.view c.args.target.now).text t.0 so in
    let is = c.counted-counted.ensures.is c.args.learning.now in
    let wide = ap (λ h. h.width) c.repeat.ensures.repeated ∙ c.requires.lined.1 in (
      (row_start_in image.settings image.width r.at r.part).above,
      record { wide = row_wide c.args.count r c.requires.lined.1 t.0 t.1 t.2; packed = r.running.is_held.lines_are.row_is },
      inr (
        copies_coded c.args.count r c.requires.lined.1 t.0 t.1 t.2 c.requires.some c.requires.left c.requires.fewer c.requires.ready.able.few_rows c.repeat.ensures.repeated
            c.code_again.new.learned c.count_again.new.tally c.code_again.new.encoder (c.in_ok-code_again.ensures.rows _ r.pushed r.running.codes).ok
            (λ lines l few has counted. rw (← is, ← wide) (c.count_again.ensures.counts lines l few has (rw (wide, is) counted)))
            c.count_again.ensures.two_line c.count_again.ensures.most,
        omega arith,
        c.requires.fewer,
      ),
    )

pub returns-clause-goes_on : goal.returns-clause-goes_on
returns-clause-goes_on g c =
    let able = c.requires.ready.able in
    let more = c.in_ok-code_again.ensures.able.1 in
    let somewhere = able.somewhere in
    let put = (c.in_ok-code_again.ensures.rows somewhere.0 somewhere.1 somewhere.2).ok in (
      refl,
      record {
        able = record {
          wide = able.wide;
          named = able.named;
          most = able.most;
          few = omega arith;
          few_rows = able.few_rows;
          rows_to = omega arith;
          inside = omega arith;
          events = events_again c.args.self.now.in_stripe c.args.count c.args.self.now.size.width _ _ able.events more;
          going = c.in_ok-code_again.ensures.able.0;
          somewhere = (_, somewhere.1 ++ put.more, put.codes);
        };
        fewer = c.requires.fewer;
      },
      omega arith,
      refl,
      tt,
    )

pub returns-clause-lined : goal.returns-clause-lined
returns-clause-lined g c = rw c.repeat.ensures.repeated (repeated_lined c.requires.lined.0)
