use Rattle.std.specs.Prelude.{OnErr, List, Bool, ◌++◌, ◌∷◌, []}
use Rattle.std.proofs.Common.{arith, ◌∙◌}
use Rattle.raster_core.specs.Packed.{Held}
use Rattle.raster_core.specs.Window.{held}
use Rattle.t85_core.specs.States.Written.{row_start_in}
use Rattle.t85_core.specs.States.State.{lines_with}
use Rattle.t85_core.specs.States.Sent.{Origin}
use Rattle.t85_core.specs.States.RowStream.{StreamCut}
use Rattle.t85_core.specs.States.ByRow.{Runs, IsBelow, view_of}
use Rattle.t85_core.specs.RowImage.{Image}
use Rattle.t85_core.proofs.StreamsAreWalked.InfoEnds.{exit_all}
use Rattle.t85_core.proofs.ImagesEncode.RowEncoderAdvances.{events_more, row_coded, row_cut, lines_are}
use Rattle.t85_core.specs.MostBytes.{CodesFew}
use Rattle.t85_core.proofs.ImagesEncode.FewBytesAreAppended.{row_put_few, row_cut_few}
use Rattle.t85_core.proofs.encoding.by_row.RowEncoder.code.Goals as goal

pub returns-in_err-code_row-clause-cut : goal.returns-in_err-code_row-clause-cut
returns-in_err-code_row-clause-cut g c =
    exit_all (λ r. OnErr r ((image : Image) (rows : List (List Bool)) (row : List Bool) (before : Held) (origin : Origin) → IsBelow row before (held c.args.window.now) →
    Runs image rows (view_of c.args.self.now c.args.learning.now) before origin (g.P.ByteTarget.view c.args.target.now).text →
    StreamCut image (rows ++ row ∷ []) origin (g.P.ByteTarget.view c.code_row.new.target).text)) c.from_residual.result c.from_residual.ensures.1
    (λ image rows row before origin below r. row_cut row (held c.args.window.now) _ below c.requires.lined.1 r c.writing_laws.ensures c.requires.ready.1.fewer
    (c.in_err-code_row.ensures.row (row_start_in image.settings image.width r.at r.part).state.place r.pushed (lines_with (row_start_in image.settings image.width r.at r.part) row) r.running.codes
    (lines_are row (held c.args.window.now) (g.P.ByteTarget.view c.args.target.now).text below c.requires.lined.1 r)).cut)

pub returns-clause-ok : goal.returns-clause-ok
returns-clause-ok g c image rows row before origin below r =
    let is = c.counted-counted.ensures.is c.args.learning.now in
    row_coded row (held c.args.window.now) _ below c.requires.lined.1 r c.requires.ready.0 c.requires.ready.1.fewer c.requires.ready.1.able.few_rows c.code_row.new.learned c.count_row.new.tally
    c.code_row.new.encoder
    (c.in_ok-code_row.ensures.row (row_start_in image.settings image.width r.at r.part).state.place r.pushed (lines_with (row_start_in image.settings image.width r.at r.part) row) r.running.codes
    (lines_are row (held c.args.window.now) (g.P.ByteTarget.view c.args.target.now).text below c.requires.lined.1 r)).ok
    (λ lines l few has counted. rw (← is, ← c.requires.lined.1) (c.count_row.ensures.counts lines l few has (rw (c.requires.lined.1, is) counted)))
    c.count_row.ensures.two_line c.count_row.ensures.most

pub returns-clause-able : goal.returns-clause-able
returns-clause-able g c =
    let able = c.requires.ready.1.able in
    let more = c.in_ok-code_row.ensures.able.1 in
    let somewhere = able.somewhere in
    let put = (c.in_ok-code_row.ensures.row somewhere.0 somewhere.1 c.requires.lined.0.0 somewhere.2 c.requires.lined.0.1).ok in
    record {
      wide = able.wide;
      named = able.named;
      most = able.most;
      few = omega arith;
      few_rows = able.few_rows;
      rows_to = omega arith;
      inside = omega arith;
      events = events_more c.args.self.now.in_stripe c.args.self.now.size.width _ _ able.events (omega arith);
      going = c.in_ok-code_row.ensures.able.0;
      somewhere = (_, somewhere.1 ++ put.more, put.codes);
    }

pub returns-in_err-code_row-clause-few : goal.returns-in_err-code_row-clause-few
returns-in_err-code_row-clause-few g c =
    let somewhere = c.requires.ready.1.able.somewhere in
    exit_all (CodesFew c.args.self.now _ (g.P.ByteTarget.view c.args.target.now).text (g.P.ByteTarget.view c.code_row.new.target).text) c.from_residual.result c.from_residual.ensures.1
    (record {
      ok = tt;
      err = row_cut_few c.writing_laws.ensures c.args.self.now.encoder somewhere.0 c.args.learning.now.learned somewhere.1 somewhere.2 _ _ c.args.self.now.shape c.args.self.now.kept
          c.requires.lined.0.0 (c.requires.lined.0.1.row_wide ∙ c.requires.lined.1)
          (c.in_err-code_row.ensures.row somewhere.0 somewhere.1 c.requires.lined.0.0 somewhere.2 c.requires.lined.0.1).cut;
    })

pub returns-clause-few : goal.returns-clause-few
returns-clause-few g c =
    let somewhere = c.requires.ready.1.able.somewhere in
    record {
      ok = row_put_few c.writing_laws.ensures c.args.self.now.encoder somewhere.0 c.args.learning.now.learned somewhere.1 somewhere.2 _ _ c.args.self.now.shape c.args.self.now.kept
          c.requires.lined.0.0 c.code_row.new.encoder c.code_row.new.learned (c.requires.lined.0.1.row_wide ∙ c.requires.lined.1)
          (c.in_ok-code_row.ensures.row somewhere.0 somewhere.1 c.requires.lined.0.0 somewhere.2 c.requires.lined.0.1).ok;
      err = tt;
    }
