use Rattle.t85_core.proofs.BytesJoin.WalkEnds.{map_ok, on_err}
use Rattle.t85_core.proofs.ImagesEncode.RowEncoderAdvances.{stream_ended, ending_cut}
use Rattle.qm_core.specs.Encoder.{waiting_bytes}
use Rattle.t85_core.proofs.ImagesEncode.FewBytesAreAppended.{end_few, ending_few}
use Rattle.t85_core.proofs.encoding.by_row.RowEncoder.end.Goals as goal

pub returns-clause-ok : goal.returns-clause-ok
returns-clause-ok g c =
    map_ok c.write_ending.result (λ put image rows origin so. stream_ended (g.P.ByteTarget.view c.write_ending.new.target).text
    (c.in_ok-end_last.ensures.ok image rows origin so) put) c.write_ending.ensures.ok

pub returns-clause-cut : goal.returns-clause-cut
returns-clause-cut g c open_ =
    on_err c.write_ending.result (λ cut image rows origin so. ending_cut (g.P.ByteTarget.view c.write_ending.new.target).text
    (c.in_ok-end_last.ensures.ok image rows origin so) cut) c.write_ending.ensures.cut

pub returns-clause-few : goal.returns-clause-few
returns-clause-few g c =
    end_few (waiting_bytes c.args.self.now.encoder) _ _ _ c.in_ok-end_last.ensures.few
    (ending_few c.end_last.new.self.announced c.end_last.new.self.reset c.end_last.new.self.rows _ _ c.write_ending.result c.write_ending.ensures.ok c.write_ending.ensures.cut)
