use Rattle.std.proofs.Common.{◌∙◌, le_trans}
use Rattle.t85_core.specs.RowSink.{PutsBytes}
use Rattle.t85_core.proofs.BytesJoin.WalkEnds.{map_ok, on_err}
use Rattle.t85_core.proofs.BytesJoin.CallsJoin.{Appends-more, beginning_after, beginning_longer}
use Rattle.t85_core.proofs.ImagesEncode.HeadIsPut.{counts_on}
use Rattle.t85_core.proofs.StreamsAreWalked.InfoEnds.{exit_all}
use Rattle.t85_core.proofs.encoding.segments.write_comment.Goals as goal

pub returns-in_err-put : goal.returns-in_err-put
returns-in_err-put g c = exit_all (PutsBytes _ _ _) c.from_residual.result c.from_residual.ensures.1 (record {
  ok = tt;
  err = c.in_err-put.ensures.err;
  cut = beginning_longer c.args.text.now (rw c.write_u32.ensures at c.in_err-put.ensures.cut);
  grows = c.put.ensures.grows;
  counts = c.in_err-put.ensures.counts;
  same_writer = c.put.ensures.same_writer;
})

pub returns : goal.returns
returns g c = record {
  ok = map_ok c.put-2.result (λ more. Appends-more _ _ _ _ _ (rw c.write_u32.ensures at c.in_ok-put.ensures.ok) more) c.put-2.ensures.ok;
  err = c.put-2.ensures.err;
  cut = on_err c.put-2.result (λ more. beginning_after _ (rw c.write_u32.ensures at c.in_ok-put.ensures.ok) more) c.put-2.ensures.cut;
  grows = le_trans c.put.ensures.grows c.put-2.ensures.grows;
  counts = counts_on _ c.put-2.result c.in_ok-put.ensures.counts c.put-2.ensures.counts;
  same_writer = c.put-2.ensures.same_writer ∙ c.put.ensures.same_writer;
}
