use Rattle.std.proofs.Common.{◌∙◌, ap, le_trans}
use Rattle.std.specs.Prelude.{option_map}
use Rattle.t85_core.specs.Header.{header_bytes}
use Rattle.t85_core.specs.Options.{settings_of}
use Rattle.t85_core.specs.RowSink.{PutsBytes}
use Rattle.t85_core.proofs.BytesJoin.WalkEnds.{on_ok, on_err, always}
use Rattle.t85_core.proofs.StreamsAreWalked.InfoEnds.{exit_all}
use Rattle.t85_core.proofs.ImagesEncode.HeadIsPut.{counts_on, head_plain, head_commented, header_cut, comment_cut}
use Rattle.t85_core.proofs.encoding.steps.write_head.Goals as goal

pub returns-in_err-put : goal.returns-in_err-put
returns-in_err-put g c = exit_all (PutsBytes _ _ _) c.from_residual.result c.from_residual.ensures.1 (record {
  ok = tt;
  err = c.in_err-put.ensures.err;
  cut = header_cut (settings_of c.args.options.now) c.args.size.width c.args.size.height (c.bytes.ensures ∙ ap header_bytes c.header-header.ensures) c.in_err-put.ensures.cut;
  grows = c.put.ensures.grows;
  counts = c.in_err-put.ensures.counts;
  same_writer = c.put.ensures.same_writer;
})

pub returns-in-Some : goal.returns-in-Some
returns-in-Some g c =
    let is = ap (option_map (λ text. text.now)) c.in-Some.is in
    let header = c.bytes.ensures ∙ ap header_bytes c.header-header.ensures in
    record {
      ok = on_ok c.write_comment.result (λ put more. head_commented (settings_of c.args.options.now) c.args.size.width c.args.size.height _ _ _ header is put more)
          (always c.write_comment.result c.in_ok-put.ensures.ok) c.write_comment.ensures.ok;
      err = c.write_comment.ensures.err;
      cut = on_err c.write_comment.result (comment_cut (settings_of c.args.options.now) c.args.size.width c.args.size.height header is c.in_ok-put.ensures.ok) c.write_comment.ensures.cut;
      grows = le_trans c.put.ensures.grows c.write_comment.ensures.grows;
      counts = counts_on _ c.write_comment.result c.in_ok-put.ensures.counts c.write_comment.ensures.counts;
      same_writer = c.write_comment.ensures.same_writer ∙ c.put.ensures.same_writer;
    }

pub returns-in-None : goal.returns-in-None
returns-in-None g c = record {
  ok = head_plain (settings_of c.args.options.now) c.args.size.width c.args.size.height _ _ (c.bytes.ensures ∙ ap header_bytes c.header-header.ensures)
      (ap (option_map (λ text. text.now)) c.in-None.is) c.in_ok-put.ensures.ok;
  err = tt;
  cut = tt;
  grows = c.put.ensures.grows;
  counts = c.in_ok-put.ensures.counts;
  same_writer = c.put.ensures.same_writer;
}
