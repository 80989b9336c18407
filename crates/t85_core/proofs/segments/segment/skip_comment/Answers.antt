use Rattle.std.proofs.Common.{◌∙◌, [], ◌∷◌, ◌++◌, arith}
use Rattle.std.proofs.lemmas.List.{length_push}
use Rattle.byteorder.specs.Endian.{big_bytes}
use Rattle.t85_core.proofs.BytesJoin.CallsJoin.{Consumes-more}
use Rattle.t85_core.proofs.BytesJoin.WalkEnds.{Ends-missing, exit}
use Rattle.t85_core.proofs.StreamsAreWalked.SegmentsAreChecked.{comment_cut}
use Rattle.t85_core.proofs.segments.segment.skip_comment.Goals as goal

pub returns-in_err-next-clause-err : goal.returns-in_err-next-clause-err
returns-in_err-next-clause-err g c =
    let passed = c.text.invariant.passed in
    let cut = comment_cut c.in_ok-len.len passed (omega arith) (omega arith) in
    exit _ _ c.from_residual-in_err-next.ensures.1
    (Ends-missing _ (big_bytes 4 c.in_ok-len.len ++ passed) (Consumes-more _ _ _ _ _ c.in_ok-len.ensures.ok c.text.invariant.taken) cut c.in_err-next.ensures.err)

pub text-preserved : goal.text-preserved
text-preserved g c = record {
  passed = c.text.invariant.passed ++ c.in_ok-next.field-0 ∷ [];
  count = rw (length_push _ _, c.text.invariant.count);
  taken = Consumes-more _ _ _ _ _ c.text.invariant.taken c.in_ok-next.ensures.ok;
  same_source = c.in_ok-next.ensures.same_source ∙ c.text.invariant.same_source;
  unfailed = c.in_ok-next.ensures.counts ∙ c.text.invariant.unfailed;
  no_more = omega arith;
}
