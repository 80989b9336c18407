use Rattle.std.proofs.Common.{◌≡◌, ◌-◌, ◌+◌, ◌++◌, ℕ, sym, ap, ◌∙◌, refl, le_trans, subst, arith}
use Rattle.std.specs.Io.KnownBytes.{Appends}
use Rattle.devices.specs.Device.{AppendsBeginning}
use Rattle.t85_core.specs.Failures.{writes_after}
use Rattle.t85_core.specs.RowSink.{PutsBytes, copies}
use Rattle.t85_core.proofs.BytesJoin.CallsJoin.{Appends-more, beginning_after, beginning_longer}
use Rattle.t85_core.proofs.BodiesDecode.RowIsPut.{appends_nothing}
use Rattle.t85_core.proofs.BodiesDecode.TypicalRowsAreCopies.{copies_next, copies_front}
use Rattle.t85_core.proofs.StreamsAreWalked.InfoEnds.{exit_all}
use Rattle.t85_core.proofs.row_sink.OutputBufferRowSink.put_rows.Goals as goal

pub loop-copy-init : goal.loop-copy-init
loop-copy-init g c = record { within = omega arith; text = appends_nothing _; grows = omega arith; unfailed = refl; same_writer = refl }

pub loop-copy-preserved : goal.loop-copy-preserved
loop-copy-preserved g c =
    let v = c.loop-copy.invariant in
    record {
      within = omega (arith, c.loop-copy-test.true);
      text = subst (Appends _ _) (sym (copies_next c.loop-copy.copy c.args.bytes.now)) (Appends-more _ _ _ _ _ v.text c.in_ok-put.ensures.ok);
      grows = le_trans v.grows c.put.ensures.grows;
      unfailed = c.in_ok-put.ensures.counts ∙ v.unfailed;
      same_writer = c.put.ensures.same_writer ∙ v.same_writer;
    }

pub returns-in_err-put-clause-put : goal.returns-in_err-put-clause-put
returns-in_err-put-clause-put g c =
    let v = c.loop-copy.invariant in
    let k = c.loop-copy.copy in
    let bytes = c.args.bytes.now in
    let left : ℕ = c.args.count - (k + 1) in
    let all : k + 1 + left ≡ c.args.count = omega (arith, c.loop-copy-test.true) in
    let parts : copies c.args.count bytes ≡ (copies k bytes ++ bytes) ++ copies left bytes =
    ap (λ n. copies n bytes) (sym all) ∙ copies_front (k + 1) left bytes ∙ ap (λ z. z ++ copies left bytes) (copies_next k bytes) in
    exit_all (PutsBytes _ _ _) c.from_residual.result c.from_residual.ensures.1 (record {
      ok = tt;
      err = c.in_err-put.ensures.err;
      cut = subst (AppendsBeginning _ _) (sym parts) (beginning_longer _ (beginning_after _ v.text c.in_err-put.ensures.cut));
      grows = le_trans v.grows c.put.ensures.grows;
      counts = c.in_err-put.ensures.counts ∙ ap (writes_after _) v.unfailed;
      same_writer = c.put.ensures.same_writer ∙ v.same_writer;
    })
