use Rattle.std.proofs.Common.{ap, sym, refl, ◌∙◌, arith, append-nil}
use Rattle.devices.specs.Device.{one_more}
use Rattle.t85_core.specs.RowSink.{Writer}
use Rattle.libt85.specs.LinedSink.{lined_state, taken}
use Rattle.libt85.proofs.BeginningsGrow.{copies_begun, copies_more}
use Rattle.libt85.proofs.lined_sink.LinedSinkRowSink.put_rows.Goals as goal

pub loop-copy-init : goal.loop-copy-init
loop-copy-init c = record { within = omega arith; text = sym (append-nil (taken (lined_state c.args.self.now))); same_row = refl; unfailed = refl; same_target = refl }

pub loop-copy-preserved : goal.loop-copy-preserved
loop-copy-preserved c =
    let v = c.loop-copy.invariant in
    let put = c.put_row.ensures in
    record {
      within = omega (arith, c.loop-copy-test.true);
      text = copies_more (taken (lined_state c.args.self.now)) c.loop-copy.copy c.args.bytes.now v.text put.taken;
      same_row = put.same_row ∙ v.same_row;
      unfailed = put.same_failures ∙ v.unfailed;
      same_target = put.same_target ∙ v.same_target;
    }

pub put_row-requires-clause-long : goal.put_row-requires-clause-long
put_row-requires-clause-long c = c.requires ∙ sym c.loop-copy.invariant.same_row

pub returns-then-self-clause-put : goal.returns-then-self-clause-put
returns-then-self-clause-put c =
    let v = c.loop-copy.invariant in
    let spill = c.spill.ensures in
    record {
      ok = tt;
      err = refl;
      cut = copies_begun c.loop-copy.copy c.args.count c.args.bytes.now c.loop-copy-test.true v.text spill.taken;
      grows = omega arith;
      counts = spill.failures ∙ ap one_more v.unfailed;
      same_writer = ap (λ target. (let w : Writer = record { reference = 0; target = target; flushes = 0 } in w)) (spill.same_target ∙ v.same_target);
    }
