use Rattle.std.proofs.Common.{◌++◌, ap, sym, refl, ◌∙◌, arith, append-nil}
use Rattle.devices.specs.Device.{one_more}
use Rattle.t85_core.specs.RowSink.{copies}
use Rattle.libt85.proofs.BeginningsGrow.{copies_begun, copies_more}
use Rattle.libt85.proofs.RoomSuffices.{text_of, writer_same}
use Rattle.libt85.proofs.memory.RoomRowSink.put_rows.Goals as goal

pub loop-copy-init : goal.loop-copy-init
loop-copy-init c = record { within = omega arith; text = sym (append-nil (text_of c.args.self.now)); unfailed = refl; same_flushes = refl; same_target = refl }

pub loop-copy-preserved : goal.loop-copy-preserved
loop-copy-preserved c =
    let v = c.loop-copy.invariant in
    let put = c.in-Ok.ensures in
    record {
      within = omega (arith, c.loop-copy-test.true);
      text = copies_more (text_of c.args.self.now) c.loop-copy.copy c.args.bytes.now v.text put.whole;
      unfailed = put.failures ∙ v.unfailed;
      same_flushes = put.flushes ∙ v.same_flushes;
      same_target = put.target ∙ v.same_target;
    }

pub returns-in-Err-clause-put : goal.returns-in-Err-clause-put
returns-in-Err-clause-put c =
    let v = c.loop-copy.invariant in
    let put = c.in-Err.ensures in
    record {
      ok = tt;
      err = refl;
      cut = copies_begun c.loop-copy.copy c.args.count c.args.bytes.now c.loop-copy-test.true v.text put.cut;
      grows = omega arith;
      counts = put.failures ∙ ap one_more v.unfailed;
      same_writer = writer_same (put.target ∙ v.same_target) (put.flushes ∙ v.same_flushes);
    }

pub returns-clause-put : goal.returns-clause-put
returns-clause-put c =
    let v = c.loop-copy.invariant in
    record {
      ok = v.text ∙ ap (λ n. text_of c.args.self.now ++ copies n c.args.bytes.now) (omega (arith, v.within, c.loop-copy-test.false));
      err = tt;
      cut = tt;
      grows = omega arith;
      counts = v.unfailed;
      same_writer = writer_same v.same_target v.same_flushes;
    }
