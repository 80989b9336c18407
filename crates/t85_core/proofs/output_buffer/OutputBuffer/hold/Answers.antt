use Rattle.std.proofs.Common.{◌-◌, length, take, drop, sym, refl, le_trans, ◌∙◌, take-append-drop, length-drop, length-take, arith}
use Rattle.std.proofs.lemmas.List.{take_rest}
use Rattle.std.proofs.Math.Seq.{take-add}
use Rattle.t85_core.specs.RowSink.{PutsBytes}
use Rattle.t85_core.proofs.BytesJoin.CallsJoin.{Appends-more, Appends-keeps}
use Rattle.t85_core.proofs.StreamsAreWalked.InfoEnds.{exit_all}
use Rattle.t85_core.proofs.output_buffer.OutputBuffer.hold.Goals as goal

pub loop-taken-init : goal.loop-taken-init
loop-taken-init g c = record {
  within = c.fill-taken.ensures.bound;
  text = c.fill-taken.ensures.text;
  grows = rw c.fill-taken.ensures.lent (omega arith);
  unfailed = rw c.fill-taken.ensures.lent refl;
  same_writer = rw c.fill-taken.ensures.lent refl;
}

pub returns-in_err-write_held : goal.returns-in_err-write_held
returns-in_err-write_held g c =
    let v = c.loop-taken.invariant in
    exit_all (PutsBytes _ _ _) c.from_residual.result c.from_residual.ensures.1 (record {
      ok = tt;
      err = c.in_err-write_held.ensures.err;
      cut = record {
        front = take c.loop-taken.taken c.args.bytes.now;
        rest = drop c.loop-taken.taken c.args.bytes.now;
        text_is = sym (take-append-drop c.loop-taken.taken c.args.bytes.now);
        appends = Appends-keeps _ _ _ _ v.text c.in_err-write_held.ensures.text;
      };
      grows = le_trans v.grows c.in_err-write_held.ensures.writes.1;
      counts = rw (c.in_err-write_held.ensures.writes.0, v.unfailed);
      same_writer = c.in_err-write_held.ensures.writes.2 ∙ v.same_writer;
    })

pub loop-taken-preserved : goal.loop-taken-preserved
loop-taken-preserved g c =
    let v = c.loop-taken.invariant in
    let wrote = c.in_ok-write_held.ensures in
    let more = rw take_rest at c.fill-taken-in-loop-taken.ensures.text in
    record {
      within = omega (arith, length-drop c.loop-taken.taken c.args.bytes.now, length-take (length c.args.bytes.now - c.loop-taken.taken) (drop c.loop-taken.taken c.args.bytes.now));
      text = rw take-add (Appends-more _ _ _ _ _ (Appends-keeps _ _ _ _ v.text wrote.text) more);
      grows = rw c.fill-taken-in-loop-taken.ensures.lent (le_trans v.grows wrote.writes.1);
      unfailed = rw c.fill-taken-in-loop-taken.ensures.lent (wrote.writes.0 ∙ v.unfailed);
      same_writer = rw c.fill-taken-in-loop-taken.ensures.lent (wrote.writes.2 ∙ v.same_writer);
    }
