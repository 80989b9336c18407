use Rattle.std.proofs.Common.{arith, ap, length-drop, ◌∙◌, take_all}
use Rattle.std.proofs.lemmas.List.{take_rest}
use Rattle.std.proofs.Math.Seq.{take-add}
use Rattle.devices.specs.Device.{one_more}
use Rattle.devices.proofs.WritesJoin.{Appends-more, Appends-keeps}
use Rattle.devices.proofs.write.write_counted.Goals as goal

pub loop-at-preserved : goal.loop-at-preserved
loop-at-preserved g c =
    let v = c.loop-at.invariant in
    let wrote = c.in-Ok.ensures in
    let h = rw take_rest at wrote.bytes in
    record {
      within = grind arith;
      written = rw take-add (Appends-more _ _ _ _ _ v.written h);
      unflushed = (λ some. wrote.unflushed (wrote.some (omega (arith, length-drop c.loop-at.at c.args.bytes.now, c.loop-at-test.true))));
      flushes = wrote.flushes ∙ v.flushes;
      target = wrote.target ∙ v.target;
      failures = wrote.failures ∙ v.failures;
    }

pub returns-in-Err : goal.returns-in-Err
returns-in-Err g c =
    let v = c.loop-at.invariant in
    let wrote = c.in-Err.ensures in
    record {
      whole = tt;
      within = v.within;
      front = Appends-keeps _ _ _ _ v.written wrote.bytes;
      unflushed = tt;
      flushes = wrote.flushes ∙ v.flushes;
      target = wrote.target ∙ v.target;
      failures = wrote.failures ∙ ap one_more v.failures;
    }

pub returns : goal.returns
returns g c =
    let v = c.loop-at.invariant in
    record {
      whole = rw (← (take_all c.loop-at.at c.args.bytes.now (omega arith))) v.written;
      within = tt;
      front = tt;
      unflushed = (λ some. v.unflushed (omega arith));
      flushes = v.flushes;
      target = v.target;
      failures = v.failures;
    }
