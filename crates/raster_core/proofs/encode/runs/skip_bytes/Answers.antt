use Rattle.std.proofs.Common.{◌≡◌, ◌+◌, ◌-◌, ◌*◌, arith, refl, sym, ◌∙◌, ap, subst, replicate}
use Rattle.std.proofs.lemmas.List.{replicate-append-replicate}
use Rattle.raster_core.specs.Machine.Uniform.{uniform_event}
use Rattle.raster_core.proofs.EventsArePut.{puts_as, puts_idle, puts_join, puts_none}
use Rattle.raster_core.proofs.BytesHoldRows.{uniform_none, uniform_more}
use Rattle.raster_core.proofs.RunEnds.{ends_above, ends_below, ends_full}
use Rattle.raster_core.specs.Machine.Rows.{StopsAt}
use Rattle.raster_core.proofs.encode.runs.skip_bytes.Goals.{then-words-test+then-is_all+else-skip_pixels, then-words-test+else-is_all, else-words-test}
use Rattle.raster_core.proofs.encode.runs.skip_bytes.Goals as goal

pub words-init : goal.words-init
words-init g c =
    let none : 0 ≡ 8 * (c.args.i - c.args.i) = omega arith in
    record {
      from = omega arith;
      left = omega arith;
      some = omega arith;
      uniform = uniform_none (omega arith);
      puts = puts_as (ap (λ n. replicate n (uniform_event c.args.colour)) none) (puts_none);
      events = omega arith;
      same = refl;
    }

pub words-preserved : goal.words-preserved
words-preserved g c =
    let more : 8 * (c.words.at - c.args.i) + 64 ≡ 8 * ((c.words.at + 8) - c.args.i) = omega arith in
    let h = c.skip_pixels.ensures.done c.if-skip_pixels.true in
    let e = h.count in
    record {
      from = omega arith;
      left = omega arith;
      some = omega arith;
      uniform = uniform_more c.words.at c.words.invariant.from c.words.invariant.uniform
          (c.is_all.ensures.filled c.if-is_all.true) (c.is_all_above.ensures.above c.words-test.true) (c.is_all_above.ensures.second c.words-test.true);
      puts = puts_as (rw (replicate-append-replicate (8 * (c.words.at - c.args.i)) 64 (uniform_event c.args.colour), more) refl)
          (puts_join c.words.invariant.puts h);
      events = omega arith;
      same = h.same ∙ c.words.invariant.same;
    }

pub returns : goal.returns
returns g c =
    let last : c.args.i + (c.words.at - c.args.i) ≡ c.words.at = omega arith in
    record {
      inside = omega arith;
      uniform = c.words.invariant.uniform;
      puts = elim c.words-test.branch [
        | then-words-test+then-is_all+else-skip_pixels w ↦
            let h = w.skip_pixels.ensures in
            rw (w.coder-is) (puts_idle h.lends (h.left w.if-skip_pixels.false) c.words.invariant.puts)
        | then-words-test+else-is_all w ↦ rw (w.coder-is) c.words.invariant.puts
        | else-words-test w ↦ rw (w.coder-is) c.words.invariant.puts
      ];
      stops = subst (λ k. StopsAt c.args.colour c.args.rows k c.words-test.coder) (sym last) (elim c.words-test.branch [
        | then-words-test+then-is_all+else-skip_pixels w ↦
            let h = w.skip_pixels.ensures in
            rw (w.coder-is) (ends_full h.exact w.if-skip_pixels.false (h.left w.if-skip_pixels.false))
        | then-words-test+else-is_all w ↦ ends_below w.is_all.ensures.all w.if-is_all.false
        | else-words-test w ↦ ends_above c.words.left c.words.invariant.left c.is_all_above.ensures.all w.words-test.false
      ]);
    }
