use Rattle.raster_core.proofs.decode.runs.skip_word.Goals as goal

pub returns-then-is_all_above-clause-skipped : goal.returns-then-is_all_above-clause-skipped
returns-then-is_all_above-clause-skipped c = λ is. record {
  above_filled = c.is_all_above.ensures.above c.if-is_all_above.true;
  second_filled = c.is_all_above.ensures.second c.if-is_all_above.true;
  none = λ e. cc;
  decoded = λ p answers h.
      let k = rw (c.uniform_context.ensures) at (c.skip.ensures.skipped p answers h is) in
      (k.0, k.1, λ _. k.2);
}
