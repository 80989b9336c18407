use Rattle.std.proofs.Common.{◌*◌, arith, sym, ◌∙◌}
use Rattle.raster_core.proofs.FilledBytesAreSkipped.{along_join}
use Rattle.raster_core.proofs.decode.runs.skip_words.Goals as goal

pub words-preserved : goal.words-preserved
words-preserved c =
    record {
      at = omega arith;
      rest = omega (arith, c.words.invariant.rest, c.skip_word.ensures.inside c.words-test.true);
      some = omega (arith, c.skip_word.ensures.inside c.words-test.true);
      stopped = c.skip_word.ensures.skips.0 ∙ c.words.invariant.stopped;
      going = λ _. sym c.words.invariant.stopped ∙ c.skip_word.ensures.skips.1 c.words-test.true;
      skipped = along_join (8 * c.words.words) c.words.invariant.at (omega arith) c.words.invariant.skipped (c.skip_word.ensures.skipped c.words-test.true);
    }
