use Rattle.std.proofs.Common.{◌≡◌, ◌≤◌, ◌+◌, ◌*◌, false}
use Rattle.qm_core.specs.Decoder.{has_stopped}
use Rattle.raster_core.specs.Machine.Decoded.{SkipsFilledAlong, filled_run}
use Rattle.raster_core.proofs.decode.runs.skip_words.Given as goal

abbrev pub invariant-words : goal.invariant-words
invariant-words l = record {
  at : l.at ≡ l.i + 8 * l.words;
  rest : l.rest + 64 * l.words ≡ l.left;
  some : 1 ≤ l.rest;
  stopped : has_stopped l.decoder ≡ has_stopped l.fn.decoder;
  going : 1 ≤ l.words → has_stopped l.fn.decoder ≡ false;
  skipped : SkipsFilledAlong (filled_run l.colour l.i (8 * l.words)) l.above l.second l.fn.decoder l.learned l.decoder;
}

abbrev pub decreases-words : goal.decreases-words
decreases-words l = l.rest
