use Rattle.std.proofs.Common.{◌≡◌, ℕ, ◌+◌, ◌*◌, ◌%◌, ◌^◌, ◌<◌, sym, ◌∙◌, arith}
use Rattle.std.proofs.Math.Nat.{mod-eq_of_lt}
use Rattle.std.proofs.lemmas.Nat.{or_shifted}
use Rattle.raster_core.specs.Machine.Words.{word}
use Rattle.raster_core.proofs.WordsHoldPixels.{word_cat, word_lt}
use Rattle.raster_core.proofs.narrow.both_words.Goals as goal

-- no bit is lost
whole : (w : ℕ) → w < 2 ^ 64 → w * 2 ^ 64 % 2 ^ 128 ≡ w * 2 ^ 64
whole w h = mod-eq_of_lt (omega arith)

pub returns : goal.returns
returns c p place first second =
    rw (c.from.ensures, c.from-2.ensures, first, second, whole (word p place 64) (word_lt p place 64))
    (or_shifted (word p place 64) 64 (word p (place + 64) 64) (word_lt p (place + 64) 64) ∙ sym (word_cat p place 64 64))
