use Rattle.raster_core.proofs.WordsHoldPixels.{agreed_word_is}
use Rattle.raster_core.proofs.narrow.agreed_wide.Goals as goal

pub returns : goal.returns
returns d p q m a b c one other mask =
    rw (d.from.ensures, mask, one, other) (agreed_word_is p q m a b c 128)
