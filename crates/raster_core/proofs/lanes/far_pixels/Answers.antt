use Rattle.raster_core.proofs.RegisterHasFarPixels.{far_before, far_within}
use Rattle.raster_core.proofs.lanes.far_pixels.Goals as goal

pub returns-then-offset-lt8 : goal.returns-then-offset-lt8
returns-then-offset-lt8 c = λ row x j past byte few. far_within row c.args.offset c.args.past c.args.byte x j c.if-offset-lt8.true past byte few

pub returns-else-offset-lt8 : goal.returns-else-offset-lt8
returns-else-offset-lt8 c = λ row x j past byte few. far_before row c.args.offset c.args.past x j c.if-offset-lt8.false c.requires.offset past few
