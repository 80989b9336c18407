use Rattle.std.proofs.Common.{arith}
use Rattle.t85_core.proofs.StreamsDenote.RasterIsUnique.{one_raster_at, one_raster_of}
use Rattle.t85_core.proofs.StreamsDenote.BodyDenotesRaster.{some_raster_at}
use Rattle.t85_core.proofs.laws.rasters.Goals as goal

pub returns-clause-one_raster : goal.returns-clause-one_raster
returns-clause-one_raster c = λ h n body one other u p q. one_raster_at c.coder_laws.ensures u.accepted (omega (arith, u.to, u.accepted.height_to)) p q

pub returns-clause-some_raster : goal.returns-clause-some_raster
returns-clause-some_raster c = λ h n body u p. some_raster_at c.coder_laws.ensures u.accepted u.from u.to p

pub returns-clause-one_raster_of_stream : goal.returns-clause-one_raster_of_stream
returns-clause-one_raster_of_stream c = λ bytes one other p q. one_raster_of c.coder_laws.ensures p q
