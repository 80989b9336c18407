use Rattle.libt85.proofs.ZeroMeansSuccess.{decoded_image, decoded_rows, encoded_stream}
use Rattle.libt85.proofs.laws.answers.Goals as goal

pub returns : goal.returns
returns c =
    let one = c.rasters.ensures.one_raster_of_stream in
    record { image = decoded_image one; rows = decoded_rows one; stream = encoded_stream one }
