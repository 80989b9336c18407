use Rattle.raster_core.proofs.EventsArePut.{puts_join, puts_stop}
use Rattle.raster_core.proofs.encode.byte.encode_two.Goals as goal

pub returns-in_err-encode_one : goal.returns-in_err-encode_one
returns-in_err-encode_one g c = puts_stop _ c.from_residual.ensures c.in_err-encode_one.ensures

pub returns : goal.returns
returns g c = puts_join c.in_ok-encode_one.ensures c.encode_one-2.ensures
