use Rattle.raster_core.proofs.EventListsJoin.{two_and_two}
use Rattle.raster_core.proofs.EventsArePut.{puts_as, puts_join, puts_stop}
use Rattle.raster_core.proofs.encode.byte.encode_four.Goals as goal

pub returns-in_err-encode_two : goal.returns-in_err-encode_two
returns-in_err-encode_two g c = puts_stop _ c.from_residual.ensures c.in_err-encode_two.ensures

pub returns : goal.returns
returns g c =
    puts_as (two_and_two c.args.lanes)
    (puts_join c.in_ok-encode_two.ensures c.encode_two-2.ensures)
