use Rattle.std.proofs.Common.{◌<◌, arith}
use Rattle.raster_core.proofs.ByteHasLines.{first_lanes, both_lanes}
use Rattle.raster_core.proofs.EventsArePut.{puts_as, puts_join, puts_stop}
use Rattle.raster_core.proofs.encode.byte.encode_by_lanes.Goals as goal

pub returns-in_err-encode_four : goal.returns-in_err-encode_four
returns-in_err-encode_four g c =
    let small : c.args.byte.byte < 256 = omega arith in
    let are = c.far_of-far.ensures c.args.byte.around.second c.args.byte.around.above in
    puts_as (first_lanes c.args.byte c.far_of-far.result _ small c.requires.template c.from.ensures are c.first_pixels-first.ensures)
    (puts_stop _ c.from_residual.ensures c.in_err-encode_four.ensures)

pub returns : goal.returns
returns g c =
    let small : c.args.byte.byte < 256 = omega arith in
    let are = c.far_of-far.ensures c.args.byte.around.second c.args.byte.around.above in
    puts_as (both_lanes c.args.byte c.far_of-far.result _ _ small c.requires.template c.from.ensures are c.first_pixels-first.ensures c.last_pixels-last.ensures)
    (puts_join c.in_ok-encode_four.ensures c.encode_four-2.ensures)
