use Rattle.std.proofs.Common.{arith}
use Rattle.raster_core.proofs.PixelsAreDecoded.{exit_pair}
use Rattle.raster_core.proofs.TablesFillLanes.{if_ok, if_err}
use Rattle.raster_core.proofs.LanesGiveContexts.{more_then, stops_first, stops_then}
use Rattle.raster_core.proofs.decode.byte.decode_four.Goals as goal

pub returns-in_err-one-clause-pixels : goal.returns-in_err-one-clause-pixels
returns-in_err-one-clause-pixels g c =
    let stop = c.in_err-one.ensures.pixels.1 in
    exit_pair c.from_residual.result _ _ _ c.from_residual.ensures (omega (arith, stop.0), stops_first (omega arith) stop.1)

pub returns-in_err-two-clause-pixels : goal.returns-in_err-two-clause-pixels
returns-in_err-two-clause-pixels g c =
    let stop = c.in_err-two.ensures.pixels.1 in
    exit_pair c.from_residual-in_err-two.result _ _ _ c.from_residual-in_err-two.ensures (omega (arith, stop.0), stops_first (omega arith) (stops_then c.in_ok-one.ensures.pixels.0 stop.1))

pub returns-in_err-three-clause-pixels : goal.returns-in_err-three-clause-pixels
returns-in_err-three-clause-pixels g c =
    let stop = c.in_err-three.ensures.pixels.1 in
    let before = more_then c.in_ok-one.ensures.pixels.0 c.in_ok-two.ensures.pixels.0 in
    exit_pair c.from_residual-in_err-three.result _ _ _ c.from_residual-in_err-three.ensures (omega (arith, stop.0), stops_first (omega arith) (stops_then before stop.1))

pub returns-clause-pixels : goal.returns-clause-pixels
returns-clause-pixels g c =
    let before = more_then (more_then c.in_ok-one.ensures.pixels.0 c.in_ok-two.ensures.pixels.0) c.in_ok-three.ensures.pixels.0 in (
      if_ok c.decode_one-4.result _ _ (λ _. more_then before) c.decode_one-4.ensures.pixels.0,
      if_err c.decode_one-4.result _ _ (λ _ stop. (omega (arith, stop.0), stops_then before stop.1)) c.decode_one-4.ensures.pixels.1,
    )
