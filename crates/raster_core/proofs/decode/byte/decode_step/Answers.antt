use Rattle.std.proofs.Common.{arith}
use Rattle.raster_core.proofs.PixelsAreDecoded.{along_none, exit_pair}
use Rattle.raster_core.proofs.TablesFillLanes.{if_ok, if_err}
use Rattle.raster_core.proofs.LanesGiveContexts.{are_first, are_last}
use Rattle.raster_core.proofs.RunsAreSkipped.{skipped_along}
use Rattle.raster_core.proofs.decode.byte.decode_step.Goals as goal

pub returns-then-skip_byte-clause-pixels : goal.returns-then-skip_byte-clause-pixels
returns-then-skip_byte-clause-pixels g c = (skipped_along (c.skip_byte.ensures.skipped c.if-skip_byte.true) (c.past_eight.ensures c.args.registers.offset c.requires.template.2), tt)

pub returns-in_err-half-clause-pixels : goal.returns-in_err-half-clause-pixels
returns-in_err-half-clause-pixels g c =
    let first = are_first (c.has_lanes.ensures.three c.if-not-has_lanes.false) (c.has_lanes.ensures.nominal c.if-not-has_lanes.false) c.first_around-first.ensures in
    let stop = c.in_err-half.ensures.pixels.1 in
    exit_pair c.from_residual.result _ _ _ c.from_residual.ensures (omega (arith, stop.0), stop.1.any _ _ first (rw (c.skip_byte.ensures.skips.2 c.if-skip_byte.false) along_none))

pub returns-clause-pixels : goal.returns-clause-pixels
returns-clause-pixels g c =
    let three = c.has_lanes.ensures.three c.if-not-has_lanes.false in
    let nominal = c.has_lanes.ensures.nominal c.if-not-has_lanes.false in
    let half = c.in_ok-half.ensures.pixels.0.any _ _ (are_first three nominal c.first_around-first.ensures) (rw (c.skip_byte.ensures.skips.2 c.if-skip_byte.false) along_none) in
    let last = are_last three nominal c.last_around-last.ensures in (
      if_ok c.decode_four-2.result _ _ (λ _ more. more.any _ _ last half) c.decode_four-2.ensures.pixels.0,
      if_err c.decode_four-2.result _ _ (λ _ stop. (stop.0, stop.1.any _ _ last half)) c.decode_four-2.ensures.pixels.1,
    )
