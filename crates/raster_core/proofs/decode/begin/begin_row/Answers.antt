use mathlib.Core.Bool.{beq}
use Rattle.std.proofs.Common.{◌≡◌, true}
use Rattle.raster_core.specs.Window.{shape_mode}
use Rattle.raster_core.proofs.PixelsAreDecoded.{exit_err}
use Rattle.raster_core.proofs.FlagIsDecoded.{first_next, first_none, first_stop, same_of}
use Rattle.raster_core.proofs.RowIsBegun.{begin_pixels, begun_pixels, by_begun, not_true, not_false}
use Rattle.raster_core.proofs.decode.begin.begin_row.Goals as goal
use Rattle.raster_core.proofs.decode.begin.begin_row.Goals.{else-shape-via-then-shape+else-not-place, else-shape-via-else-shape}

pub returns-in_err-pixel-clause-err : goal.returns-in_err-pixel-clause-err
returns-in_err-pixel-clause-err g c = exit_err c.from_residual.result _ (λ s answers lines window h.
    let b = h.before_it (not_true c.args.place.is_begun c.if-not-place.true) in
    (b.start, rw b.taught at (first_stop {mode = shape_mode c.args.shape} c.if-shape.true c.in_err-pixel.ensures.next b.stands)))

pub returns-in_ok-pixel-clause-ok : goal.returns-in_ok-pixel-clause-ok
returns-in_ok-pixel-clause-ok g c = λ s answers lines window h.
    let b = h.before_it (not_true c.args.place.is_begun c.if-not-place.true) in
    let previous = c.args.kept.previous_typical in
    let pixel = c.in_ok-pixel.pixel in
    begin_pixels b.start (λ _. c.if-shape.true)
    (rw b.taught at (first_next {previous = previous} {flag = beq pixel previous} c.if-shape.true c.flag_context.ensures (same_of previous pixel) c.in_ok-pixel.ensures.next b.stands))

pub returns-else-shape-clause-ok : goal.returns-else-shape-clause-ok
returns-else-shape-clause-ok g c = λ s answers lines window h.
    let begun = λ (b : c.args.place.is_begun ≡ true). begun_pixels (c.requires.going b) (h.in_it b) in
    elim c.else-shape.branch [
      | else-shape-via-then-shape+else-not-place w ↦ begun (not_false c.args.place.is_begun w.if-not-place.false)
      | else-shape-via-else-shape w ↦
          by_begun c.args.place.is_begun _ begun (λ none. let b = h.before_it none in begin_pixels b.start (λ e. cc) (first_none w.if-shape.false b))
    ]
