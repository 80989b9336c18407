use Rattle.std.proofs.Common.{ℕ, ◌≡◌, ◌*◌, ◌∙◌, List, length, ap, sym, refl, arith}
use Rattle.raster_core.proofs.RingHoldsRows.{rows_cut}
use Rattle.raster_core.proofs.RowDecodingEnds.{same_goes, stop_first, stop_pixels, done_plain, done_typical}
use Rattle.raster_core.proofs.decode.decode_beside.Goals as goal
use Rattle.raster_core.proofs.decode.decode_beside.Goals.{then-flag, else-flag+in-Ok}

pub returns-in_err-flag-clause-row : goal.returns-in_err-flag-clause-row
returns-in_err-flag-clause-row g c = λ s answers lines.
    let up = c.rows_above.ensures in
    let n = c.div_ceil-long.ensures in
    let cut = rows_cut c.args.at c.args.shape.width c.args.sides.0.now c.args.row.now c.args.sides.1.now n (c.requires.head ∙ ap (λ m. c.args.at * m) (sym n)) (c.requires.row ∙ sym n) up.above up.second in
    same_goes cut cut (λ h. let f = c.in_err-flag.ensures.err s answers lines _ h in stop_first c.from_residual.ensures.0 h.above f.0 f.1)

pub returns-in-Err-clause-row : goal.returns-in-Err-clause-row
returns-in-Err-clause-row g c = λ s answers lines.
    let up = c.rows_above.ensures in
    let n = c.div_ceil-long.ensures in
    let cut = λ (row : List ℕ) (long : length row ≡ c.div_ceil-long.result). rows_cut c.args.at c.args.shape.width c.args.sides.0.now row c.args.sides.1.now n (c.requires.head ∙ ap (λ m. c.args.at * m) (sym n)) long up.above up.second in
    let row = c.requires.row ∙ sym n in
    same_goes (cut c.args.row.now row) (cut c.decode_pixels.new.current (c.decode_pixels.auto.current ∙ row)) (λ h.
    let b = (c.in_ok-flag.ensures.ok s answers lines _ h).plain c.if-flag.false in
    stop_pixels c.answers.ensures.answers_lie c.apart.ensures h.above (c.in-Err.ensures.leaves.1.any _ _ s answers lines b.0 b.1 b.2 h.above.above_is h.above.second_is))

pub returns-clause-row : goal.returns-clause-row
returns-clause-row g c = λ s answers lines.
    let up = c.rows_above.ensures in
    let n = c.div_ceil-long.ensures in
    let cut = λ (row : List ℕ) (long : length row ≡ c.div_ceil-long.result). rows_cut c.args.at c.args.shape.width c.args.sides.0.now row c.args.sides.1.now n (c.requires.head ∙ ap (λ m. c.args.at * m) (sym n)) long up.above up.second in
    let row = c.requires.row ∙ sym n in
    same_goes (cut c.args.row.now row) (cut c.if-flag.row (c.if-flag.auto.row ∙ row)) (λ h.
    let begins = c.in_ok-flag.ensures.ok s answers lines _ h in
    elim c.if-flag.branch [
      | then-flag v ↦ rw (v.reader-is, v.row-is) (done_typical c.answers.ensures.answers_lie refl v.if-flag.true refl v.copy_from_slice.ensures.after h.above (begins.typical v.if-flag.true))
      | else-flag+in-Ok v ↦
          let b = begins.plain v.if-flag.false in
          let pixels = v.in-Ok.ensures.leaves.0.any _ _ s answers lines b.0 b.1 b.2 h.above.above_is h.above.second_is in
          rw (v.reader-is, v.row-is) (done_plain c.answers.ensures.answers_lie (omega arith) refl v.if-flag.false refl h.above pixels)
    ])
