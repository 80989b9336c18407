use Rattle.std.proofs.Common.{◌≡◌, rules, refl, ◌∙◌, ap, arith}
use Rattle.std.proofs.lemmas.Grind.{common_steps}
use Rattle.raster_core.specs.Packed.{HasLines, Held}
use Rattle.raster_core.specs.Window.{shape_mode}
use Rattle.raster_core.proofs.EventsArePut.{puts_handed}
use Rattle.raster_core.proofs.RowIsPut.{coded_some, counts_to, put_or_failed, row_coded}
use Rattle.raster_core.proofs.encode.encode_row.Goals as goal

pub returns-in_err-encode_as-clause-row : goal.returns-in_err-encode_as-clause-row
returns-in_err-encode_as-clause-row g c = λ p pushed lines going at w.
    let held : HasLines _ lines = rw (c.rows-rows.ensures) w in
    row_coded _ c.rows-rows.result (search rules) (refl, refl) held (c.is_typical-flag.ensures.lines lines w) (search rules)
    (puts_handed c.from_residual.ensures c.in_err-encode_as.ensures) going at

pub returns-clause-fails : goal.returns-clause-fails
returns-clause-fails g c =
    let width : c.rows-rows.result.width ≡ c.args.shape.width = ap (λ (h : Held). h.width) c.rows-rows.ensures ∙ c.requires.row.0 in
    let some = coded_some (shape_mode c.args.shape) _ c.rows-rows.result c.args.kept.now.previous_typical c.is_typical-flag.result c.is_typical-flag.ensures.typical (omega arith) in
    put_or_failed (search rules) (search rules) some c.in_ok-encode_as.ensures

pub returns-clause-events : goal.returns-clause-events
returns-clause-events g c =
    let width : c.rows-rows.result.width ≡ c.args.shape.width = ap (λ (h : Held). h.width) c.rows-rows.ensures ∙ c.requires.row.0 in
    let most = counts_to _ _ _ _ _ c.in_ok-encode_as.ensures in
    let few = most in
    grind (arith, common_steps)

pub returns-clause-row : goal.returns-clause-row
returns-clause-row g c = λ p pushed lines going at w.
    let held : HasLines _ lines = rw (c.rows-rows.ensures) w in
    row_coded _ c.rows-rows.result (search rules) (refl, refl) held (c.is_typical-flag.ensures.lines lines w) (refl, refl) c.in_ok-encode_as.ensures going at
