use Rattle.std.proofs.Common.{◌≡◌, suc, ◌-◌, ◌/◌, ◌%◌, ◌^◌, ◌<◌, arith, refl, sym, ◌∙◌, subst}
use Rattle.raster_core.specs.Lines.{adaptive}
use Rattle.raster_core.specs.Machine.Registers.{bit, AreAt}
use Rattle.raster_core.proofs.RegistersGiveContexts.{adaptive_moved, three_line_moved, two_line_moved}
use Rattle.raster_core.proofs.OffsetIsTested.{set_is, clear_is}
use Rattle.raster_core.proofs.context.moved_context.Goals as goal
use Rattle.raster_core.proofs.context.moved_context.Goals.{then-this-ne0, else-this-ne0}

pub returns : goal.returns
returns g c = λ typical lines x r.
    let few : c.args.offset - 1 < 127 = omega arith in
    let e : c.args.offset ≡ suc (c.args.offset - 1) = omega arith in
    let a = subst (λ t. c.args.past / 2 ^ (c.args.offset - 1) % 2 ≡ bit (adaptive lines t x)) (sym e)
    (adaptive_moved (subst (λ t. AreAt lines t c.args.second c.args.above c.args.past x) e r) few) in
    elim c.if-this-ne0.branch [
      | then-this-ne0 w ↦ c.of.ensures ∙ (w.number-is ∙ rw (set_is w.if-this-ne0.true refl, a) (two_line_moved r))
      | else-this-ne0 w ↦ c.of.ensures ∙ (w.number-is ∙ rw (clear_is w.if-this-ne0.false refl, a) (three_line_moved r))
    ]
