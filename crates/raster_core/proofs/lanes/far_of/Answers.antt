use Rattle.std.proofs.Common.{◌≡◌, suc, ◌-◌, true, false, arith, refl, sym, ◌∙◌, subst}
use Rattle.raster_core.specs.Machine.Lanes.{near, HasFar, AreBeside}
use Rattle.raster_core.proofs.LanesGivePixels.{beside_nominal, beside_moved}
use Rattle.raster_core.proofs.OffsetIsTested.{set_is, clear_is, nominal_none, moved_some}
use Rattle.raster_core.proofs.lanes.far_of.Goals as goal

pub returns-then-this-ne0 : goal.returns-then-this-ne0
returns-then-this-ne0 g c = λ second above.
    let yes = set_is c.if-this-ne0.true refl in
    let some = moved_some c.args.offset (sym c.requires.moved ∙ yes) in
    let e : c.args.offset ≡ suc (c.args.offset - 1) = omega arith in
    rw yes (subst (λ t. AreBeside (near true second above c.far_pixels.result) t second above c.args.byte c.args.past) (sym e)
    (beside_moved (c.args.offset - 1) c.far_pixels.result second above c.args.byte c.args.past (subst (λ t. HasFar c.far_pixels.result t c.args.past c.args.byte) e c.far_pixels.ensures)))

pub returns-else-this-ne0 : goal.returns-else-this-ne0
returns-else-this-ne0 g c = λ second above.
    let no = clear_is c.if-this-ne0.false refl in
    let none = nominal_none c.args.offset (sym c.requires.moved ∙ no) in
    rw no (subst (λ t. AreBeside (near false second above 0) t second above c.args.byte c.args.past) (sym none) (beside_nominal 0 second above c.args.byte c.args.past))
