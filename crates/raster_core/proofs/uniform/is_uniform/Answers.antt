use Rattle.raster_core.proofs.ContextsStayUniform.{nominal_eight, moved_eight}
use Rattle.raster_core.proofs.OffsetIsTested.{set_is, clear_is, nominal_none, moved_some}
use Rattle.raster_core.proofs.uniform.is_uniform.Goals as goal

pub returns-then-surrounds-clause-uniform : goal.returns-then-surrounds-clause-uniform
returns-then-surrounds-clause-uniform g c = λ far mode lines x s a p.
    let some = moved_some c.args.offset (set_is c.if-this-ne0.true c.requires.moved) in
    let near = c.surrounds.ensures in
    let on = c.if-surrounds.true in
    moved_eight mode some c.requires.offset (record { second_is = s; above_is = a; past_is = p }) (record { second_is = near.second on; above_is = near.above on; past_is = near.past on })
    (c.surrounds_far.ensures.far far)

pub returns-else-this-ne0-clause-uniform : goal.returns-else-this-ne0-clause-uniform
returns-else-this-ne0-clause-uniform g c = λ on mode lines x s a p.
    let e = nominal_none c.args.offset (clear_is c.if-this-ne0.false c.requires.moved) in
    let near = c.surrounds-else-this-ne0.ensures in
    rw e (nominal_eight mode (record { second_is = s; above_is = a; past_is = rw e at p }) (record { second_is = near.second on; above_is = near.above on; past_is = near.past on }))
