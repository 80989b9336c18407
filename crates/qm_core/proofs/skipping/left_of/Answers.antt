use Rattle.std.proofs.Common.{◌≡◌, ◌*◌, ◌-◌, arith, ap}
use Rattle.qm_core.specs.Table.{row_at}
use Rattle.qm_core.specs.Place.{state_of}
use Rattle.qm_core.specs.Puts.{event_of}
use Rattle.qm_core.proofs.RunLowersSize.{scaled, no_room, room}
use Rattle.qm_core.proofs.skipping.left_of.Goals as goal

pub returns-then-span-upper-clause-none : goal.returns-then-span-upper-clause-none
returns-then-span-upper-clause-none c p e _ =
    no_room (state_of p c.args.learned.now) (event_of c.args.cx c.args.pixel) c.args.count c.cell-cell.ensures
    (let u = scaled c.args.count _ _ c.entry_of.ensures.span in omega (arith, u, e, c.if-span-upper.true))

pub returns-clause-some : goal.returns-clause-some
returns-clause-some c p left e _ =
    room (state_of p c.args.learned.now) (event_of c.args.cx c.args.pixel) c.args.count c.cell-cell.ensures c.if-pixel-cell.false
    (let u = scaled c.args.count _ _ c.entry_of.ensures.span in omega (arith, u, e, c.if-span-upper.false))

pub returns-clause-left : goal.returns-clause-left
returns-clause-left c left e =
    let u = scaled c.args.count _ _ c.entry_of.ensures.span in
    let is : c.args.span - c.args.count * c.entry_of.result.now.span ≡ left = cc in
    let q = ap (λ x. c.args.count * (row_at x.row).size) c.cell-cell.ensures in
    omega (arith, u, is, q, c.if-span-upper.false)
