use Rattle.std.proofs.Common.{refl, arith}
use Rattle.libt85.proofs.ChoiceTakesRows.{row_passed}
use Rattle.libt85.proofs.choice.T85Choice.count.Goals as goal

pub returns : goal.returns
returns c counting reset stripe k second =
    row_passed second c.masks.ensures.masked_is_packed
    (λ i. omega (arith, c.type_inv.row i)) (λ i. omega (arith, c.type_inv.above i)) k refl c.count_row.ensures.counting c.count_row.ensures.reset c.count_row.ensures.counted
