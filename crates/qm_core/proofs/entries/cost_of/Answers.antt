use Rattle.std.proofs.Common.{◌≡◌, ◌∙◌, ◌*◌, ◌/◌, arith, ap, cond, sym, get_or}
use Rattle.qm_core.specs.Table.{row_at}
use Rattle.qm_core.proofs.TableIsStandard.{cost_at, cost_most, costs_of}
use Rattle.qm_core.proofs.entries.cost_of.Goals as goal
use Rattle.qm_core.proofs.entries.cost_of.Goals.{then-pixel, else-pixel}

table : (c : goal.After-result-1) → c.if-pixel.costs.now ≡ costs_of c.args.pixel
table c = elim c.if-pixel.branch [
  | then-pixel w ↦ ap (λ b. b.now) w.costs-is ∙ ap costs_of (sym w.if-pixel.true)
  | else-pixel w ↦ ap (λ b. b.now) w.costs-is ∙ ap costs_of (sym w.if-pixel.false)
]

pub returns-clause-favoured : goal.returns-clause-favoured
returns-clause-favoured c = λ is. ap (λ l. get_or l c.args.cell 0) (table c) ∙ (cost_at c.args.pixel c.args.cell (omega arith) ∙ ap (λ b. cond b (128 * (row_at (c.args.cell / 2)).size) 0x800000) is)

pub returns-clause-other : goal.returns-clause-other
returns-clause-other c = λ is. ap (λ l. get_or l c.args.cell 0) (table c) ∙ (cost_at c.args.pixel c.args.cell (omega arith) ∙ ap (λ b. cond b (128 * (row_at (c.args.cell / 2)).size) 0x800000) is)

pub returns-clause-most : goal.returns-clause-most
returns-clause-most c = rw (table c) (cost_most c.args.pixel c.args.cell (omega arith))
