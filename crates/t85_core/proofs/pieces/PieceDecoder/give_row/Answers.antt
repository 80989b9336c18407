use Rattle.std.proofs.Common.{◌≡◌, ◌+◌, [], false, refl, arith}
use Rattle.t85_core.specs.Lent.{code_lent, phase_lent}
use Rattle.t85_core.specs.Private.Pieces.{SomeStands}
use Rattle.t85_core.specs.Private.RowTurns.{BegunLeaves, BegunStep}
use Rattle.t85_core.specs.declared.pieces.phase.Phase.TheVariants as phase
use Rattle.t85_core.proofs.BodiesDecode.WalkGoesOn.{in_code_of}
use Rattle.t85_core.proofs.BodiesDecode.PieceStands.{at_first, row_given, row_after, some_waits}
use Rattle.t85_core.proofs.pieces.PieceDecoder.give_row.Goals as goal

pub returns-clause-gives : goal.returns-clause-gives
returns-clause-gives c = λ limit below some.
    let d = phase_lent c.args.self.now (phase.Behind c.args.behind) c.args.lent.now in
    let code = in_code_of c.args.behind.code.begun in
    let new = code_lent c.next_row.new.course c.next_row.new.self c.next_row.new.lent in
    let step = at_first (λ image. BegunStep image d.walk new [] c.next_row.new.piece.rest.now c.next_row.result) c.requires.open c.next_row.ensures.step in
    let leaves = at_first (λ image. SomeStands image d.walk → BegunLeaves false d.walk new c.next_row.result) c.requires.open c.next_row.ensures.leaves (some_waits d refl refl some) in
    let next : c.next_row.new.self.row ≡ c.args.behind.code.row + 1 = row_after d new refl refl some code c.next_row.result leaves in
    record {
      keeps = record { header = refl; height = refl; is_open = refl; waits = refl; behind = refl; going = refl };
      code = code;
      entities = leaves.place.entities;
      below = omega (arith, next, below);
      on = row_given d _ refl refl code (record { header = refl; height = refl; is_open = refl; waits = refl; behind = refl; going = refl }) c.next_row.new.piece.rest.now c.next_row.result step
          leaves;
    }
