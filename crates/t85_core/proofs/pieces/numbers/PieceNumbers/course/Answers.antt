use Rattle.std.proofs.Common.{◌≡◌, Some, None, refl, sym, ◌∙◌}
use Rattle.t85_core.proofs.BodiesDecode.NumbersFixDecoder.{resumed_decoder, some_is, course_numbers}
use Rattle.t85_core.proofs.pieces.numbers.PieceNumbers.course.Goals as goal

pub returns-in_err-from_registers-clause-all : goal.returns-in_err-from_registers-clause-all
returns-in_err-from_registers-clause-all c = λ w k.
    let going = resumed_decoder w.decoder in
    absurd (let some : None ≡ Some going.0 = sym c.in_err-from_registers.was ∙ c.from_registers.ensures.same going.0 going.1 (k.decoder_is ∙ going.2) in let bot : ⊥ = cc in bot)

pub returns-clause-all : goal.returns-clause-all
returns-clause-all c = λ w k.
    let going = resumed_decoder w.decoder in
    course_numbers w k refl refl (some_is (c.in_ok-from_registers.ensures.same going.0 going.1 (k.decoder_is ∙ going.2))) going.3 _ _
