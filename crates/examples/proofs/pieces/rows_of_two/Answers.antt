use Rattle.std.proofs.Common.{◌≡◌, ◌∙◌, ◌++◌, ap, drop}
use Rattle.std.proofs.lemmas.List.{take_rest}
use Rattle.examples.proofs.PiecesGiveRows.{first_told, second_told, second_short, on_err}
use Rattle.examples.proofs.pieces.rows_of_two.Goals as goal

pub returns-in_err-ended-in-More-clause-short : goal.returns-in_err-ended-in-More-clause-short
returns-in_err-ended-in-More-clause-short c = on_err c.from_residual-in_err-ended-in-More.result (second_short c.in_ok-begun.ensures.read c.in_err-ended-in-More.ensures.short)

pub returns-in_ok-ended-in-More-clause-read : goal.returns-in_ok-ended-in-More-clause-read
returns-in_ok-ended-in-More-clause-read c =
    let rest_is : c.as_slice.result.now ≡ drop c.in_ok-begun.begun.taken c.args.pieces.0.now ++ c.args.pieces.1.now =
    c.as_slice.ensures.value ∙ c.in_ok-extend_from_slice-in-More.ensures.items
    ∙ ap (λ z. z ++ c.args.pieces.1.now) (c.in_ok-rest-in-More.ensures.items ∙ take_rest c.args.pieces.0.now c.in_ok-begun.begun.taken) in
    second_told c.args.pieces.1.now (rw c.in-More.is at c.in_ok-begun.ensures.read) c.rows_of_piece.ensures.same rest_is c.in_ok-ended-in-More.ensures.read

pub returns-in_default-clause-read : goal.returns-in_default-clause-read
returns-in_default-clause-read c = first_told c.args.pieces.1.now c.in_ok-begun.ensures.read c.in_default.not-More
