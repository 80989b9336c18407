use Rattle.std.proofs.Common.{◌≡◌, ◌-◌, length, take, drop, arith}
use Rattle.std.proofs.lemmas.List.{take_rest}
use Rattle.t85_core.specs.Lent.{decoder_over}
use Rattle.t85_core.specs.Pieces.{call_of, is_last_piece}
use Rattle.examples.proofs.PiecesGiveRows.{none_so_far, all_came, some_came, row_more, last_came, on_err}
use Rattle.examples.proofs.pieces.rows_of_piece.Goals as goal

pub calls-init : goal.calls-init
calls-init c = none_so_far (decoder_over c.args.decoder.now c.args.window.now c.args.learned.now) c.args.piece.now c.args.rows.now.items

pub calls-preserved : goal.calls-preserved
calls-preserved c =
    rw (c.in_ok-extend_from_slice-in-Row.ensures.items, c.row.ensures)
    (row_more c.calls.invariant
    (call_of (take (length c.args.piece.now - c.calls.taken) (drop c.calls.taken c.args.piece.now)) (is_last_piece c.args.more) c.next-step.result
    (decoder_over c.next-step.new.self c.next-step.new.window c.next-step.new.learned))
    c.next-step.ensures.call (take_rest c.args.piece.now c.calls.taken) c.next-step.ensures.call.bound c.in-Row.is)

pub returns-in_err-extend_from_slice-in-Row-clause-short : goal.returns-in_err-extend_from_slice-in-Row-clause-short
returns-in_err-extend_from_slice-in-Row-clause-short c = on_err c.from_residual.result (rw c.in_err-extend_from_slice-in-Row.ensures.items (some_came c.calls.invariant))

pub returns-in_default-clause-read : goal.returns-in_default-clause-read
returns-in_default-clause-read c =
    last_came c.calls.invariant
    (call_of (take (length c.args.piece.now - c.calls.taken) (drop c.calls.taken c.args.piece.now)) (is_last_piece c.args.more) c.next-step.result
    (decoder_over c.next-step.new.self c.next-step.new.window c.next-step.new.learned))
    c.next-step.ensures.call (take_rest c.args.piece.now c.calls.taken) c.next-step.ensures.call.bound c.args.limit c.in_default.not-Row c.next-step.ensures.call.ends

pub returns-clause-read : goal.returns-clause-read
returns-clause-read c =
    let full : c.calls.counter ≡ c.args.limit = omega arith in
    rw full at (all_came c.calls.invariant (is_last_piece c.args.more))
