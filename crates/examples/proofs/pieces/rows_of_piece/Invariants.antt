use Rattle.t85_core.specs.Lent.{decoder_over}
use Rattle.examples.proofs.PiecesGiveRows.{RowsSoFar}
use Rattle.examples.proofs.pieces.rows_of_piece.Given as goal

abbrev pub invariant-calls : goal.invariant-calls
invariant-calls l = RowsSoFar (decoder_over l.fn.decoder l.fn.window l.fn.learned) (decoder_over l.decoder l.window l.learned) l.piece l.taken l.fn.rows.items l.rows.items l.counter
