use Rattle.std.proofs.Common.{◌≡◌, ◌≤◌, [], length}
use Rattle.t85_core.specs.Phases.{phase_waits}
use Rattle.t85_core.specs.Private.PieceSteps.{DecoderOn, steps_left}
use Rattle.t85_core.specs.Lent.{KeepsLent, decoder_lent}
use Rattle.t85_core.proofs.pieces.PieceDecoder.go_on.Given as goal

abbrev pub invariant-steps : goal.invariant-steps
invariant-steps l = record {
  header : l.self.image.header ≡ l.fn.self.image.header;
  going : l.self.end ≡ l.fn.self.end;
  no_more : length l.piece.rest.now ≤ length l.fn.piece.rest.now;
  lends : KeepsLent l.fn.lent l.lent;
  so_far : DecoderOn (decoder_lent l.fn.self l.fn.lent) (decoder_lent l.self l.lent) l.fn.piece.rest.now l.piece.rest.now [];
}

abbrev pub decreases-steps : goal.decreases-steps
decreases-steps l = steps_left (phase_waits l.self.phase) l.piece.rest.now
