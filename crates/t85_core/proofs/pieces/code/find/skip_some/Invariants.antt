use Rattle.std.proofs.Common.{length, Some}
use Rattle.t85_core.proofs.StreamsAreWalked.StripeIsPassed.{HasSkipped}
use Rattle.t85_core.proofs.pieces.code.find.skip_some.Given as goal

abbrev pub invariant-code : goal.invariant-code
invariant-code l = HasSkipped (Some l.fn.piece.rest.now) (Some l.piece.rest.now)

abbrev pub decreases-code : goal.decreases-code
decreases-code l = length l.piece.rest.now
