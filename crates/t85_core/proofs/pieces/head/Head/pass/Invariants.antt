use Rattle.std.proofs.Common.{Bool, length, ◌≤◌}
use Rattle.t85_core.specs.Options.{fields_of}
use Rattle.t85_core.specs.Private.Behind.{BehindOn}
use Rattle.t85_core.specs.States.Behind.{head_at}
use Rattle.t85_core.proofs.pieces.head.Head.pass.Given as goal

abbrev pub invariant-segments : goal.invariant-segments
invariant-segments l = record {
  so_far : (before : Bool) → BehindOn (fields_of l.at.header.now) (head_at l.at.place l.at.is_last before) l.fn.self l.self l.fn.piece.rest.now l.piece.rest.now;
  no_more : length l.piece.rest.now ≤ length l.fn.piece.rest.now;
}

abbrev pub decreases-segments : goal.decreases-segments
decreases-segments l = length l.piece.rest.now
