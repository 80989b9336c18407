use Rattle.std.proofs.Common.{◌+◌, ◌*◌, ◌≤◌, ℕ, [], length}
use Rattle.t85_core.specs.Lent.{KeepsLent, stage_lent}
use Rattle.t85_core.specs.Options.{fields_of}
use Rattle.t85_core.specs.declared.pieces.course.Stage.{Stage}
use Rattle.t85_core.specs.declared.pieces.course.Stage.TheVariants as stage
use Rattle.t85_core.specs.Private.Pieces.{CountsOn, StepsOn}
use Rattle.t85_core.specs.States.SizedImage.{sized}
use Rattle.t85_core.proofs.pieces.course.Course.next.Given as goal

abbrev pub invariant-steps : goal.invariant-steps
invariant-steps l = record {
  lends : KeepsLent l.fn.lent l.lent;
  counts : CountsOn (sized (fields_of l.image.header) l.image.height) l.fn.self l.self;
  no_more : length l.piece.rest.now ≤ length l.fn.piece.rest.now;
  so_far : StepsOn (sized (fields_of l.image.header) l.image.height) (stage_lent l.fn.self l.fn.stage l.fn.lent) (stage_lent l.self l.stage l.lent) l.fn.piece.rest.now l.piece.rest.now [];
}

-- a code that has ended is a step that takes no byte
abbrev pub code_left : Stage → ℕ
code_left (stage.Head head) = 0
code_left (stage.Code code) = 1
code_left stage.Done = 0

abbrev pub decreases-steps : goal.decreases-steps
decreases-steps l = 2 * length l.piece.rest.now + code_left l.stage
