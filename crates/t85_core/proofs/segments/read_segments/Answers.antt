use Rattle.std.proofs.Common.{◌∙◌, refl}
use Rattle.t85_core.specs.Options.{fields_of}
use Rattle.t85_core.specs.declared.segments.Next.TheVariants.{Height, Code}
use Rattle.t85_core.proofs.BytesJoin.WalkEnds.{exit}
use Rattle.t85_core.proofs.StreamsAreWalked.StripeIsPassed.{passed_none, passed_length, passed_move, passed_comment, segments_passed, cut_segments}
use Rattle.t85_core.proofs.segments.read_segments.Goals as goal

pub pieces-init : goal.pieces-init
pieces-init g c = record { passed = passed_none (fields_of c.args.header.now) c.args.place c.args.moved_before _; same_source = refl; unfailed = refl }

pub returns-in_err-height-clause-err : goal.returns-in_err-height-clause-err
returns-in_err-height-clause-err g c = exit _ _ c.from_residual.ensures.1 (cut_segments c.pieces.invariant.passed c.in_err-height.ensures.err)

pub pieces-preserved-in-NewLength : goal.pieces-preserved-in-NewLength
pieces-preserved-in-NewLength g c =
    let h = rw c.in-NewLength.is at c.in_ok-height.ensures.ok in
    record {
      passed = passed_length c.pieces.invariant.passed _ h.0 c.if-height-place.false h.2;
      same_source = c.in_ok-height.ensures.reads.same_source ∙ c.pieces.invariant.same_source;
      unfailed = c.in_ok-height.ensures.reads.counts ∙ c.pieces.invariant.unfailed;
    }

pub pieces-preserved-in-Move : goal.pieces-preserved-in-Move
pieces-preserved-in-Move g c =
    let h = rw c.in-Move.is at c.in_ok-height.ensures.ok in
    record {
      passed = passed_move c.pieces.invariant.passed _ h.0 h.1;
      same_source = c.in_ok-height.ensures.reads.same_source ∙ c.pieces.invariant.same_source;
      unfailed = c.in_ok-height.ensures.reads.counts ∙ c.pieces.invariant.unfailed;
    }

pub pieces-preserved : goal.pieces-preserved
pieces-preserved g c =
    let h = rw c.in-Comment.is at c.in_ok-height.ensures.ok in
    record {
      passed = passed_comment c.pieces.invariant.passed _ h.0 h.1 c.saturating_add-comments.ensures;
      same_source = c.in_ok-height.ensures.reads.same_source ∙ c.pieces.invariant.same_source;
      unfailed = c.in_ok-height.ensures.reads.counts ∙ c.pieces.invariant.unfailed;
    }

pub returns-in-Code-clause-ok : goal.returns-in-Code-clause-ok
returns-in-Code-clause-ok g c =
    let h = rw c.in-Code.is at c.in_ok-height.ensures.ok in
    segments_passed c.pieces.invariant.passed (Code _) h.0 h.1

pub returns-then-height-place-clause-ok : goal.returns-then-height-place-clause-ok
returns-then-height-place-clause-ok g c =
    let h = rw c.in-NewLength.is at c.in_ok-height.ensures.ok in
    segments_passed c.pieces.invariant.passed (Height _) (h.0, h.1, h.2.legal, c.if-height-place.true) h.2.taken
