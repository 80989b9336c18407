use Rattle.std.proofs.Common.{Some, sym, ◌∙◌, subst, rules, arith}
use Rattle.t85_core.specs.declared.fault.Fault.TheVariants.{Truncated}
use Rattle.t85_core.specs.Options.{fields_of}
use Rattle.t85_core.specs.Grammar.{Move, Comment, segment_bytes}
use Rattle.t85_core.proofs.BodiesDecode.SegmentsComeBehind.{behind_then, behind_move, behind_comment}
use Rattle.t85_core.specs.Failures.{Ends}
use Rattle.t85_core.specs.Private.Segments.{PieceFault}
use Rattle.t85_core.specs.Private.Behind.{StopsBehind, BreaksBehind}
use Rattle.t85_core.specs.States.Behind.{behind_at}
use Rattle.t85_core.proofs.BytesJoin.WalkEnds.{exit}
use Rattle.t85_core.proofs.BodiesDecode.FewBytesRemain.{piece_few}
use Rattle.t85_core.proofs.BodiesDecode.HeadComesInPieces.{counted_of}
use Rattle.t85_core.proofs.BodiesDecode.PieceStands.{taken_less}
use Rattle.t85_core.proofs.pieces.head.Head.pass.Goals as goal

pub returns-in_err-leave_comment-clause-on : goal.returns-in_err-leave_comment-clause-on
returns-in_err-leave_comment-clause-on c = λ before. behind_then c.leave_comment.new.piece.rest.now (c.segments.invariant.so_far before) (c.leave_comment.ensures.on before)

pub segments-preserved-in-Continue-branch-2 : goal.segments-preserved-in-Continue-branch-2
segments-preserved-in-Continue-branch-2 c = record {
  so_far = λ before. behind_then c.enter_comment.new.piece.rest.now (behind_then c.leave_comment.new.piece.rest.now (c.segments.invariant.so_far before) (c.leave_comment.ensures.on before))
      (c.enter_comment.ensures.on before);
  no_more = omega (arith, c.segments.invariant.no_more, c.leave_comment.ensures.no_more, c.enter_comment.ensures.no_more);
}

pub returns-in_err-enter_comment-clause-on : goal.returns-in_err-enter_comment-clause-on
returns-in_err-enter_comment-clause-on c =
    λ before. behind_then c.enter_comment.new.piece.rest.now (behind_then c.leave_comment.new.piece.rest.now (c.segments.invariant.so_far before) (c.leave_comment.ensures.on before))
    (c.enter_comment.ensures.on before)

pub returns-in_err-to-clause-on : goal.returns-in_err-to-clause-on
returns-in_err-to-clause-on c = λ before. behind_then c.leave_comment.new.piece.rest.now (c.segments.invariant.so_far before) (c.leave_comment.ensures.on before)

pub returns-in_err-to-clause-err : goal.returns-in_err-to-clause-err
returns-in_err-to-clause-err c =
    let ends = subst (λ m. Ends Truncated (Some c.leave_comment.new.piece.rest.now) (Some c.next_element.new.stream.rest.now)
    (PieceFault (fields_of c.args.at.header.now) c.args.at.place m) c.in_err-to.field-0.0) c.is_moved.ensures c.in_err-to.ensures.err in
    exit (StopsBehind (fields_of c.args.at.header.now) (behind_at c.args.at.place c.args.at.is_last) c.leave_comment.new.self c.leave_comment.new.piece.rest.now) c.from_residual-in_err-to.result
    c.from_residual-in_err-to.ensures.1 (record {
      counted = counted_of c.in_err-to.field-0.0 c.in_err-to.ensures.reads.counts;
      few = piece_few (fields_of c.args.at.header.now) c.args.at.place _ c.leave_comment.new.piece.rest.now c.next_element.new.stream.rest.now c.in_err-to.field-0.0 ends
          (c.is_comment.ensures.no (search rules));
      breaks = subst (λ o. BreaksBehind (fields_of c.args.at.header.now)
          (behind_at c.args.at.place c.args.at.is_last) c.leave_comment.new.self o c.leave_comment.new.piece.rest.now c.in_err-to.field-0.0) (sym c.in_ok-leave_comment.ensures.ok)
          (c.next_element.new.stream.rest.now, ends);
    })

pub segments-preserved-in-Move : goal.segments-preserved-in-Move
segments-preserved-in-Move c =
    let h = rw c.in-Move.is at c.in_ok-to.ensures.ok in
    record {
      so_far = λ before. behind_then c.next_element.new.stream.rest.now (behind_then c.leave_comment.new.piece.rest.now (c.segments.invariant.so_far before) (c.leave_comment.ensures.on before))
          (λ back s. (
            segment_bytes (Move c.in-Move.to.row c.in-Move.to.offset),
            h.1.taken,
            behind_move s c.in_ok-leave_comment.ensures.ok c.in-Move.to (sym c.is_moved.ensures ∙ h.0) h.1.legal,
          ));
      no_more = (let less = taken_less c.leave_comment.new.piece.rest.now (segment_bytes (Move c.in-Move.to.row c.in-Move.to.offset)) c.next_element.new.stream.rest.now h.1.taken in
          omega (arith, c.segments.invariant.no_more, c.leave_comment.ensures.no_more, less));
    }

pub segments-preserved : goal.segments-preserved
segments-preserved c =
    let h = rw c.in-Comment.is at c.in_ok-to.ensures.ok in
    record {
      so_far = λ before. behind_then c.next_element.new.stream.rest.now (behind_then c.leave_comment.new.piece.rest.now (c.segments.invariant.so_far before) (c.leave_comment.ensures.on before))
          (λ back s. (segment_bytes (Comment h.0), h.1.taken, behind_comment s c.in_ok-leave_comment.ensures.ok h.0 h.1.legal));
      no_more = (let less = taken_less c.leave_comment.new.piece.rest.now (segment_bytes (Comment h.0)) c.next_element.new.stream.rest.now h.1.taken in
          omega (arith, c.segments.invariant.no_more, c.leave_comment.ensures.no_more, less));
    }

pub returns-in-NewLength-clause-on : goal.returns-in-NewLength-clause-on
returns-in-NewLength-clause-on c = λ before. behind_then c.leave_comment.new.piece.rest.now (c.segments.invariant.so_far before) (c.leave_comment.ensures.on before)

pub returns-in-Code-clause-on : goal.returns-in-Code-clause-on
returns-in-Code-clause-on c = λ before. behind_then c.leave_comment.new.piece.rest.now (c.segments.invariant.so_far before) (c.leave_comment.ensures.on before)
