use Rattle.std.proofs.Common.{◌≡◌, ◌∷◌, ◌++◌, List, ℕ, drop, sym, ap, ◌∙◌, subst, arith}
use Rattle.byteorder.specs.Endian.{big_bytes}
use Rattle.t85_core.specs.Options.{fields_of}
use Rattle.t85_core.specs.Private.Behind.{BreaksBehind}
use Rattle.t85_core.specs.States.Behind.{move_came, behind_at, head_at}
use Rattle.t85_core.proofs.BodiesDecode.SegmentsComeBehind.{behind_stays, behind_enters}
use Rattle.t85_core.proofs.BodiesDecode.HeadComesInPieces.{length_breaks, counted_of}
use Rattle.t85_core.proofs.BodiesDecode.FewBytesRemain.{comment_few}
use Rattle.t85_core.proofs.pieces.head.Head.enter_comment.Goals as goal

pub returns-in-Ok-clause-on : goal.returns-in-Ok-clause-on
returns-in-Ok-clause-on c = λ before back s.
    let rest : c.split_at.result.1.now ≡ c.requires.comment.0 = c.split_at.ensures.back ∙ ap (drop 2) c.requires.comment.1 in
    let taken : c.args.piece.now.rest.now ≡ (255 ∷ 7 ∷ big_bytes 4 c.in-Ok.len) ++ c.number.new.stream.rest.now = c.requires.comment.1
    ∙ ap (λ (z : List ℕ). 255 ∷ 7 ∷ z) (sym rest ∙ c.in-Ok.ensures.ok) in
    (255 ∷ 7 ∷ big_bytes 4 c.in-Ok.len, taken, behind_enters s c.requires.between c.in-Ok.len (omega arith))

pub returns-in-Err-clause-on : goal.returns-in-Err-clause-on
returns-in-Err-clause-on c = λ before. behind_stays (fields_of c.args.at.header.now) (head_at c.args.at.place c.args.at.is_last before) c.args.self.now c.args.piece.now.rest.now

pub returns-in-Err-clause-err : goal.returns-in-Err-clause-err
returns-in-Err-clause-err c =
    let rest : c.split_at.result.1.now ≡ c.requires.comment.0 = c.split_at.ensures.back ∙ ap (drop 2) c.requires.comment.1 in
    let is : c.args.piece.now.rest.now ≡ 255 ∷ 7 ∷ c.split_at.result.1.now = c.requires.comment.1 ∙ ap (λ (z : List ℕ). 255 ∷ 7 ∷ z) (sym rest) in
    record {
      counted = counted_of c.in-Err.fault c.in-Err.ensures.reads.counts;
      few = comment_few c.args.piece.now.rest.now c.split_at.result.1.now c.number.new.stream.rest.now c.in-Err.fault is c.in-Err.ensures.err;
      breaks = subst (λ o. BreaksBehind (fields_of c.args.at.header.now) (behind_at c.args.at.place c.args.at.is_last) c.args.self.now o c.args.piece.now.rest.now c.in-Err.fault)
          (sym c.requires.between) (
            c.number.new.stream.rest.now,
            length_breaks (fields_of c.args.at.header.now) c.args.at.place
                (move_came c.args.at.is_last c.args.self.now.at) c.args.piece.now.rest.now c.split_at.result.1.now c.number.new.stream.rest.now c.in-Err.fault is c.in-Err.ensures.err,
          );
    }
