use Rattle.std.proofs.Common.{◌≡◌, ◌≤◌, ◌-◌, ◌++◌, List, ℕ, length, take, append-nil, refl, sym, ap, ◌∙◌, arith}
use Rattle.std.proofs.lemmas.List.{length-take-le, take-append-drop}
use Rattle.t85_core.proofs.BodiesDecode.SegmentsComeBehind.{behind_more, behind_ends}
use Rattle.t85_core.proofs.BodiesDecode.WalkGoesOn.{nil_of}
use Rattle.t85_core.proofs.pieces.head.Head.leave_comment.Goals as goal

pub returns-then-len-left-clause-on : goal.returns-then-len-left-clause-on
returns-then-len-left-clause-on c = λ before back s.
    let all : c.min-len.result ≡ length c.args.piece.now.rest.now = omega (arith, c.min-len.ensures, c.if-len-left.true) in
    let taken : c.args.piece.now.rest.now ≡ c.args.piece.now.rest.now ++ c.split_at.result.1.now =
    sym (append-nil c.args.piece.now.rest.now) ∙ ap (λ (z : List ℕ). c.args.piece.now.rest.now ++ z) (sym (nil_of c.split_at.result.1.now (omega (arith, c.split_at.ensures.back_len, all)))) in
    (c.args.piece.now.rest.now, taken, behind_more s c.in-Some.left c.in-Some.is c.args.piece.now.rest.now (c.in-Some.left - c.min-len.result) (omega (arith, all, c.if-len-left.true)))

pub returns-then-len-left-clause-err : goal.returns-then-len-left-clause-err
returns-then-len-left-clause-err c =
    let all : c.min-len.result ≡ length c.args.piece.now.rest.now = omega (arith, c.min-len.ensures, c.if-len-left.true) in
    record { counted = refl; few = λ _. omega (arith, c.split_at.ensures.back_len, all); breaks = (omega (arith, c.split_at.ensures.back_len, all, c.if-len-left.true), refl) }

pub returns-clause-on : goal.returns-clause-on
returns-clause-on c = λ before back s.
    let all : c.min-len.result ≡ c.in-Some.left = omega (arith, c.min-len.ensures, c.if-len-left.false) in
    let within : c.min-len.result ≤ length c.args.piece.now.rest.now = omega (arith, c.min-len.ensures) in
    let taken : c.args.piece.now.rest.now ≡ take c.min-len.result c.args.piece.now.rest.now ++ c.split_at.result.1.now =
    sym (take-append-drop c.min-len.result c.args.piece.now.rest.now) ∙ ap (λ (z : List ℕ). take c.min-len.result c.args.piece.now.rest.now ++ z) (sym c.split_at.ensures.back) in (
      take c.min-len.result c.args.piece.now.rest.now,
      taken,
      behind_ends s c.in-Some.left c.in-Some.is (take c.min-len.result c.args.piece.now.rest.now)
          (length-take-le c.min-len.result c.args.piece.now.rest.now within ∙ all),
    )
