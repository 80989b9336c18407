use Rattle.std.proofs.Common.{◌≡◌, ◌≤◌, ap, sym, subst, ◌∙◌, true≢false, arith}
use Rattle.std.specs.Prelude.{is_some}
use Rattle.t85_core.specs.Options.{fields_of}
use Rattle.t85_core.specs.Pieces.{IsLeastHeight}
use Rattle.t85_core.proofs.BodiesDecode.LeastHeightIsCertain.{least_known, least_late}
use Rattle.t85_core.proofs.BodiesDecode.NumbersFixDecoder.{looks_of}
use Rattle.t85_core.proofs.BodiesDecode.PieceStands.{closed_of, open_looks}
use Rattle.t85_core.proofs.pieces.PieceDecoder.certain.Goals as goal
use Rattle.t85_core.proofs.pieces.PieceDecoder.certain.Goals.{then-not-looks-via-then-not-looks, then-not-looks-via-else-not-looks+then-is_some}

pub returns-then-not-looks-clause-certain : goal.returns-then-not-looks-clause-certain
returns-then-not-looks-clause-certain c = λ going d numbers rows learned header k own text out s. elim c.then-not-looks.branch [
  | then-not-looks-via-then-not-looks w ↦
      let quiet = looks_of numbers d.phase k.phase_is ∙ sym (looks_of numbers c.args.self.now.phase own.phase_is) ∙ sym c.looks.ensures ∙ w.if-not-looks.true in
      subst (IsLeastHeight (fields_of d.image.header) text) (sym k.height_is ∙ own.height_is) (least_known _ text out s.stands (closed_of d rows learned text out quiet s.stands))
  | then-not-looks-via-else-not-looks+then-is_some w ↦ absurd (true≢false (w.if-is_some.ensures ∙ ap is_some going))
]

pub returns-clause-certain : goal.returns-clause-certain
returns-clause-certain c = λ going d numbers rows learned header k own text out s.
    let looks = sym c.looks.ensures ∙ c.if-not-looks.false in
    let same = looks_of numbers d.phase k.phase_is ∙ sym (looks_of numbers c.args.self.now.phase own.phase_is) ∙ looks in
    let yd : c.args.self.now.image.header.yd ≡ d.image.header.yd = sym (ap (λ h. h.yd) header) in
    let left : c.args.self.now.course.left ≡ d.course.left = sym own.course_is.left_is ∙ k.course_is.left_is in
    let some : 1 ≤ c.args.self.now.course.left = c.args.self.now.course.some in
    least_late _ text out s.stands (open_looks d.phase same) _ (omega (arith, some, yd, left, c.args.self.now.image.header.not_too_tall))

pub returns-then-not-looks-clause-own : goal.returns-then-not-looks-clause-own
returns-then-not-looks-clause-own c = λ rows learned text out s. elim c.then-not-looks.branch [
  | then-not-looks-via-then-not-looks w ↦ least_known _ text out s.stands (closed_of c.args.self.now rows learned text out (sym c.looks.ensures ∙ w.if-not-looks.true) s.stands)
  | then-not-looks-via-else-not-looks+then-is_some w ↦ absurd (true≢false (w.if-is_some.ensures ∙ ap is_some s.going))
]

pub returns-clause-own : goal.returns-clause-own
returns-clause-own c = λ rows learned text out s.
    let looks = sym c.looks.ensures ∙ c.if-not-looks.false in
    let some : 1 ≤ c.args.self.now.course.left = c.args.self.now.course.some in
    least_late _ text out s.stands (open_looks c.args.self.now.phase looks) _ (omega (arith, some, c.args.self.now.image.header.not_too_tall))
