use Rattle.std.proofs.Common.{cond, ◌<◌, ◌≡◌, ◌+◌, ◌-◌, ◌*◌, ◌++◌, ◌≤◌, [], List, ℕ, Some, inl, inr, min, refl, ap, subst, append-nil, ◌∙◌, arith}
use Rattle.raster_core.specs.Window.{held}
use Rattle.t85_core.specs.Lent.{WalkView, carried_by, stage_lent}
use Rattle.t85_core.specs.Options.{fields_of}
use Rattle.t85_core.specs.Stages.{Kind, code_kind, head_start}
use Rattle.t85_core.specs.Stages as kind
use Rattle.t85_core.specs.declared.pieces.code.InCode.{InCode}
use Rattle.t85_core.specs.declared.pieces.course.Stage.{Stage}
use Rattle.t85_core.specs.declared.pieces.course.Stage.TheVariants as stage
use Rattle.t85_core.specs.States.DecodeRows.{IsCarried}
use Rattle.t85_core.specs.States.DecodeStripes.{StripesRead}
use Rattle.t85_core.specs.States.Passage.{passage}
use Rattle.t85_core.specs.Private.PieceCode.{MarkerFound}
use Rattle.t85_core.specs.States.PieceCode.{MarkerIs}
use Rattle.t85_core.specs.States.Pieces.{CodeStands, IsInCode, StageStands, WalkStands, code_place_of, head_place_of}
use Rattle.t85_core.specs.States.SizedImage.{sized}
use Rattle.t85_core.specs.States.State.{RowStart, first_row_start, next_stripe_start}
use Rattle.t85_core.proofs.BodiesDecode.ImageIsPut.{in_use}
use Rattle.t85_core.proofs.BodiesDecode.WalkNumbersFit.{none_begun, rows_all}
use Rattle.t85_core.proofs.BodiesDecode.MarkerIsFound.{found_marker}
use Rattle.t85_core.proofs.BodiesDecode.WalkGoesOn.{kept_wide, at_stage, last_stripe, next_stripe}
use Rattle.t85_core.proofs.BodiesDecode.PieceStands.{no_bytes}
use Rattle.t85_core.proofs.BodiesDecode.WalkTakesRows.{whole, stripe_last, stripe_on}
use Rattle.t85_core.proofs.pieces.course.Course.end_stripe.Goals.{After-next_stripe}
use Rattle.t85_core.proofs.pieces.course.Course.end_stripe.Goals as goal

-- the view before, and after, at this stage
abbrev before : After-next_stripe → InCode → WalkView
before c in_code = stage_lent c.args.self.now (stage.Code in_code) c.args.lent.now

abbrev there : After-next_stripe → Stage → (entities left : ℕ) → WalkView
there c st entities left = record (stage_lent c.args.self.now st c.args.lent.now) {
  carried = carried_by c.next_stripe.new.window c.next_stripe.new.kept c.next_stripe.new.learned;
  entities = entities;
  left = left;
}

module _ (c : After-next_stripe) (in_code : InCode) (code : IsInCode (code_kind in_code.begun)) (all : min c.args.self.now.left c.args.image.now.header.l0 ≤ in_code.row)
    (marker : MarkerIs c.args.reset in_code.marker in_code.first) where
  module _ {text out : List ℕ} (s : WalkStands (sized (fields_of c.args.image.now.header) c.args.image.now.height) (before c in_code) text out) where
    between : code_kind in_code.begun ≡ kind.Code
    between = elim code [
      | inl e ↦ e
      | inr e ↦ absurd (none_begun {w = before c in_code} e s all)
    ]

    k : CodeStands (sized (fields_of c.args.image.now.header) c.args.image.now.height) (head_place_of (before c in_code)) (code_place_of (before c in_code)) text out
    k = at_stage between s

    m : MarkerFound k.read.answers k.code [] [] c.args.reset
    m = found_marker in_code.first in_code.marker [] c.args.reset marker s.behind k.read.answers k.extra k.code k.code_is

    all_text : text ++ m.given ≡ text
    all_text = ap (λ z. text ++ z) (no_bytes m.given [] m.taken) ∙ append-nil text

    -- a walk there
    stands_there : (at : Kind) (entities left : ℕ) → left ≡ c.args.image.now.height - entities * c.args.image.now.header.l0 →
        StageStands at (sized (fields_of c.args.image.now.header) c.args.image.now.height) (record (there c stage.Done entities left) { stage = at }) text out →
        WalkStands (sized (fields_of c.args.image.now.header) c.args.image.now.height) (record (there c stage.Done entities left) { stage = at }) text out
    stands_there at entities left left_is stands =
        record {
          left_is = left_is;
          width_is = c.next_stripe.ensures.window.0.0 ∙ s.width_is;
          code_is = tt;
          behind = tt;
          within = omega (arith, s.within);
          stands = stands;
        }

    carries : (last : RowStart) → IsCarried last (carried_by c.args.lent.now.window.now c.args.self.now.kept c.args.lent.now.learned.now) →
        IsCarried (first_row_start (next_stripe_start (fields_of c.args.image.now.header).xd c.args.reset last)) (carried_by c.next_stripe.new.window c.next_stripe.new.kept c.next_stripe.new.learned)
    carries = kept_wide (held c.args.lent.now.window.now).width (fields_of c.args.image.now.header).xd c.args.reset
        (carried_by c.args.lent.now.window.now c.args.self.now.kept c.args.lent.now.learned.now)
        (carried_by c.next_stripe.new.window c.next_stripe.new.kept c.next_stripe.new.learned) s.width_is c.next_stripe.ensures.next

    -- all stripes before it
    came : StripesRead (fields_of c.args.image.now.header) c.args.image.now.height (passage (Some text) (Some []) (Some []) (Some out)) (c.args.self.now.entities + 1) (cond c.args.self.now.given 1 0)
        (carried_by c.next_stripe.new.window c.next_stripe.new.kept c.next_stripe.new.learned)
    came =
        subst (λ z. StripesRead (fields_of c.args.image.now.header) c.args.image.now.height (passage (Some z) (Some []) (Some []) (Some out)) (c.args.self.now.entities + 1)
        (cond c.args.self.now.given 1 0) (carried_by c.next_stripe.new.window c.next_stripe.new.kept c.next_stripe.new.learned)) all_text
        (whole k c.coder_laws.ensures (in_use c.args.image.now) (rows_all between s all) [] [] c.args.reset m (carried_by c.next_stripe.new.window c.next_stripe.new.kept c.next_stripe.new.learned)
        (carries k.read.last k.read.is_carried))

    times : (c.args.self.now.entities + 1) * c.args.image.now.header.l0 ≡ c.args.self.now.entities * c.args.image.now.header.l0 + c.args.image.now.header.l0
    times = omega arith

    -- it was the last
    done : c.args.self.now.left ≤ c.args.image.now.header.l0 → WalkStands (sized (fields_of c.args.image.now.header) c.args.image.now.height)
        (there c stage.Done c.args.self.now.entities c.args.self.now.left) text out
    done few =
        let left : c.args.self.now.left ≡ c.args.image.now.height - c.args.self.now.entities * c.args.image.now.header.l0 = s.left_is in
        let product = times in
        let last = last_stripe c.args.image.now.height c.args.image.now.header.l0 c.args.self.now.entities c.args.image.now.header.some_rows k.head.fewer (omega (arith, left, product, few)) in
        stands_there kind.Done c.args.self.now.entities c.args.self.now.left left
        (subst (λ z. StageStands kind.Done (sized (fields_of c.args.image.now.header) c.args.image.now.height) (there c stage.Done c.args.self.now.entities c.args.self.now.left) z out) all_text
        (stripe_last k c.coder_laws.ensures (in_use c.args.image.now) (rows_all between s all) [] [] c.args.reset m
        (carried_by c.next_stripe.new.window c.next_stripe.new.kept c.next_stripe.new.learned) (carries k.read.last k.read.is_carried) last))

    -- another one follows
    goes_on : c.args.image.now.header.l0 < c.args.self.now.left → WalkStands (sized (fields_of c.args.image.now.header) c.args.image.now.height)
        (there c (stage.Head head_start) (c.args.self.now.entities + 1) (c.args.self.now.left - c.args.image.now.header.l0)) text out
    goes_on some =
        let left : c.args.self.now.left ≡ c.args.image.now.height - c.args.self.now.entities * c.args.image.now.header.l0 = s.left_is in
        let product = times in
        let on = next_stripe c.args.image.now.height c.args.image.now.header.l0 c.args.self.now.entities c.args.image.now.header.some_rows (omega (arith, left, product, some)) in
        stands_there kind.Head (c.args.self.now.entities + 1) (c.args.self.now.left - c.args.image.now.header.l0) (omega (arith, left, product))
        (subst (λ z. StageStands kind.Head (sized (fields_of c.args.image.now.header) c.args.image.now.height)
        (there c (stage.Head head_start) (c.args.self.now.entities + 1) (c.args.self.now.left - c.args.image.now.header.l0)) z out) all_text
        (stripe_on k c.coder_laws.ensures (in_use c.args.image.now) (rows_all between s all) [] [] c.args.reset m (carried_by c.next_stripe.new.window c.next_stripe.new.kept c.next_stripe.new.learned)
        (carries k.read.last k.read.is_carried) on))

pub returns-then-self-image-clause-ends : goal.returns-then-self-image-clause-ends
returns-then-self-image-clause-ends c = λ in_code code all marker. record {
  on = λ text out s. done c.before.before in_code code all marker s c.if-self-image.true;
  read = λ text out s. came c.before.before in_code code all marker s;
  left = λ more. absurd (let few = c.if-self-image.true in omega (arith, few, more));
  entities = λ more. absurd (let few = c.if-self-image.true in omega (arith, few, more));
  given = refl;
  at = refl;
}

pub returns-clause-ends : goal.returns-clause-ends
returns-clause-ends c = λ in_code code all marker. record {
  on = λ text out s. goes_on c.before.before in_code code all marker s (let more = c.if-self-image.false in omega (arith, more));
  read = λ text out s. came c.before.before in_code code all marker s;
  left = λ more. refl;
  entities = λ more. refl;
  given = refl;
  at = refl;
}
