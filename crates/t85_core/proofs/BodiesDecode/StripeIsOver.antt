-- A stripe that is over, while the decoder is behind its end marker.
use Rattle.std.proofs.Common.{◌≡◌, ◌≤◌, ◌<◌, ℕ, Bool, true, false, nat_le, min, None, refl, ◌∙◌, subst, arith}
use Rattle.std.proofs.lemmas.Bool.Decides.{nat_tests}
use Rattle.t85_core.specs.Lent.{PieceView, WalkView}
use Rattle.t85_core.specs.Options.{fields_of}
use Rattle.t85_core.specs.Stages.{Kind, comment_left, head_kind, place_from}
use Rattle.t85_core.specs.declared.pieces.course.Course.{Course}
use Rattle.t85_core.specs.States.PieceCode.{MarkerIs}
use Rattle.t85_core.specs.Private.Pieces.{EndsCount}
use Rattle.t85_core.specs.States.Pieces.{IsInCode}
use Rattle.t85_core.specs.States.PieceStands.{is_last, last_behind}
use Rattle.t85_core.specs.Private.PieceSteps.{HeadEntered, KeepsDecoder, SomeStand, StripeLeft}
use Rattle.t85_core.specs.States.SizedImage.{sized}
use Rattle.t85_core.specs.Private.StripeEnds.{EndsAtMarker}
use Rattle.t85_core.proofs.BodiesDecode.PieceStands.{closed_ended, entered, in_code_last, marker_of, stripe_ended, waits_of}

-- another stripe follows, if more rows are left
pub more_follow : (follows : Bool) (l0 : ℕ) {c c' : Course} → EndsCount l0 follows c c' → l0 < c.left → follows ≡ true
more_follow true l0 k over = refl
more_follow false l0 k over = absurd (let few = (k.last refl).0 in omega (arith, few, over))

-- whether it is the last
pub last_in : (k : Kind) (left l0 : ℕ) → IsInCode k → left ≤ l0 → is_last k (nat_le left l0) ≡ true
last_in k left l0 code few = in_code_last k (nat_le left l0) code ∙ grind (arith, nat_tests)

pub not_last_in : (k : Kind) (left l0 : ℕ) → IsInCode k → l0 < left → is_last k (nat_le left l0) ≡ false
not_last_in k left l0 code over = in_code_last k (nat_le left l0) code ∙ grind (arith, nat_tests)

module _ {d : PieceView} {w : WalkView} {reset : Bool} (late : d.is_open ≡ true) (waits : d.waits ≡ true) (some : SomeStand d) (code : IsInCode d.walk.stage)
    (all : min d.walk.left d.header.l0 ≤ d.walk.row) (resets : (r : Bool) → MarkerIs r d.walk.marker d.walk.first → r ≡ reset)
    (ends : EndsAtMarker (sized (fields_of d.header) d.header.yd) reset d.walk w) where
  pub stripe_over : StripeLeft d (record d { walk = w })
  stripe_over =
      let m = marker_of d.walk (waits_of d some.0 some.1 late waits some.2).at code in
      let keeps : KeepsDecoder d (record d { walk = w }) = record { header = refl; height = refl; is_open = refl; waits = refl; behind = refl; going = refl } in
      stripe_ended late waits some keeps (ends code all (subst (λ r. MarkerIs r d.walk.marker d.walk.first) (resets m.0 m.1) m.1))

  pub head_over : last_behind (fields_of d.header) d.walk.stage d.walk.left ≡ false →
      HeadEntered d (record d {
        walk = record w {
          stage = head_kind d.behind.comment;
          at = d.behind.at;
          comment = comment_left d.behind.comment;
          row = 0;
          place = place_from None;
          first = None;
          marker = None;
        };
      })
  head_over more =
      entered d (record d { walk = w }) _ (closed_ended d _ late waits some code more stripe_over)
      (record { header = refl; height = refl; is_open = refl; waits = refl; behind = refl; going = refl }) more refl
