-- A walk whose numbers fit.
use Rattle.std.proofs.Common.{◌≡◌, ap, ◌<◌, ◌≤◌, ℕ, List, min, false, Option, None, Some, refl, sym, subst, arith}
use Rattle.qm_core.specs.Decoder.{has_stopped}
use Rattle.qm_core.specs.declared.decoder.Decoder.{Decoder}
use Rattle.qm_core.specs.Place.{Estimate}
use Rattle.raster_core.specs.Packed.{Held}
use Rattle.raster_core.specs.declared.place.RowPlace.{RowPlace}
use Rattle.t85_core.specs.declared.pieces.code.InCode.{InCode}
use Rattle.t85_core.specs.declared.pieces.course.Course.{Course}
use Rattle.t85_core.specs.Lent.{WalkView, code_view, stage_view}
use Rattle.t85_core.specs.Numbers.{PlaceFits, StageFits}
use Rattle.t85_core.specs.declared.pieces.course.Stage.{Stage}
use Rattle.t85_core.specs.declared.pieces.course.Stage.TheVariants as stage_type
use Rattle.t85_core.specs.Stages.{place_from, code_kind}
use Rattle.t85_core.specs.Stages as stage
use Rattle.t85_core.specs.Header.{Fields}
use Rattle.t85_core.specs.States.Pieces.{WalkStands, CodeStands, InRowStands, rows_in, head_place, code_place}
use Rattle.t85_core.specs.States.SizedImage.{sized}
use Rattle.t85_core.proofs.BodiesDecode.WalkGoesOn.{at_stage}
use Rattle.t85_core.proofs.BodiesDecode.WalkTakesRows.{in_row_going}

-- what is decoded is in the image
pub stage_fits : {h : Fields} {height : ℕ} (course : Course) (s : Stage) {rows : Held} {learned : List Estimate} {text out : List ℕ} →
    WalkStands (sized h height) (stage_view course s rows learned) text out → StageFits h course.left s
stage_fits course (stage_type.Head head) k = tt
stage_fits {h} {height} course (stage_type.Code c) {rows} {learned} {text} {out} k = by c.begun refl where
  in_stripe : {n : ℕ} → n < rows_in h height course.entities → n < min course.left h.l0
  in_stripe {n} = subst (λ z. n < min z h.l0) (sym k.left_is)

  by : (begun : Option RowPlace) → c.begun ≡ begun → PlaceFits h course.left c.row begun
  by None e =
      let at : CodeStands (sized h height) (head_place course.entities course.given c.at (record { held = rows; kept = course.kept; learned = learned }))
      (code_place c.row c.first c.marker course.decoder) text out = at_stage (ap code_kind e) k in
      subst (λ z. c.row ≤ min z h.l0) (sym k.left_is) at.few
  by (Some place) e =
      let at : InRowStands (sized h height) (head_place course.entities course.given c.at (record { held = rows; kept = course.kept; learned = learned }))
      (code_place c.row c.first c.marker course.decoder) (place_from c.begun) text out = at_stage (ap code_kind e) k in
      (in_stripe at.few, subst (λ b. (place_from b).done < h.xd) e k.within)
stage_fits course stage_type.Done k = tt

-- a row that is left is one of the stripe
pub row_in_stripe : {h : Fields} {height : ℕ} {w : WalkView} {text out : List ℕ} → WalkStands (sized h height) w text out → w.row < min w.left h.l0 → w.row < rows_in h height w.entities
row_in_stripe {h} {height} {w} {text} {out} s = subst (λ z. w.row < min z h.l0) s.left_is

-- where none is left the stripe has all
pub rows_all : {h : Fields} {height : ℕ} {w : WalkView} {text out : List ℕ} → w.stage ≡ stage.Code → WalkStands (sized h height) w text out → min w.left h.l0 ≤ w.row → w.row ≡
    rows_in h height w.entities
rows_all {h} {height} {w} {text} {out} is s all =
    let k : CodeStands (sized h height) (head_place w.entities w.given w.at w.carried) (code_place w.row w.first w.marker w.decoder) text out = at_stage is s in
    let few = k.few in
    let over : rows_in h height w.entities ≤ w.row = subst (λ z. min z h.l0 ≤ w.row) s.left_is all in
    omega (arith, few, over)

-- a decoder that goes on resumes where it is
pub resumed : {h : Fields} {height : ℕ} {w : WalkView} {text out : List ℕ} (d : Decoder) → w.stage ≡ stage.Row → (has_stopped w.decoder ≡ false → d ≡ w.decoder) →
    WalkStands (sized h height) w text out → WalkStands (sized h height) (record w { decoder = d }) text out
resumed {h} {height} {w} {text} {out} d is same s = subst (λ z. WalkStands (sized h height) (record w { decoder = z }) text out) (sym (same (in_row_going (at_stage is s)))) s

-- all rows are decoded, so none has begun
pub none_begun : {h : Fields} {height : ℕ} {w : WalkView} {text out : List ℕ} → w.stage ≡ stage.Row → WalkStands (sized h height) w text out → min w.left h.l0 ≤ w.row → ⊥
none_begun {h} {height} {w} {text} {out} is s all =
    let k : InRowStands (sized h height) (head_place w.entities w.given w.at w.carried) (code_place w.row w.first w.marker w.decoder) w.place text out = at_stage is s in
    let few = k.few in
    let over : rows_in h height w.entities ≤ w.row = subst (λ z. min z h.l0 ≤ w.row) s.left_is all in
    omega (arith, few, over)

-- a code all rows of which are decoded is between two rows
pub between_rows : {h : Fields} {height : ℕ} (course : Course) (c : InCode) {rows : Held} {learned : List Estimate} {text out : List ℕ} →
    WalkStands (sized h height) (code_view course c rows learned) text out → min course.left h.l0 ≤ c.row → c.begun ≡ None
between_rows {h} {height} course c {rows} {learned} {text} {out} k all = by c.begun refl where
  by : (begun : Option RowPlace) → c.begun ≡ begun → c.begun ≡ None
  by None e = e
  by (Some place) e = absurd (none_begun {w = code_view course c rows learned} (let z : code_kind c.begun ≡ stage.Row = subst (λ b. code_kind b ≡ stage.Row) (sym e) refl in z) k all)
