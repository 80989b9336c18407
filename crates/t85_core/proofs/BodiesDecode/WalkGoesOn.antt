-- Steps of a walk, one after another.
use Rattle.std.proofs.Common.{◌≡◌, ◌≢◌, ◌<◌, ◌≤◌, ◌+◌, ◌-◌, ◌*◌, ℕ, suc, ◌⊎◌, inl, inr, Bool, true, false, List, [], ◌∷◌, ◌++◌, length, min, Option, Some, None, Result, Ok, Err, refl, sym, ap, ◌∙◌, subst, append_assoc, append-nil, arith}
use Rattle.std.specs.Prelude.{IfErr, IfSome}
use Rattle.std.specs.Int.{div_ceil}
use Rattle.std.specs.Result.{IsErrAnd}
use Rattle.std.proofs.lemmas.Bool.{cases_lt}
use Rattle.std.proofs.lemmas.Grind.{div_ceil_times}
use Rattle.std.proofs.Math.Nat.{mul-le-mul_right}
use Rattle.qm_core.specs.declared.decoder.Decoder.{Decoder}
use Rattle.t85_core.specs.declared.fault.Fault.{Fault}
use Rattle.t85_core.specs.declared.fault.Fault.TheVariants.{Truncated, Changed}
use Rattle.raster_core.specs.declared.place.RowPlace.{RowPlace}
use Rattle.t85_core.specs.Lent.{WalkView, Carried}
use Rattle.t85_core.specs.Stages.{Kind, code_kind}
use Rattle.t85_core.specs.Stages as stage
use Rattle.t85_core.specs.Header.{Fields}
use Rattle.t85_core.specs.States.State.{RowStart, image_start, first_row_start, next_stripe_start}
use Rattle.t85_core.specs.States.DecodeRows.{IsCarried}
use Rattle.t85_core.specs.declared.segments.Code.{Code}
use Rattle.t85_core.specs.declared.segments.atmove.Move.{Move}
use Rattle.t85_core.specs.States.Segments.{IsByteOrMarker}
use Rattle.t85_core.specs.declared.pieces.course.Course.{Course}
use Rattle.t85_core.specs.Private.Pieces.{CountsOn, EndsCount, KeepsStripes, StepsOn, StepsOff, StepsToEnd, Step, Turn, IsOver}
use Rattle.t85_core.specs.States.Pieces.{CutOff, HeadStands, WalkStands, StageStands, CodeStands, IsInCode, rows_in, head_place, code_place}
use Rattle.t85_core.specs.Private.StripeEnds.{StripeEnds}
use Rattle.t85_core.specs.States.SizedImage.{SizedImage, sized}
use Rattle.t85_core.proofs.StreamsAreWalked.StripeIsPassed.{passed_none}
use Rattle.t85_core.proofs.BodiesDecode.ImageIsPut.{stripes_start}
use Rattle.t85_core.proofs.BytesJoin.SegmentsGiveHeights.{more_stripes}

-- the counts of stripe data entities and of rows left
pub counts_kept : (image : SizedImage) (w w' : Course) → KeepsStripes w w' → CountsOn image w w'
counts_kept image w w' k e = k.1 ∙ e ∙ ap (λ n. image.height - n * image.fields.l0) (sym k.0)

pub counts_then : (image : SizedImage) (w w' w'' : Course) → CountsOn image w w' → CountsOn image w' w'' → CountsOn image w w''
counts_then image w w' w'' one two e = two (one e)

pub ended_counts : (image : SizedImage) {c c' : Course} (follows : Bool) → EndsCount image.fields.l0 follows c c' → CountsOn image c c'
ended_counts image {c} {c'} true k e =
    let more = k.more refl in
    let times : (c.entities + 1) * image.fields.l0 ≡ c.entities * image.fields.l0 + image.fields.l0 = omega arith in
    let left : c'.left ≡ image.height - (c.entities + 1) * image.fields.l0 = (let less = more.1 in omega (arith, times, less, e)) in
    left ∙ ap (λ n. image.height - n * image.fields.l0) (sym more.2)
ended_counts image {c} {c'} false k e = counts_kept image c c' (k.last refl).1 e

-- bytes were taken, and nothing was handed out
pub on_same : (h : Fields) (height : ℕ) (w' : WalkView) (text out p p' given : List ℕ) → p ≡ given ++ p' → WalkStands (sized h height) w' (text ++ given) out →
    (g : List ℕ) × (p ≡ g ++ p') × WalkStands (sized h height) w' (text ++ g) (out ++ [])
on_same h height w' text out p p' given taken s = (given, taken, subst (WalkStands (sized h height) w' (text ++ given)) (sym (append-nil out)) s)

-- nothing was taken
pub stays : (h : Fields) (height : ℕ) (w : WalkView) (p : List ℕ) → StepsOn (sized h height) w w p p []
stays h height w p text out s = on_same h height w text out p p [] refl (subst (λ z. WalkStands (sized h height) w z out) (sym (append-nil text)) s)

-- the stage is this
pub at_stage : {h : Fields} {height : ℕ} {w : WalkView} {text out : List ℕ} {k : Kind} → w.stage ≡ k → WalkStands (sized h height) w text out → StageStands k (sized h height) w text out
at_stage {h} {height} {w} {text} {out} e s = subst (λ z. StageStands z (sized h height) w text out) e s.stands

-- it is that of the walk
pub put_stage : (h : Fields) (height : ℕ) (w : WalkView) (text out : List ℕ) (k : Kind) → w.stage ≡ k → StageStands k (sized h height) w text out → StageStands w.stage (sized h height) w text out
put_stage h height w text out k e s = subst (λ z. StageStands z (sized h height) w text out) (sym e) s

-- a walk that carries the same, at another stage or of another text
pub walk_with : {h : Fields} {height : ℕ} {w : WalkView} {text out text' out' : List ℕ} {decoder : Decoder} {stage' : Kind} {given : Bool} {at : Option Move} {comment row : ℕ} {place : RowPlace}
    {first : Option Code} {marker : Option Bool} →
    WalkStands (sized h height) w text out → IfSome first IsByteOrMarker → IfSome marker (λ _. first ≡ None) → place.done < h.xd →
    StageStands stage' (sized h height) (record w { decoder = decoder; stage = stage'; given = given; at = at; comment = comment; row = row; place = place; first = first; marker = marker }) text' out'
    →
    WalkStands (sized h height) (record w { decoder = decoder; stage = stage'; given = given; at = at; comment = comment; row = row; place = place; first = first; marker = marker }) text' out'
walk_with s code_is behind within stands = record {
  left_is = s.left_is;
  width_is = s.width_is;
  code_is = code_is;
  behind = behind;
  within = within;
  stands = stands;
}

-- as far in its row
pub walk_at : {h : Fields} {height : ℕ} {w : WalkView} {text out text' out' : List ℕ} {decoder : Decoder} {stage' : Kind} {given : Bool} {at : Option Move} {comment row : ℕ} {first : Option Code}
    {marker : Option Bool} →
    WalkStands (sized h height) w text out → IfSome first IsByteOrMarker → IfSome marker (λ _. first ≡ None) →
    StageStands stage' (sized h height) (record w { decoder = decoder; stage = stage'; given = given; at = at; comment = comment; row = row; first = first; marker = marker }) text' out' →
    WalkStands (sized h height) (record w { decoder = decoder; stage = stage'; given = given; at = at; comment = comment; row = row; first = first; marker = marker }) text' out'
walk_at s code_is behind stands = walk_with s code_is behind s.within stands

pub nil_of : (xs : List ℕ) → length xs ≡ 0 → xs ≡ []
nil_of [] e = refl
nil_of (x ∷ xs) e = absurd (omega (arith, e))

module _ (h : Fields) (height : ℕ) (w w1 : WalkView) (p p1 : List ℕ) (on : StepsOn (sized h height) w w1 p p1 []) where
  pub on_then : (w2 : WalkView) (p2 row : List ℕ) → StepsOn (sized h height) w1 w2 p1 p2 row → StepsOn (sized h height) w w2 p p2 row
  on_then w2 p2 row next text out s =
      let a = on text out s in
      let b = next (text ++ a.0) (out ++ []) a.2 in (
        a.0 ++ b.0,
        a.1 ∙ ap (λ z. a.0 ++ z) b.1 ∙ sym (append_assoc a.0 b.0 p2),
        subst (λ z. WalkStands (sized h height) w2 z (out ++ row)) (append_assoc text a.0 b.0) (subst (λ z. WalkStands (sized h height) w2 ((text ++ a.0) ++ b.0) (z ++ row)) (append-nil out) b.2),
      )

  pub off_then : (f : Fault) → StepsOff (sized h height) w1 p1 f → StepsOff (sized h height) w p f
  off_then f off text out s =
      let a = on text out s in
      subst (λ z. CutOff (sized h height) z out f) (append_assoc text a.0 p1 ∙ ap (λ z. text ++ z) (sym a.1))
      (subst (λ z. CutOff (sized h height) ((text ++ a.0) ++ p1) z f) (append-nil out) (off (text ++ a.0) (out ++ []) a.2))

-- ---- stripes

-- an image has a stripe
pub some_stripe : (height l : ℕ) → 1 ≤ height → 1 ≤ l → 0 < div_ceil height l
some_stripe height l one some = went (cases_lt 0 (div_ceil height l)) where
  times : height ≤ div_ceil height l * l
  times = (div_ceil_times height l some).0

  went : (0 < div_ceil height l) ⊎ (div_ceil height l ≤ 0) → 0 < div_ceil height l
  went (inl lt) = lt
  went (inr le) = let k : div_ceil height l * l ≤ 0 * l = mul-le-mul_right l le in let z : 0 * l ≡ 0 = omega arith in absurd (omega (arith, k, z, times, one))

-- a stripe of the image has a row
pub some_row : (height l e : ℕ) → 1 ≤ l → e < div_ceil height l → 0 < min (height - e * l) l
some_row height l e some lt =
    let k : suc e * l ≤ div_ceil height l * l = mul-le-mul_right l (omega (arith, lt)) in
    let t = div_ceil_times height l some in
    let s : suc e * l ≡ e * l + l = omega arith in
    omega (arith, k, t.1, s, some)

-- no row is left after the last stripe
pub last_stripe : (height l e : ℕ) → 1 ≤ l → e < div_ceil height l → height ≤ (e + 1) * l → e + 1 ≡ div_ceil height l
last_stripe height l e some lt le = went (cases_lt (e + 1) (div_ceil height l)) where
  went : (e + 1 < div_ceil height l) ⊎ (div_ceil height l ≤ e + 1) → e + 1 ≡ div_ceil height l
  went (inr few) = omega (arith, few, lt)
  went (inl more) =
      let k : ((e + 1) + 1) * l ≤ div_ceil height l * l = mul-le-mul_right l (omega (arith, more)) in
      let t = div_ceil_times height l some in
      let s : ((e + 1) + 1) * l ≡ (e + 1) * l + l = omega arith in
      absurd (omega (arith, k, t.1, s, le))

-- so many stripes have so many rows at least
pub few_before : (height l e : ℕ) → 1 ≤ l → e < div_ceil height l → e < height
few_before height l e some lt =
    let row = some_row height l e some lt in
    let many : 1 * e ≤ l * e = mul-le-mul_right e some in
    omega (arith, row, many)

-- where rows are left a stripe is
pub next_stripe : (height l e : ℕ) → 1 ≤ l → (e + 1) * l < height → e + 1 < div_ceil height l
next_stripe height l e some lt = more_stripes height l (e + 1) some lt

-- before the first byte
pub head_first : (h : Fields) (height width : ℕ) (carried : Carried) → 1 ≤ height → 1 ≤ h.l0 → width ≡ h.xd → IsCarried (first_row_start (image_start width)) carried →
    HeadStands (sized h height) (head_place 0 false None carried) [] []
head_first h height width carried one some wide first = record {
  before = false;
  front = [];
  back = [];
  text_is = refl;
  stripes = stripes_start h height width (Some []) (Some []) carried wide first;
  comments = 0;
  passed = passed_none h (record { height = height; entities = 0; given = false }) false (Some []);
  fewer = some_stripe height h.l0 one some;
}

-- ---- exits

-- a step went well
pub step_ok : {A : Type 0} {image : SizedImage} {w w' : WalkView} {p p' : List ℕ} {u : A} → StepsOn image w w' p p' [] → Step image w w' p p' (Ok u)
step_ok on = record { ok = on; err = tt; more = λ e. absurd (let bot : ⊥ = cc in bot) }

pub step_exit : {A : Type 0} (h : Fields) (height : ℕ) (w w' : WalkView) (p p' : List ℕ) (r : Result A Fault) (e : Fault) → IsErrAnd r (λ y. y ≡ e) → StepsOff (sized h height) w p e →
    (e ≡ Truncated → StepsToEnd (sized h height) w w' p p') → Step (sized h height) w w' p p' r
step_exit h height w w' p p' (Ok x) e a off on = absurd a
step_exit h height w w' p p' (Err y) e a off on = record { ok = tt; err = subst (StepsOff (sized h height) w p) (sym a) off; more = λ is. on (sym a ∙ (let same : y ≡ Truncated = cc in same)) }

-- a fault that is another
pub other_exit : {A : Type 0} (r : Result A Fault) (e : Fault) → IsErrAnd r (λ y. y ≡ e) → e ≢ Changed → IfErr r (λ f. f ≢ Changed)
other_exit (Ok x) e a other = tt
other_exit (Err y) e a other = λ is. other (sym a ∙ is)

-- a row, as a turn
pub turn_row : (h : Fields) (height : ℕ) (w w' : WalkView) (p p' : List ℕ) → StepsOn (sized h height) w w' p p' w'.carried.held.current → Turn (sized h height) w w' p p' (Ok true)
turn_row h height w w' p p' on = record { row = λ _. on; done = λ e. absurd (let bot : ⊥ = cc in bot); err = tt; more = λ e. absurd (let bot : ⊥ = cc in bot) }

pub turn_exit : (h : Fields) (height : ℕ) (w w' : WalkView) (p p' : List ℕ) (r : Result Bool Fault) (e : Fault) → IsErrAnd r (λ y. y ≡ e) → StepsOff (sized h height) w p e →
    (e ≡ Truncated → StepsToEnd (sized h height) w w' p p') → Turn (sized h height) w w' p p' r
turn_exit h height w w' p p' (Ok x) e a off on = absurd a
turn_exit h height w w' p p' (Err y) e a off on = record {
  row = λ is. absurd (let bot : ⊥ = cc in bot);
  done = λ is. absurd (let bot : ⊥ = cc in bot);
  err = subst (StepsOff (sized h height) w p) (sym a) off;
  more = λ is. on (sym a ∙ (let same : y ≡ Truncated = cc in same));
}

-- which stage it is
pub over_done : (k : Kind) → IsOver k → k ≡ stage.Done
over_done stage.Done o = refl
over_done k o = absurd o

-- of four, not the last two
pub first_two : {A B C D : Type 0} → A ⊎ (B ⊎ (C ⊎ D)) → (C → ⊥) → (D → ⊥) → A ⊎ B
first_two (inl a) m n = inl a
first_two (inr (inl b)) m n = inr b
first_two (inr (inr (inl c))) m n = absurd (m c)
first_two (inr (inr (inr d))) m n = absurd (n d)

-- a stripe's first row is to come
pub first_row : {h : Fields} {height : ℕ} {w : WalkView} {text out : List ℕ} → 1 ≤ h.l0 → w.stage ≡ stage.Code → w.row ≡ 0 → WalkStands (sized h height) w text out →
    w.row < rows_in h height w.entities
first_row {h} {height} {w} {text} {out} some is zero s =
    let k : CodeStands (sized h height) (head_place w.entities w.given w.at w.carried) (code_place w.row w.first w.marker w.decoder) text out = at_stage is s in
    let r = some_row height h.l0 w.entities some k.head.fewer in
    omega (arith, zero, r)

-- a walk in the code of a stripe has fewer stripes behind it than rows
pub walk_few : (h : Fields) (height : ℕ) (w : WalkView) (text out : List ℕ) → 1 ≤ h.l0 → IsInCode w.stage → WalkStands (sized h height) w text out → w.entities < height
walk_few h height w text out some (inl code) s = few_before height h.l0 w.entities some (at_stage code s).head.fewer
walk_few h height w text out some (inr row) s = few_before height h.l0 w.entities some (at_stage row s).head.fewer

-- what stays after an end marker, where the width goes by another name
pub kept_wide : (wide width : ℕ) (reset : Bool) (carried next : Carried) → wide ≡ width →
    ((last : RowStart) → IsCarried last carried → IsCarried (first_row_start (next_stripe_start wide reset last)) next)
    → (last : RowStart) → IsCarried last carried → IsCarried (first_row_start (next_stripe_start width reset last)) next
kept_wide wide width reset carried next e kept last is = subst (λ w. IsCarried (first_row_start (next_stripe_start w reset last)) next) e (kept last is)

-- a stripe ended, and no byte was taken
pub ends_on : {h : Fields} {height : ℕ} {w w' : WalkView} (p : List ℕ) → StripeEnds (sized h height) w w' → StepsOn (sized h height) w w' p p []
ends_on {h} {height} {w} {w'} p ends text out s = on_same h height w' text out p p [] refl (subst (λ z. WalkStands (sized h height) w' z out) (sym (append-nil text)) (ends.on text out s))

-- the code has begun
pub in_code_of : (begun : Option RowPlace) → IsInCode (code_kind begun)
in_code_of None = inl refl
in_code_of (Some place) = inr refl
