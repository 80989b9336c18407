-- A row that ends, or waits at an end marker.
use Rattle.std.proofs.Common.{◌≡◌, ◌+◌, ◌++◌, inl, inr, Bool, true, false, List, [], ℕ, None, Result, Ok, Err, refl, sym, ap, ◌∙◌, subst, append_assoc, append-nil}
use Rattle.std.specs.Prelude.{IfErr}
use Rattle.t85_core.specs.declared.fault.Fault.{Fault}
use Rattle.t85_core.specs.declared.fault.Fault.TheVariants.{Changed}
use Rattle.t85_core.specs.Header.{Fields}
use Rattle.t85_core.specs.Lent.{WalkView}
use Rattle.t85_core.specs.States.PieceStands.{MarkerAfterRows}
use Rattle.t85_core.specs.Private.InTime.{ReachesMarker}
use Rattle.t85_core.specs.States.PieceCode.{MarkerIs}
use Rattle.t85_core.specs.States.Pieces.{HasMarker, IsInCode}
use Rattle.t85_core.specs.Private.Pieces.{KeepsPlace, SomeStands, Step, StepsOff, StepsOn}
use Rattle.t85_core.specs.Private.RowTurns.{BegunLeaves, BegunStep, CodeGoes}
use Rattle.t85_core.specs.States.SizedImage.{SizedImage, sized}
use Rattle.t85_core.proofs.BodiesDecode.MarkerComesInTime.{none_read}
use Rattle.t85_core.proofs.BodiesDecode.WalkGoesOn.{on_then, off_then}

-- a row was entered before
module _ {h : Fields} {height : ℕ} {w w1 : WalkView} {p p1 : List ℕ} (on : StepsOn (sized h height) w w1 p p1 []) (keeps : KeepsPlace w w1)
    (same : (w1.row ≡ w.row) × (w1.first ≡ w.first) × (w1.marker ≡ w.marker)) where
  marked_then : HasMarker w → HasMarker w1
  marked_then (reset, inl e) = (reset, inl (same.2 ∙ e))
  marked_then (reset, inr e) = (reset, inr (same.1 ∙ e))

  marked_before : HasMarker w1 → HasMarker w
  marked_before (reset, inl e) = (reset, inl (sym same.2 ∙ e))
  marked_before (reset, inr e) = (reset, inr (sym same.1 ∙ e))

  reaches_then : {p2 : List ℕ} → ReachesMarker (sized h height) w1 p1 p2 → ReachesMarker (sized h height) w p p2
  reaches_then {p2} reach text out s =
      let a = on text out s in
      let b = reach (text ++ a.0) (out ++ []) a.2 in (
        a.0 ++ b.0,
        a.1 ∙ ap (λ z. a.0 ++ z) b.1 ∙ sym (append_assoc a.0 b.0 p2),
        subst (λ z. MarkerAfterRows (sized h height) z out) (append_assoc text a.0 b.0) (subst (λ z. MarkerAfterRows (sized h height) ((text ++ a.0) ++ b.0) z) (append-nil out) b.2),
      )

  err_then : (r : Result Bool Fault) → IfErr r (λ f. StepsOff (sized h height) w1 p1 f) → IfErr r (λ f. StepsOff (sized h height) w p f)
  err_then (Ok b) k = tt
  err_then (Err f) k = off_then h height w w1 p p1 on f k

  pub begun_then : {w2 : WalkView} {p2 : List ℕ} (r : Result Bool Fault) → BegunStep (sized h height) w1 w2 p1 p2 r → BegunStep (sized h height) w w2 p p2 r
  begun_then {w2} {p2} r s = record {
    row = λ e. on_then h height w w1 p p1 on w2 p2 w2.carried.held.current (s.row e);
    marker = λ e unread. let k = s.marker e (λ m. unread (marked_before m)) in (on_then h height w w1 p p1 on w2 p2 [] k.0, reaches_then k.1);
    err = err_then r s.err;
    more = λ e. (on_then h height w w1 p p1 on w2 p2 [] (s.more e).0, (s.more e).1);
  }

  pub begun_leaves_then : {waits : Bool} {w2 : WalkView} {r : Result Bool Fault} → BegunLeaves waits w1 w2 r → BegunLeaves waits w w2 r
  begun_leaves_then l = record {
    place = record { entities = l.place.entities ∙ keeps.entities; left = l.place.left ∙ keeps.left; given = l.place.given ∙ keeps.given; at = l.place.at ∙ keeps.at };
    row = λ e. ((l.row e).0 ∙ ap (λ n. n + 1) same.0, (l.row e).1);
    code = l.code;
    waited = λ e. ((l.waited e).0, λ unread. (l.waited e).1 (λ m. unread (marked_before m)));
    whole = λ no m. l.whole no (marked_then m);
    unmarked = λ waits unread. l.unmarked waits (λ m. unread (marked_before m));
    unread = l.unread;
    other = l.other;
  }

-- ---- a code that does not wait

-- it returns no marker
pub is_row : {w w' : WalkView} (b : Bool) → BegunLeaves false w w' (Ok b) → b ≡ true
is_row true l = refl
is_row false l = absurd (let z : false ≡ true = (l.waited refl).0 in let bot : ⊥ = cc in bot)

module _ {image : SizedImage} {w w' : WalkView} {p p' : List ℕ} where
  pub row_on : (b : Bool) → BegunStep image w w' p p' (Ok b) → (SomeStands image w → BegunLeaves false w w' (Ok b)) → StepsOn image w w' p p' w'.carried.held.current
  row_on b s leaves text out k = s.row (ap Ok (is_row b (leaves (text, out, k)))) text out k

  -- ---- one that waits

  pub code_goes : {r : Result Bool Fault} → (HasMarker w → ⊥) → BegunStep image w w' p p' r → (SomeStands image w → BegunLeaves true w w' r) → CodeGoes image w w' p p' r
  code_goes unread s leaves = record {
    step = record { row = s.row; marker = λ e. s.marker e unread; err = s.err; more = s.more };
    leaves = λ some. let l = leaves some in record {
      place = l.place;
      code = l.code;
      marker = λ e. (l.waited e).1 unread;
      unmarked = λ e. l.unmarked refl unread e;
      unread = l.unread;
      other =
          l.other;
    };
  }

  -- after its last row
  pub code_ended : (reset : Bool) → Step image w w' p p' (Ok reset) → ReachesMarker image w p p' → KeepsPlace w w' → IsInCode w'.stage → MarkerIs reset w'.marker w'.first →
      CodeGoes image w w' p p' (Ok false)
  code_ended reset s reach keeps code marker = record {
    step = record { row = λ e. absurd (let bot : ⊥ = cc in bot); marker = λ _. (s.ok, reach); err = tt; more = λ e. absurd (let bot : ⊥ = cc in bot) };
    leaves = λ _. record { place = keeps; code = code; marker = λ _. (reset, marker); unmarked = λ e. absurd (let bot : ⊥ = cc in bot); unread = λ e. absurd (let bot : ⊥ = cc in bot); other = tt };
  }

  pub code_broke_off : (f : Fault) → Step {A = Bool} image w w' p p' (Err f) → (SomeStands image w → f ≡ Changed → ⊥) → KeepsPlace w w' → IsInCode w'.stage → w'.first ≡ None → w'.marker ≡ None →
      CodeGoes image w w' p p' (Err f)
  code_broke_off f s other keeps code first marker = record {
    step = record { row = λ e. absurd (let bot : ⊥ = cc in bot); marker = λ e. absurd (let bot : ⊥ = cc in bot); err = s.err; more = s.more };
    leaves = λ some. record {
      place = keeps;
      code = code;
      marker = λ e. absurd (let bot : ⊥ = cc in bot);
      unmarked = λ e. absurd (let bot : ⊥ = cc in bot);
      unread = λ _. none_read first marker;
      other = other some;
    };
  }
