-- Rows of a decoder in pieces that repeat.
use Rattle.std.proofs.Common.{◌≡◌, ◌≤◌, ◌++◌, inl, inr, ℕ, true, false, List, Option, None, Some, refl, sym, ap, ◌∙◌, subst, true≢false}
use Rattle.std.specs.Prelude.{is_some}
use Rattle.qm_core.specs.Place.{Estimate}
use Rattle.raster_core.specs.Window.{held}
use Rattle.raster_core.specs.declared.place.RowPlace.{RowPlace}
use Rattle.raster_core.specs.declared.window.Window.{Window}
use Rattle.t85_core.specs.Lent.{PieceView, WalkView, code_view}
use Rattle.t85_core.specs.Options.{fields_of}
use Rattle.t85_core.specs.Pieces.{row_held}
use Rattle.t85_core.specs.Repeats.{Repeats}
use Rattle.t85_core.specs.Stages.{code_kind}
use Rattle.t85_core.specs.RowSink.{copies}
use Rattle.t85_core.specs.States.Pieces.{HasMarker, IsInCode, WalkStands}
use Rattle.t85_core.specs.States.SizedImage.{sized}
use Rattle.t85_core.specs.declared.pieces.code.InCode.{InCode}
use Rattle.t85_core.specs.declared.pieces.course.Course.{Course}
use Rattle.t85_core.proofs.BodiesDecode.PieceStands.{code_of, put_code, put_walks, walks_of}

pub code_is_in_code : (begun : Option RowPlace) → IsInCode (code_kind begun)
code_is_in_code None = inl refl
code_is_in_code (Some place) = inr refl

pub none_of_some : {A : Type 0} (m : Option A) → is_some m ≡ false → m ≡ None
none_of_some None e = refl
none_of_some (Some x) e = absurd (let bot : ⊥ = cc in bot)

-- a code, in a window that is unchanged
pub unmoved : {c c' : Course} {k k' : InCode} {window window' : Window} {learned learned' : List Estimate} → (k' ≡ k) × (c' ≡ c) × (window' ≡ window) × (learned' ≡ learned) →
    code_view c' k' (held window') learned' ≡ code_view c k (held window) learned
unmoved same = rw (same.0, same.1, same.2, same.3) refl

-- The effect of repeated rows on a walk.
pub record WalkRepeats (height : ℕ) (d : PieceView) (w' : WalkView) (most count : ℕ) : Type 0 where
  pub few : count ≤ most
  pub row : w'.carried.held.current ≡ row_held d
  pub on : (text out : List ℕ) → WalkStands (sized (fields_of d.header) height) d.walk text out → WalkStands (sized (fields_of d.header) height) w' text (out ++ copies count w'.carried.held.current)
  pub none : count ≡ 0 → w' ≡ d.walk

module _ {d : PieceView} {w' : WalkView} {most count : ℕ} where
  -- if the height is known
  pub repeats_known : d.is_open ≡ false → WalkRepeats d.height d w' most count → Repeats most d (record d { walk = w' }) count
  repeats_known known k = record {
    few = k.few;
    row = k.row;
    rows = λ text out has. record {
      going = has.going;
      stands = put_walks (record d { walk = w' }) text _ known has.stands.height (k.on text out (walks_of d text out known has.stands));
    };
    in_time = λ some late. absurd (true≢false (sym late ∙ known));
    same = refl;
    height = refl;
    ended = refl;
    none = λ z. ap (λ w. record d { walk = w }) (k.none z);
  }

  -- if one may follow the code
  pub repeats_open : d.is_open ≡ true → d.waits ≡ false → (HasMarker w' → ⊥) → IsInCode w'.stage → w'.given ≡ d.walk.given → WalkRepeats d.header.yd d w' most count → Repeats most d (record d { walk = w' }) count
  repeats_open late going unmarked in_code given k = record {
    few = k.few;
    row = k.row;
    rows = λ text out has.
        let w = code_of d text out late going has.stands in
        record {
          going = has.going;
          stands = put_code (record d { walk = w' }) text _ late going has.stands.height (record {
            walk = k.on text out w.walk;
            in_code = in_code;
            ungiven = given ∙ w.ungiven;
            in_time = λ marked. absurd (unmarked marked);
          });
        };
    in_time = λ some late. unmarked;
    same = refl;
    height = refl;
    ended = refl;
    none = λ z. ap (λ w. record d { walk = w }) (k.none z);
  }

pub repeats_of : {most count : ℕ} {d e f : PieceView} → d ≡ e → Repeats most d f count → Repeats most e f count
repeats_of {most = most} {count = count} {f = f} same k = subst (λ v. Repeats most v f count) same k
