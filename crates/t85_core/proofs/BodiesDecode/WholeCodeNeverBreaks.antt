-- A code whose end marker came: no row of it breaks, or waits.
use Rattle.std.proofs.Common.{◌≡◌, ◌≢◌, ◌⊎◌, inl, inr, ℕ, Bool, true, false, List, [], ◌∷◌, ◌++◌, Option, None, Some, refl, sym, ap, ◌∙◌, subst, append_assoc, append-nil, arith}
use Rattle.qm_core.specs.Code.{stuffed}
use Rattle.qm_core.specs.Source.{bytes_of}
use Rattle.qm_core.specs.declared.source.Pulled.{Pulled}
use Rattle.t85_core.specs.declared.fault.Fault.{Fault}
use Rattle.t85_core.specs.declared.fault.Fault.TheVariants.{Changed}
use Rattle.t85_core.specs.declared.segments.Code.{Code}
use Rattle.t85_core.specs.declared.segments.Code.TheVariants as code
use Rattle.t85_core.specs.Header.{Fields}
use Rattle.t85_core.specs.Grammar.{marker_bytes}
use Rattle.t85_core.specs.Refusal.{Spot, rest_fault}
use Rattle.t85_core.specs.Private.Segments.{RestFault}
use Rattle.t85_core.specs.States.PieceCode.{ahead_bytes, CodeText}
use Rattle.t85_core.specs.Private.PieceCode.{CodeBreaks}
use Rattle.t85_core.proofs.BytesJoin.BytesAreKnown.{stable_rest}
use Rattle.t85_core.proofs.BytesJoin.CodesAreStuffed.{stuff, stuff_cases, stuffed_append}
use Rattle.t85_core.proofs.BodiesParse.BodyHasOneReading.{NoCode, one_code, no_code_in, no_marker_fault, marker_no_code}
use Rattle.std.proofs.lemmas.Bool.Decides.{nat_tests}
use Rattle.t85_core.proofs.BytesJoin.CallsJoin.{longer_or_all}

-- no height is in use, and nothing came before
abbrev pub before_all : Spot
before_all = record { height = 0; entities = 0; heights = 0 }

-- how the end marker is known
abbrev pub Marked : Option Code → Option Bool → Type 0
Marked first marker = (reset : Bool) × ((marker ≡ Some reset) ⊎ (first ≡ Some (code.Marker reset)))

-- its text
abbrev pub WholeText : List ℕ → Type 0
WholeText text = (bytes : List ℕ) × (reset : Bool) × (text ≡ stuffed bytes ++ marker_bytes reset)

pub whole_text : (first : Option Code) (marker : Option Bool) (answers : List Pulled) (extra text : List ℕ) → CodeText first marker answers extra text → Marked first marker → WholeText text
whole_text first None answers extra text o (reset, inl e) = absurd (let bot : ⊥ = cc in bot)
whole_text first None answers extra text o (reset, inr e) = (bytes_of answers ++ extra, reset, o.text_is ∙ ap (λ z. stuffed (bytes_of answers ++ extra) ++ ahead_bytes z) e)
whole_text first (Some r) answers extra text o m = (bytes_of answers, r, o.text_is)

-- it doesn't break
pub never_breaks : (h : Fields) (spot : Spot) (text p bytes : List ℕ) (f : Fault) → WholeText text → CodeBreaks text p bytes f → ⊥
never_breaks h spot text p bytes f w k = no_marker_fault h spot 0 true w.1 p (subst (λ z. rest_fault h spot 0 true z ≡ Some f) same.1 has) where
  has : rest_fault h spot 0 true (k.rest ++ k.unread) ≡ Some f
  has = longer_or_all (λ z. rest_fault h spot 0 true z ≡ Some f) k.rest k.unread (k.broken h spot 0) k.at_end (stable_rest h spot 0 true k.rest k.unread f (k.broken h spot 0))

  same : (bytes ≡ w.0) × (k.rest ++ k.unread ≡ marker_bytes w.1 ++ p)
  same =
      one_code bytes w.0 (k.rest ++ k.unread) (marker_bytes w.1 ++ p)
      (sym (append_assoc (stuffed bytes) k.rest k.unread) ∙ sym k.text_is ∙ ap (λ z. z ++ p) w.2 ∙ append_assoc (stuffed w.0) (marker_bytes w.1) p)
      (no_code_in h spot 0 true (k.rest ++ k.unread) has) (marker_no_code w.1 p)

nothing_no_code : NoCode []
nothing_no_code b z e = went (stuff_cases b) where
  went : ((b ≡ 255) × (stuff b ≡ 255 ∷ 0 ∷ [])) ⊎ ((b ≢ 255) × (stuff b ≡ b ∷ [])) → ⊥
  went (inl p) = let k : [] ≡ 255 ∷ 0 ∷ z = e ∙ ap (λ u. u ++ z) p.1 in cc
  went (inr p) = let k : [] ≡ b ∷ z = e ∙ ap (λ u. u ++ z) p.1 in cc

no_marker_left : (bytes all given : List ℕ) (reset : Bool) → (stuffed bytes ++ marker_bytes reset) ++ given ≡ stuffed all ++ [] → ⊥
no_marker_left bytes all given reset e = empty reset (one_code bytes all (marker_bytes reset ++ given) [] (sym (append_assoc (stuffed bytes) (marker_bytes reset) given) ∙ e)
    (marker_no_code reset given) nothing_no_code).1 where
      empty : (r : Bool) → marker_bytes r ++ given ≡ [] → ⊥
      empty true k = cc
      empty false k = cc

-- the marker stays known
pub stays_marked : (text given : List ℕ) → WholeText text → (first : Option Code) (marker : Option Bool) (answers : List Pulled) (extra : List ℕ) →
    CodeText first marker answers extra (text ++ given) → Marked first marker
stays_marked text given w first (Some reset) answers extra o = (reset, inl refl)
stays_marked text given w None None answers extra o = absurd (no_marker_left w.0 (bytes_of answers ++ extra) given w.1 (ap (λ z. z ++ given) (sym w.2) ∙ o.text_is))
stays_marked text given w (Some (code.Byte b)) None answers extra o =
    absurd (no_marker_left w.0 ((bytes_of answers ++ extra) ++ b ∷ []) given w.1
    (ap (λ z. z ++ given) (sym w.2) ∙ o.text_is ∙ sym (stuffed_append (bytes_of answers ++ extra) (b ∷ [])) ∙ sym (append-nil (stuffed ((bytes_of answers ++ extra) ++ b ∷ [])))))
stays_marked text given w (Some (code.Marker reset)) None answers extra o = (reset, inr refl)

-- inside a code no height comes, so none is another
pub never_changed : Fields → Spot → (rest : List ℕ) → RestFault rest Changed → ⊥
never_changed h spot rest broken = went rest (broken h spot 0) where
  went : (rest : List ℕ) → rest_fault h spot 0 true rest ≡ Some Changed → ⊥
  went [] e = cc
  went (b ∷ []) e = grind (arith, nat_tests)
  went (b ∷ escape ∷ bytes) e = grind (arith, nat_tests)
