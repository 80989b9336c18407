-- The rest of a piece: the beginning of an escape or of a segment.
use Rattle.std.proofs.Common.{cond, ◌||◌, ◌≡◌, ◌≢◌, ◌⊎◌, inl, inr, ◌<◌, ◌≤◌, ℕ, Bool, true, false, List, [], ◌∷◌, ◌++◌, Option, None, Some, length, nat_le, Result, Ok, Err, refl, sym, ap, ◌∙◌, subst, append-nil, arith}
use Rattle.std.specs.Bool.{◌==◌}
use Rattle.std.specs.Result.{IfErr, IsErrOf}
use Rattle.std.proofs.lemmas.Bool.Decides.{nat_tests}
use Rattle.t85_core.specs.declared.fault.Fault.{Fault}
use Rattle.t85_core.specs.declared.fault.Fault.TheVariants.{Truncated, Aborted, BadEscape}
use Rattle.t85_core.specs.declared.segments.Place.{Place}
use Rattle.t85_core.specs.Header.{Fields}
use Rattle.t85_core.specs.Refusal.{Spot, rest_fault, escape_fault, length_fault, move_fault, comment_fault}
use Rattle.t85_core.specs.Failures.{Ends, counted_as}
use Rattle.t85_core.specs.Private.Segments.{PieceFault}
use Rattle.t85_core.specs.Private.Entity.{CodeEnds}
use Rattle.t85_core.specs.Private.PieceCode.{SkipBreaks}
use Rattle.t85_core.proofs.BodiesDecode.WholeCodeNeverBreaks.{before_all}

-- ---- in a code

code_few : (h : Fields) (spot : Spot) (rest : List ℕ) → rest_fault h spot 0 true rest ≡ Some Truncated → length rest ≤ 1
code_few h spot [] e = omega arith
code_few h spot (b ∷ []) e = omega arith
code_few h spot (b ∷ escape ∷ bytes) e = absurd (let bot : ⊥ = grind (arith, nat_tests) in bot)

-- any header
some_fields : Fields
some_fields = record { xd = 0; yd = 0; l0 = 0; mx = 0; options = 0 }

pub ends_few : (p : List ℕ) (f : Fault) → CodeEnds p f → f ≡ Truncated → length p ≤ 1
ends_few p f k cut = subst (λ z. length z ≤ 1) (sym (k.bytes_are ∙ ap (λ z. k.rest ++ z) (k.at_end cut) ∙ append-nil k.rest))
    (code_few some_fields before_all k.rest (subst (λ g. rest_fault some_fields before_all 0 true k.rest ≡ Some g) cut (k.broken some_fields before_all 0)))

pub skip_few : (p p' : List ℕ) (r : Result Bool Fault) → IfErr r (SkipBreaks p p') → IsErrOf r Truncated → length p' ≤ 1
skip_few p p' (Ok x) k e = absurd (let bot : ⊥ = cc in bot)
skip_few p p' (Err f) k e = ends_few p' f k.ends (let same : f ≡ Truncated = cc in same)

-- ---- before a code

-- which test is met
tests : (a b c d e f g h : Bool) (l m k : Option Fault) → cond ((a || b) || c) None (cond d (Some Aborted) (cond ((e || f) || false) (Some BadEscape) (cond g l (cond h m k)))) ≡ Some Truncated →
    (l ≡ Some Truncated) ⊎ ((m ≡ Some Truncated) ⊎ ((a ≡ false) × (b ≡ false) × (c ≡ false) × (d ≡ false) × (e ≡ false) × (f ≡ false) × (g ≡ false) × (h ≡ false)))
tests false false false false false false true h l m k is = inl is
tests false false false false false false false true l m k is = inr (inl is)
tests false false false false false false false false l m k is = inr (inr (refl, refl, refl, refl, refl, refl, refl, refl))
tests a b c d e f g h l m k is = absurd (let bot : ⊥ = cc in bot)

escape_few : (h : Fields) (spot : Spot) (moves escape : ℕ) (bytes : List ℕ) → escape_fault h spot moves false escape bytes ≡ Some Truncated → escape ≢ 7 → length bytes ≤ 5
escape_few h spot moves escape bytes is other =
    went (tests (escape == 0) (escape == 2) (escape == 3) (escape == 4) (escape == 1) (nat_le 8 escape) (escape == 5) (escape == 6) (length_fault h spot bytes) (move_fault h moves bytes)
    (comment_fault bytes) is) where
      went : (length_fault h spot bytes ≡ Some Truncated) ⊎ ((move_fault h moves bytes ≡ Some Truncated) ⊎
          (((escape == 0) ≡ false) × ((escape == 2) ≡ false) × ((escape == 3) ≡ false) × ((escape == 4) ≡ false) × ((escape == 1) ≡ false) × (nat_le 8 escape ≡ false) × ((escape == 5) ≡ false) ×
          ((escape == 6) ≡ false))) → length bytes ≤ 5
      went (inl e) = let short : length bytes < 4 = grind (arith, nat_tests) in omega (arith, short)
      went (inr (inl e)) = let short : length bytes < 6 = grind (arith, nat_tests) in omega (arith, short)
      went (inr (inr (a, b, c, d, e, f, g, i))) = let seven : escape ≡ 7 = grind (arith, nat_tests) in absurd (other seven)

rest_few : (h : Fields) (spot : Spot) (moves : ℕ) (rest : List ℕ) → rest_fault h spot moves false rest ≡ Some Truncated → ((more : List ℕ) → rest ≡ 255 ∷ 7 ∷ more → ⊥) → length rest ≤ 7
rest_few h spot moves [] is other = omega arith
rest_few h spot moves (b ∷ []) is other = omega arith
rest_few h spot moves (b ∷ escape ∷ bytes) is other = went (b == 255) refl is where
  went : (t : Bool) → (b == 255) ≡ t → cond t (escape_fault h spot moves false escape bytes) None ≡ Some Truncated → length (b ∷ escape ∷ bytes) ≤ 7
  went true t e =
      let first : b ≡ 255 = grind (arith, nat_tests) in
      let few = escape_few h spot moves escape bytes e (λ seven. other bytes (ap (λ z. z ∷ escape ∷ bytes) first ∙ ap (λ z. 255 ∷ z ∷ bytes) seven)) in
      omega (arith, few)
  went false t e = absurd (let bot : ⊥ = cc in bot)

-- no segment is whole, and no comment has begun
pub piece_few : (h : Fields) (place : Place) (moved : Bool) (p p' : List ℕ) (f : Fault) → Ends Truncated (Some p) (Some p') (PieceFault h place moved) f → ((more : List ℕ) → p ≡ 255 ∷ 7 ∷ more → ⊥) →
    f ≡ Truncated → length p ≤ 7
piece_few h place moved p p' f ends other is =
    let all : p ≡ ends.given = ends.taken ∙ ap (λ z. ends.given ++ z) (ends.at_end is) ∙ append-nil ends.given in
    let has : PieceFault h place moved ends.given Truncated = subst (λ g. PieceFault h place moved ends.given (counted_as Truncated g)) is ends.has_fault in
    rest_few h (record { height = 0; entities = place.entities; heights = cond place.given 1 0 }) (cond moved 1 0) p
    (subst (λ z. rest_fault h (record { height = 0; entities = place.entities; heights = cond place.given 1 0 }) (cond moved 1 0) false z ≡ Some Truncated) (sym all) (has 0)) other

-- the length of a comment has begun
pub comment_few : (p rest p' : List ℕ) (f : Fault) → p ≡ 255 ∷ 7 ∷ rest → Ends Truncated (Some rest) (Some p') (λ given fault. (length given < 4) × (fault ≡ Truncated)) f → f ≡ Truncated →
    length p ≤ 7
comment_few p rest p' f begins ends is =
    let all : rest ≡ ends.given = ends.taken ∙ ap (λ z. ends.given ++ z) (ends.at_end is) ∙ append-nil ends.given in
    let short : length rest < 4 = subst (λ z. length z < 4) (sym all) ends.has_fault.0 in
    let long : length p ≡ length {A = ℕ} (255 ∷ 7 ∷ rest) = ap length begins in
    omega (arith, short, long)
