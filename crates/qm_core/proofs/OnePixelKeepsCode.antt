-- Which pixel takes which part, and what follows for whole lists of pixels.
use Rattle.std.proofs.Common.{◌≡◌, ◌≢◌, ℕ, zero, suc, ◌+◌, ◌-◌, ◌*◌, ◌^◌, ◌≤◌, ◌⊎◌, inl, inr, Bool, true, false, not, cond, nat_lt, List, [], ◌∷◌, ◌++◌, arith, refl, ap, ◌∙◌, sym}
use Rattle.std.proofs.lemmas.Bool.{lt-ltb, le-ltb, cases_lt}
use Rattle.std.proofs.Math.Nat.{pow-suc}
use Rattle.qm_core.specs.Table.{row_at}
use Rattle.qm_core.specs.Place.{Place, IsPlace, Estimate, State, Event, estimate_of, same, lower_part, upper_part, part, doubled, doubled_within, renormalised, step, after}
use Rattle.qm_core.specs.Code.{Lies}
use Rattle.qm_core.proofs.PlacesStayInside.{row-size, Lies-renormalised, renormalised-Lies, lower-Lies, upper-Lies, one_part, not_both, double_power}

-- the pixel that takes the lower part, where t says whether that is the smaller one
lower_pixel : Bool → Bool → Bool
lower_pixel t m = cond t (not m) m

low_true : (t m : Bool) → cond t (not (same (lower_pixel t m) m)) (same (lower_pixel t m) m) ≡ true
unfolding lower_pixel
low_true true true = refl
low_true true false = refl
low_true false true = refl
low_true false false = refl

low_false : (t m : Bool) → cond t (not (same (not (lower_pixel t m)) m)) (same (not (lower_pixel t m)) m) ≡ false
unfolding lower_pixel
low_false true true = refl
low_false true false = refl
low_false false true = refl
low_false false false = refl

-- the pixel that takes the lower part of a place
pub low_of : Place → Estimate → Bool
low_of p e = lower_pixel (nat_lt (p.size - (row_at e.row).size) (row_at e.row).size) e.pixel

part_low : (p : Place) (e : Estimate) → part p e (low_of p e) ≡ lower_part p (row_at e.row).size
unfolding part low_of
part_low p e = rw (low_true (nat_lt (p.size - (row_at e.row).size) (row_at e.row).size) e.pixel) refl

part_high : (p : Place) (e : Estimate) → part p e (not (low_of p e)) ≡ upper_part p (row_at e.row).size
unfolding part low_of
part_high p e = rw (low_false (nat_lt (p.size - (row_at e.row).size) (row_at e.row).size) e.pixel) refl

pixel_cases : (x y : Bool) → (x ≡ y) ⊎ (x ≡ not y)
pixel_cases true true = inl refl
pixel_cases true false = inr refl
pixel_cases false true = inr refl
pixel_cases false false = inl refl

pub step-place : (s : State) (cx : ℕ) (x : Bool) → (step s cx x).place ≡ renormalised (part s.place (estimate_of s.learned cx) x)
unfolding step
step-place s cx x = refl

fits_row : (p : Place) (k : ℕ) → IsPlace p → (row_at k).size ≤ p.size
fits_row p k h = let r = row-size k in omega (arith, h.large, r.1)

-- a code that lies in a part lies in the place
pub part-inside : (c : List ℕ) (p : Place) (e : Estimate) (x : Bool) → IsPlace p → Lies c (part p e x) → Lies c p
part-inside c p e x h l =
    elim (pixel_cases x (low_of p e)) [
      | inl low ↦ lower-Lies c p (row_at e.row).size (fits_row p e.row h) (rw (low, part_low p e) at l)
      | inr high ↦ upper-Lies c p (row_at e.row).size (fits_row p e.row h) (rw (high, part_high p e) at l)
    ]

pub step-inside : (c : List ℕ) (s : State) (cx : ℕ) (x : Bool) → IsPlace s.place → Lies c (step s cx x).place → Lies c s.place
step-inside c s cx x h l = part-inside c s.place (estimate_of s.learned cx) x h (renormalised-Lies c _ (rw (step-place s cx x) at l))

-- no code lies in the parts of both pixels
pub apart_once : (c : List ℕ) (s : State) (cx : ℕ) (x y : Bool) → x ≢ y → Lies c (step s cx x).place → Lies c (step s cx y).place → ⊥
apart_once c s cx x y ne a b =
    let e = estimate_of s.learned cx in
    let a' = renormalised-Lies c _ (rw (step-place s cx x) at a) in
    let b' = renormalised-Lies c _ (rw (step-place s cx y) at b) in
    elim (pixel_cases x (low_of s.place (estimate_of s.learned cx))) [
      | inl xl ↦ elim (pixel_cases y (low_of s.place (estimate_of s.learned cx))) [
        | inl yl ↦ ne (xl ∙ sym yl)
        | inr yh ↦ not_both c s.place _ (rw (xl, part_low s.place e) at a') (rw (yh, part_high s.place e) at b')
      ]
      | inr xh ↦ elim (pixel_cases y (low_of s.place (estimate_of s.learned cx))) [
        | inl yl ↦ not_both c s.place _ (rw (yl, part_low s.place e) at b') (rw (xh, part_high s.place e) at a')
        | inr yh ↦ ne (xh ∙ sym yh)
      ]
    ]

-- some pixel keeps the code inside
pub some_pixel : (c : List ℕ) (s : State) (cx : ℕ) → IsPlace s.place → Lies c s.place → (x : Bool) × Lies c (step s cx x).place
some_pixel c s cx h l =
    let e = estimate_of s.learned cx in
    elim (one_part c s.place (row_at (estimate_of s.learned cx).row).size (fits_row s.place _ h) l) [
      | inl low ↦ (low_of s.place e, rw (step-place s cx (low_of s.place e), part_low s.place e) (Lies-renormalised c _ low))
      | inr high ↦ (not (low_of s.place e), rw (step-place s cx (not (low_of s.place e)), part_high s.place e) (Lies-renormalised c _ high))
    ]

same_pixel : (x y : Bool) → (x ≡ y) ⊎ (x ≢ y)
same_pixel true true = inl refl
same_pixel true false = inr (λ e. cc)
same_pixel false true = inr (λ e. cc)
same_pixel false false = inl refl

pub only_pixel : (c : List ℕ) (s : State) (cx : ℕ) (x y : Bool) → Lies c (step s cx x).place → Lies c (step s cx y).place → y ≡ x
only_pixel c s cx x y a b = elim (same_pixel y x) [ inl e ↦ e | inr ne ↦ absurd (apart_once c s cx y x ne b a) ]

-- ---- places stay places
record IsPart (p : Place) : Type 0 where
  pub some : 1 ≤ p.size
  pub small : p.size ≤ 0x10000
  pub within : p.low + p.size ≤ 2 ^ (16 + p.doublings)

part-place : (p : Place) (e : Estimate) (x : Bool) → IsPlace p → IsPart (part p e x)
part-place p e x h =
    let r = row-size e.row in
    elim (pixel_cases x (low_of p e)) [
      | inl low ↦ rw (low, part_low p e) (record { some = omega (arith, r.1, h.large); small = omega (arith, h.small); within = omega (arith, h.within) })
      | inr high ↦ rw (high, part_high p e) (record { some = r.0; small = omega (arith, r.1); within = omega (arith, h.within, h.large, r.1) })
    ]

doubling-place : (k : ℕ) (p : Place) → IsPart p → 0x8000 ≤ p.size * 2 ^ k → IsPlace (doubled_within k p)
unfolding doubled_within
doubling-place zero p h l = record { large = omega (arith, l); small = h.small; within = h.within }
doubling-place (suc k) p h l =
    elim (cases_lt p.size 0x8000) [
      | inl less ↦
          let e = double_power p.doublings in
          rw (lt-ltb p.size 0x8000 less) (doubling-place k (doubled p)
          (record { some = omega (arith, h.some); small = omega arith; within = omega (arith, h.within, e) })
          (let m : p.size * 2 ^ suc k ≡ p.size * (2 ^ k * 2) = ap (λ z. p.size * z) (pow-suc 2 k) in omega arith))
      | inr more ↦ rw (le-ltb p.size 0x8000 more) (record { large = more; small = h.small; within = h.within })
    ]

pub step-IsPlace : (s : State) (cx : ℕ) (x : Bool) → IsPlace s.place → IsPlace (step s cx x).place
unfolding renormalised
step-IsPlace s cx x h =
    let q = part-place s.place (estimate_of s.learned cx) x h in
    rw (step-place s cx x) (doubling-place 16 (part s.place (estimate_of s.learned cx) x) q (omega (arith, q.some)))

pub after-inside : (events : List Event) (s : State) (c : List ℕ) → IsPlace s.place → Lies c (after s events).place → Lies c s.place
after-inside [] s c h l = l
after-inside (e ∷ events) s c h l = step-inside c s e.context e.pixel h (after-inside events (step s e.context e.pixel) c (step-IsPlace s e.context e.pixel h) l)

pub after-IsPlace : (events : List Event) (s : State) → IsPlace s.place → IsPlace (after s events).place
after-IsPlace [] s h = h
after-IsPlace (e ∷ events) s h = after-IsPlace events (step s e.context e.pixel) (step-IsPlace s e.context e.pixel h)

-- lists of pixels that part somewhere have no code in common
pub apart_after : (common : List Event) (s : State) (cx : ℕ) {x y : Bool} (rest other : List Event) {c : List ℕ} → IsPlace s.place → x ≢ y →
    Lies c (after s (common ++ record { context = cx; pixel = x } ∷ rest)).place → Lies c (after s (common ++ record { context = cx; pixel = y } ∷ other)).place → ⊥
apart_after [] s cx {x} {y} rest other {c} h ne a b =
    apart_once c s cx x y ne (after-inside rest (step s cx x) c (step-IsPlace s cx x h) a) (after-inside other (step s cx y) c (step-IsPlace s cx y h) b)
apart_after (e ∷ common) s cx rest other h ne a b = apart_after common (step s e.context e.pixel) cx rest other (step-IsPlace s e.context e.pixel h) ne a b

pub part-doublings : (p : Place) (e : Estimate) (x : Bool) → (part p e x).doublings ≡ p.doublings
part-doublings p e x =
    elim (pixel_cases x (low_of p e)) [
      | inl low ↦ rw (low, part_low p e) refl
      | inr high ↦ rw (high, part_high p e) refl
    ]
