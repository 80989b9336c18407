-- How far events double a place, and how long a code then is.
use Rattle.std.proofs.Common.{ℕ, zero, suc, ◌≡◌, ◌≤◌, ◌+◌, ◌*◌, ◌%◌, Bool, true, false, nat_lt, nat_eq, List, [], ◌∷◌, length, refl, arith}
use Rattle.qm_core.specs.Place.{Place, State, Event, step, after, part, doubled, doubled_within, renormalised, estimate_of}
use Rattle.qm_core.specs.Code.{stuffed, fraction_bytes, code_of, wanted_bytes}
use Rattle.qm_core.proofs.OnePixelKeepsCode.{part-doublings}

within : (k : ℕ) (p : Place) → (doubled_within k p).doublings ≤ p.doublings + k
unfolding doubled_within
within zero p = omega arith
within (suc k) p = went (nat_lt p.size 0x8000) refl (within k (doubled p)) where
  went : (test : Bool) → nat_lt p.size 0x8000 ≡ test → (doubled_within k (doubled p)).doublings ≤ (p.doublings + 1) + k → (doubled_within (suc k) p).doublings ≤ p.doublings + suc k
  went true is more = rw is (omega (arith, more))
  went false is more = rw is (omega arith)

one : (s : State) (cx : ℕ) (pixel : Bool) → (step s cx pixel).place.doublings ≤ s.place.doublings + 16
unfolding step renormalised
one s cx pixel =
    let most = within 16 (part s.place (estimate_of s.learned cx) pixel) in
    let same = part-doublings s.place (estimate_of s.learned cx) pixel in
    omega (arith, most, same)

pub events_double : (events : List Event) (s : State) → (after s events).place.doublings ≤ s.place.doublings + 16 * length events
events_double [] s = omega arith
events_double (e ∷ events) s =
    let first = one s e.context e.pixel in
    let rest = events_double events (step s e.context e.pixel) in
    omega (arith, first, rest)

pub fraction_short : (k v unit : ℕ) → length (fraction_bytes k v unit) ≤ k
fraction_short zero v unit = omega arith
fraction_short (suc k) v unit = went (nat_eq v 0) refl (fraction_short k (v * 256 % unit) unit) where
  went : (test : Bool) → nat_eq v 0 ≡ test → length (fraction_bytes k (v * 256 % unit) unit) ≤ k → length (fraction_bytes (suc k) v unit) ≤ suc k
  went true is less = rw is (omega arith)
  went false is less = rw is (omega (arith, less))

pub stuffed_short : (b : List ℕ) → length (stuffed b) ≤ 2 * length b
stuffed_short [] = omega arith
stuffed_short (b ∷ bs) = went (nat_eq b 255) refl (stuffed_short bs) where
  went : (test : Bool) → nat_eq b 255 ≡ test → length (stuffed bs) ≤ 2 * length bs → length (stuffed (b ∷ bs)) ≤ 2 * length (b ∷ bs)
  went true is less = rw is (omega (arith, less))
  went false is less = rw is (omega (arith, less))

pub code_is_short : (p : Place) → length (stuffed (code_of p)) ≤ 2 * wanted_bytes p.doublings
code_is_short p =
    let one = stuffed_short (code_of p) in
    let two : length (code_of p) ≤ wanted_bytes p.doublings = fraction_short _ _ _ in
    omega (arith, one, two)
