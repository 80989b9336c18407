-- The offset that is chosen by counts.
use Rattle.std.proofs.Common.{◌≡◌, ℕ, zero, suc, ◌+◌, ◌-◌, ◌<◌, ◌≤◌, Bool, true, false, ◌&&◌, ◌||◌, List, ◌∷◌, refl, sym, ap, arith, min, Some, inl, inr, ◌⊎◌}
use Rattle.std.specs.Prelude.{map, max, nat_le, slice_index, ◌==◌}
use Rattle.std.specs.List.{list_all}
use Rattle.std.proofs.Math.Bool.{and-false}
use Rattle.std.proofs.lemmas.Bool.Decides.{nat_tests}
use Rattle.raster_core.specs.Lines.{numbers_from}
use Rattle.raster_core.specs.Choice.{Counting, PixelCounts, first_best, greatest_of, is_worth, least_of, offset_by}
use Rattle.raster_core.specs.Counting.{HasCounts, counting_of, counts_in, is_offered}
use Rattle.raster_core.specs.Offset.{candidates}
use Rattle.raster_core.specs.Tally.{least_lag}
use Rattle.raster_core.specs.declared.choice.Choice.{Choice}
use Rattle.raster_core.proofs.BestIsFound.{all_true, one_false, find_first}

-- ---- the greatest and the least count

max_last : (at : ℕ → ℕ) (k n : ℕ) → greatest_of (map at (numbers_from k (n + 1))) ≡ max (greatest_of (map at (numbers_from k n))) (at (k + n))
max_last at k zero =
    let plus : k + 0 ≡ k = omega arith in
    rw plus (first (at k))
  where
    first : (a : ℕ) → max a 0 ≡ max 0 a
    first a = omega arith
max_last at k (suc n) =
    let e = max_last at (k + 1) n in
    let s : suc n + 1 ≡ suc (n + 1) = omega arith in
    let m : (k + 1) + n ≡ k + suc n = omega arith in
    rw (s, e, m) (three (at k) (greatest_of (map at (numbers_from (k + 1) n))) (at (k + suc n)))
  where
    three : (a b c : ℕ) → max a (max b c) ≡ max (max a b) c
    three a b c = omega arith

min_last : (at : ℕ → ℕ) (limit k n : ℕ) → least_of limit (map at (numbers_from k (n + 1))) ≡ min (least_of limit (map at (numbers_from k n))) (at (k + n))
min_last at limit k zero =
    let plus : k + 0 ≡ k = omega arith in
    rw plus (first (at k))
  where
    first : (a : ℕ) → min a limit ≡ min limit a
    first a = omega arith
min_last at limit k (suc n) =
    let e = min_last at limit (k + 1) n in
    let s : suc n + 1 ≡ suc (n + 1) = omega arith in
    let m : (k + 1) + n ≡ k + suc n = omega arith in
    rw (s, e, m) (three (at k) (least_of limit (map at (numbers_from (k + 1) n))) (at (k + suc n)))
  where
    three : (a b c : ℕ) → min a (min b c) ≡ min (min a b) c
    three a b c = omega arith

next_count : (least lag : ℕ) → least ≤ lag → lag + 1 - least ≡ (lag - least) + 1
next_count least lag h = omega arith

there : (least lag : ℕ) → least ≤ lag → least + (lag - least) ≡ lag
there least lag h = omega arith

-- one lag more
pub greatest_more : (at : ℕ → ℕ) (least lag : ℕ) → least ≤ lag →
    greatest_of (map at (numbers_from least (lag + 1 - least))) ≡ max (greatest_of (map at (numbers_from least (lag - least)))) (at lag)
greatest_more at least lag h = rw (next_count least lag h, max_last at least (lag - least), there least lag h) refl

pub least_more : (at : ℕ → ℕ) (limit least lag : ℕ) → least ≤ lag →
    least_of limit (map at (numbers_from least (lag + 1 - least))) ≡ min (least_of limit (map at (numbers_from least (lag - least)))) (at lag)
least_more at limit least lag h = rw (next_count least lag h, min_last at limit least (lag - least), there least lag h) refl

-- ---- the first offset with the greatest count

-- what the counts say of it
pub record IsFirstBest (n : PixelCounts) (least end best : ℕ) : Type 0 where
  pub place : (best ≡ 0) ⊎ ((least ≤ best) × (best < end))
  pub nominal : n.at 0 ≤ n.at best
  pub most : (u : ℕ) → least ≤ u → u < end → n.at u ≤ n.at best
  pub first_nominal : 0 < best → n.at 0 < n.at best
  pub first : (u : ℕ) → least ≤ u → u < best → n.at u < n.at best

-- whether an offset has the greatest count
abbrev is_best : PixelCounts → ℕ → ℕ → ℕ → Bool
is_best n least count t = nat_le (n.at 0) (n.at t) && list_all (λ u. nat_le (n.at u) (n.at t)) (numbers_from least count)

le_true : (a b : ℕ) → a ≤ b → nat_le a b ≡ true
le_true a b h = grind (arith, nat_tests)

le_false : (a b : ℕ) → b < a → nat_le a b ≡ false
le_false a b h = grind (arith, nat_tests)

hit : (n : PixelCounts) (least count end best : ℕ) → count ≡ end - least → IsFirstBest n least end best → is_best n least count best ≡ true
hit n least count end best long h =
    rw (le_true (n.at 0) (n.at best) h.nominal)
    (all_true (λ u. nat_le (n.at u) (n.at best)) least count (λ u from to. le_true (n.at u) (n.at best) (h.most u from (omega arith))))

miss : (n : PixelCounts) (least count end best t : ℕ) → count ≡ end - least → least ≤ best → best < end → n.at t < n.at best → is_best n least count t ≡ false
miss n least count end best t long low high less =
    rw (one_false (λ u. nat_le (n.at u) (n.at t)) least count best low (omega arith) (le_false (n.at best) (n.at t) less)) (and-false (nat_le (n.at 0) (n.at t)))

pub first_best_is : (n : PixelCounts) (least count end best : ℕ) → 1 ≤ least → count ≡ end - least → IsFirstBest n least end best →
    first_best n (0 ∷ numbers_from least count) ≡ Some best
first_best_is n least count end best some long h =
    elim h.place [
      | inl e ↦
          let here : is_best n least count 0 ≡ true = rw e at (hit n least count end best long h) in
          let at : Some best ≡ Some 0 = ap Some e in
          rw here (sym at)
      | inr within ↦
          let none = miss n least count end best 0 long within.0 within.1 (h.first_nominal (omega arith)) in
          rw none
          (find_first (is_best n least count) least count best within.0 (omega arith)
          (hit n least count end best long h)
          (λ u from below. miss n least count end best u long within.0 within.1 (h.first u from below)))
    ]

-- ---- the choice

abbrev lags_of : Choice → List ℕ
lags_of t = candidates (counting_of t).mode.two_line (counting_of t).most

abbrev Offered : Choice → ℕ → Type 0
Offered t current = (current ≡ 0) ⊎ ((least_lag (counting_of t).mode.two_line ≤ current) × (current ≤ (counting_of t).most))

pub offered_is : (c : Counting) (offset : ℕ) → is_offered c offset ≡ true → (offset ≡ 0) ⊎ ((least_lag c.mode.two_line ≤ offset) × (offset ≤ c.most))
offered_is c zero h = inl refl
offered_is c (suc n) h =
    let low : least_lag c.mode.two_line ≤ suc n = grind (arith, nat_tests) in
    let high : suc n ≤ c.most = grind (arith, nat_tests) in
    inr (low, high)

pub is_offered_by : (c : Counting) (offset : ℕ) → (offset ≡ 0) ⊎ ((least_lag c.mode.two_line ≤ offset) × (offset ≤ c.most)) → is_offered c offset ≡ true
is_offered_by c offset h =
    elim h [
      | inl e ↦ rw e refl
      | inr within ↦ rw (le_true (least_lag c.mode.two_line) offset within.0, le_true offset c.most within.1) (either (offset == 0))
    ]
  where
    either : (b : Bool) → b || true ≡ true
    either true = refl
    either false = refl

count_there : (t : Choice) (n : PixelCounts) (current : ℕ) → HasCounts t n → Offered t current → slice_index t.counts current ≡ n.at current
count_there t n current h offered =
    elim offered [
      | inl e ↦ rw e h.nominal
      | inr within ↦ h.lags current within.0 within.1
    ]

pub small : (t : Choice) (current : ℕ) → Offered t current → current ≤ 127
small t current offered =
    elim offered [
      | inl e ↦ omega arith
      | inr within ↦ omega (arith, within.1)
    ]

-- the test is that of the counts
pub worth_of : (t : Choice) (n : PixelCounts) (best worst current : ℕ) → HasCounts t n → Offered t current →
    best ≡ greatest_of (map n.at (lags_of t)) → worst ≡ least_of n.pixels (map n.at (lags_of t)) →
    is_worth (counts_in t) best worst current ≡ is_worth n (greatest_of (map n.at (lags_of t))) (least_of n.pixels (map n.at (lags_of t))) current
worth_of t n best worst current h offered e f =
    rw (h.pixels, count_there t n current h offered, e, f) refl

pub moved : (n : PixelCounts) (lags : List ℕ) (current unmoved best : ℕ) → is_worth n (greatest_of (map n.at lags)) (least_of n.pixels (map n.at lags)) current ≡ true →
    first_best n (0 ∷ lags) ≡ Some best →
    best ≡ offset_by n lags current unmoved
moved n lags current unmoved best e f = rw (e, f) refl

pub stays : (n : PixelCounts) (lags : List ℕ) (current unmoved : ℕ) → is_worth n (greatest_of (map n.at lags)) (least_of n.pixels (map n.at lags)) current ≡ false →
    unmoved ≡ offset_by n lags current unmoved
stays n lags current unmoved e = rw e refl
