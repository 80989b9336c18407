-- The first number of a range with the greatest value.
use Rattle.std.proofs.Common.{◌≡◌, ℕ, zero, suc, ◌+◌, ◌<◌, ◌≤◌, Bool, true, false, List, refl, ◌∙◌, ap, arith, None, Some, replicate, get_or, inl, inr, ◌⊎◌}
use Rattle.std.specs.Prelude.{find, nat_le, ◌-◌, if◌then◌else◌}
use Rattle.std.specs.List.{list_all}
use Rattle.std.specs.Bool.{then_some}
use Rattle.std.proofs.lemmas.Bool.Decides.{nat_tests}
use Rattle.raster_core.specs.Lines.{Lines, numbers_from}
use Rattle.raster_core.specs.Offset.{agreement, best_offset, candidates}
use Rattle.raster_core.specs.Tally.{least_lag}
use Rattle.std.proofs.Math.Bool.{and-false}

pub zeros : (n k : ℕ) → ◌≡◌ {A = ℕ} (get_or (replicate n 0) k 0) 0
zeros zero k = refl
zeros (suc n) zero = refl
zeros (suc n) (suc k) = zeros n k

pub le_cases : (a b : ℕ) → a ≤ b → (a ≡ b) ⊎ (a < b)
le_cases a b h = grind arith

pub find_first : (p : ℕ → Bool) (k n b : ℕ) → k ≤ b → b < k + n → p b ≡ true → ((u : ℕ) → k ≤ u → u < b → p u ≡ false) →
    find p (numbers_from k n) ≡ Some b
find_first p k zero b low high hit miss = absurd (omega arith)
find_first p k (suc n) b low high hit miss =
    elim (le_cases k b low) [
      | inl e ↦
          let here : p k ≡ true = ap p e ∙ hit in
          rw (here, e) refl
      | inr lt ↦
          let here = miss k (omega arith) lt in
          let rest = find_first p (k + 1) n b (omega arith) (omega arith) hit (λ u from below. miss u (omega arith) below) in
          rw here rest
    ]

pub all_true : (q : ℕ → Bool) (k n : ℕ) → ((u : ℕ) → k ≤ u → u < k + n → q u ≡ true) → list_all q (numbers_from k n) ≡ true
all_true q k zero h = refl
all_true q k (suc n) h =
    rw (h k (omega arith) (omega arith)) (all_true q (k + 1) n (λ u from below. h u (omega arith) (omega arith)))

pub one_false : (q : ℕ → Bool) (k n u : ℕ) → k ≤ u → u < k + n → q u ≡ false → list_all q (numbers_from k n) ≡ false
one_false q k zero u low high miss = absurd (omega arith)
one_false q k (suc n) u low high miss =
    elim (le_cases k u low) [
      | inl e ↦ rw (e, miss) refl
      | inr lt ↦
          rw (one_false q (k + 1) n u (omega arith) (omega arith) miss) (and-false (q k))
    ]

-- the first that none beats
pub best_found : (f : ℕ → ℕ) (k n b : ℕ) → k ≤ b → b < k + n →
    ((u : ℕ) → k ≤ u → u < k + n → f u ≤ f b) → ((u : ℕ) → k ≤ u → u < b → f u < f b) →
    find (λ t. list_all (λ u. nat_le (f u) (f t)) (numbers_from k n)) (numbers_from k n) ≡ Some b
best_found f k n b low high most first =
    find_first (λ t. list_all (λ u. nat_le (f u) (f t)) (numbers_from k n)) k n b low high
    (all_true (λ u. nat_le (f u) (f b)) k n (λ u from below. let h = most u from below in grind (arith, nat_tests)))
    (λ t from below.
    one_false (λ u. nat_le (f u) (f t)) k n b low high
    (let h = first t from below in grind (arith, nat_tests)))

-- the best offset of a list of candidates
pub best_is : (two_line : Bool) (most : ℕ) (stripe : List Lines) (b : ℕ) →
    least_lag two_line ≤ b → b ≤ most →
    ((u : ℕ) → least_lag two_line ≤ u → u ≤ most → agreement stripe u ≤ agreement stripe b) →
    ((u : ℕ) → least_lag two_line ≤ u → u < b → agreement stripe u < agreement stripe b) →
    best_offset stripe (candidates two_line most) ≡ Some b
best_is two_line most stripe b low high greatest first =
    best_found (agreement stripe) (least_lag two_line) (most + 1 - least_lag two_line) b low (omega arith)
    (λ u from below. greatest u from (omega arith)) first

pub some_if : (b : Bool) (x : ℕ) → then_some b x ≡ (if b then Some x else None)
some_if true x = refl
some_if false x = refl
