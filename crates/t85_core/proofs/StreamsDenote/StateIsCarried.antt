-- The state that a coder carries from row to row is the one that the definitions determine.
use Rattle.std.proofs.Common.{◌≡◌, ℕ, zero, suc, ◌+◌, ◌-◌, ◌*◌, ◌/◌, ◌<◌, ◌≤◌, Bool, true, false, List, [], ◌∷◌, ◌++◌, length, refl, ◌∙◌, ap, arith, Option, None, Some, append-nil}
use Rattle.std.specs.Prelude.{slice_index_or, unwrap_or, if◌then◌else◌, nat_lt, flat_map, filter_map}
use Rattle.std.specs.List.{cons_option, AllByRecursion}
use Rattle.std.proofs.lemmas.List.{length-replicate}
use Rattle.std.proofs.lemmas.Grind.{flat_map-append}
use Rattle.std.proofs.lemmas.List.Elements.{filter_map-append}
use Rattle.std.proofs.Math.Nat.{div-mul-le_self, mul-le-mul_right, div-eq_of_lt-le}
use Rattle.std.proofs.lemmas.Bool.Decides.{nat_tests}
use Rattle.qm_core.specs.Place.{Event, State, after, step}
use Rattle.raster_core.specs.Raster.{Raster, row_above, white_row}
use Rattle.raster_core.specs.Lines.{numbers_from}
use Rattle.t85_core.specs.Coding.{Coding, is_fresh, fresh_stripe, top_of, last_or, events_of_row}

-- ---- events, one row after another

pub after_append : (s : State) (xs ys : List Event) → after s (xs ++ ys) ≡ after (after s xs) ys
after_append s [] ys = refl
after_append s (x ∷ xs) ys = after_append (step s x.context x.pixel) xs ys

pub numbers_from_parts : (a k r : ℕ) → numbers_from a (k + r) ≡ numbers_from a k ++ numbers_from (a + k) r
numbers_from_parts a zero r =
    let n : zero + r ≡ r = omega arith in
    let z : a ≡ a + 0 = omega arith in
    λ i. numbers_from (z i) (n i)
numbers_from_parts a (suc k) r =
    let n : suc k + r ≡ suc (k + r) = omega arith in
    let z : (a + 1) + k ≡ a + suc k = omega arith in
    ap (numbers_from a) n ∙ ap (λ u. a ∷ u) (numbers_from_parts (a + 1) k r) ∙ ap (λ u. a ∷ (numbers_from (a + 1) k ++ numbers_from u r)) z

pub numbers_from_last : (k n : ℕ) → numbers_from k (suc n) ≡ numbers_from k n ++ (k + n) ∷ []
numbers_from_last k n = let e : suc n ≡ n + suc zero = omega arith in ap (numbers_from k) e ∙ numbers_from_parts k n 1

-- a row more of a stripe
pub one_row_more : (c : Coding) (s : State) (first k : ℕ) →
    after s (flat_map (events_of_row c) (numbers_from first (suc k)))
    ≡ after (after s (flat_map (events_of_row c) (numbers_from first k))) (events_of_row c (first + k))
one_row_more c s first k =
    ap (λ ys. after s (flat_map (events_of_row c) ys)) (numbers_from_last first k)
    ∙ ap (after s) (flat_map-append (events_of_row c) (numbers_from first k) ((first + k) ∷ []))
    ∙ after_append s (flat_map (events_of_row c) (numbers_from first k)) (events_of_row c (first + k) ++ [])
    ∙ ap (after (after s (flat_map (events_of_row c) (numbers_from first k)))) (append-nil (events_of_row c (first + k)))

-- ---- the offset, one row after another

last_or_step : (d : ℕ) (xs : List ℕ) (o : Option ℕ) → last_or d (xs ++ cons_option o []) ≡ unwrap_or o (last_or d xs)
last_or_step d [] None = refl
last_or_step d [] (Some x) = refl
last_or_step d (x ∷ xs) o = last_or_step x xs o

pub one_more_move : (m : ℕ → Option ℕ) (t k : ℕ) →
    last_or 0 (filter_map m (numbers_from t (suc k))) ≡ unwrap_or (m (t + k)) (last_or 0 (filter_map m (numbers_from t k)))
one_more_move m t k =
    ap (λ ys. last_or 0 (filter_map m ys)) (numbers_from_last t k)
    ∙ ap (last_or 0) (filter_map-append m (numbers_from t k) ((t + k) ∷ []))
    ∙ last_or_step 0 (filter_map m (numbers_from t k)) (m (t + k))

-- ---- the top

pub fresh_le : (c : Coding) (i : ℕ) → fresh_stripe c i ≤ i
fresh_le c zero = omega arith
fresh_le c (suc i) =
    let below : fresh_stripe c i ≤ i = fresh_le c i in
    elim (is_fresh c (suc i)) as (λ b. (if b then suc i else fresh_stripe c i) ≤ suc i) [ true ↦ omega arith | false ↦ (omega arith) ]

pub top_le : (c : Coding) (y : ℕ) → top_of c y ≤ y
top_le c y = omega (arith, mul-le-mul_right c.stripe_rows (fresh_le c (y / c.stripe_rows)), div-mul-le_self y c.stripe_rows)

-- the stripe of a row, by its first row
pub stripe_at : (l i k : ℕ) → k < l → (i * l + k) / l ≡ i
stripe_at l i k h =
    let from : i * l ≤ i * l + k = omega arith in
    let to : i * l + k < (i + 1) * l = omega arith in
    div-eq_of_lt-le l from to

-- the rows of a stripe see one top
pub top_in : (c : Coding) (i k : ℕ) → k < c.stripe_rows → top_of c (i * c.stripe_rows + k) ≡ fresh_stripe c i * c.stripe_rows
top_in c i k h = ap (λ j. fresh_stripe c j * c.stripe_rows) (stripe_at c.stripe_rows i k h)

-- a row down, the rows above move up
pub row_above_step : (raster : Raster) (top y k : ℕ) → row_above raster top (y + 1) (k + 1) ≡ row_above raster top y k
row_above_step raster top y k =
    let test : nat_lt (y + 1) (top + (k + 1)) ≡ nat_lt y (top + k) = grind (arith, nat_tests) in
    let at : (y + 1) - (k + 1) ≡ y - k = omega arith in
    ap (λ b. if b then white_row raster.width else slice_index_or raster.rows ((y + 1) - (k + 1)) (white_row raster.width)) test
    ∙ ap (λ z. if nat_lt y (top + k) then white_row raster.width else slice_index_or raster.rows z (white_row raster.width)) at

-- above the top all is white
pub row_above_top : (raster : Raster) (y k : ℕ) → 0 < k → row_above raster y y k ≡ white_row raster.width
row_above_top raster y k h =
    let test : nat_lt y (y + k) ≡ true = grind (arith, nat_tests) in
    ap (λ b. if b then white_row raster.width else slice_index_or raster.rows (y - k) (white_row raster.width)) test

-- the row itself
pub row_here : (raster : Raster) (top n : ℕ) → top ≤ n → row_above raster top n 0 ≡ slice_index_or raster.rows n (white_row raster.width)
row_here raster top n h =
    let test : nat_lt n (top + 0) ≡ false = grind (arith, nat_tests) in
    let at : n - 0 ≡ n = omega arith in
    ap (λ b. if b then white_row raster.width else slice_index_or raster.rows (n - 0) (white_row raster.width)) test
    ∙ ap (λ z. slice_index_or raster.rows z (white_row raster.width)) at

-- every row above is as wide as the raster
any_row : (w : ℕ) (rows : List (List Bool)) → AllByRecursion (λ row. length row ≡ w) rows → (i : ℕ) → length (slice_index_or rows i (white_row w)) ≡ w
any_row w [] all i = length-replicate w false
any_row w (row ∷ rows) all zero = all.0
any_row w (row ∷ rows) all (suc i) = any_row w rows all.1 i

pub above_long : (raster : Raster) → AllByRecursion (λ row. length row ≡ raster.width) raster.rows → (top y k : ℕ) → length (row_above raster top y k) ≡ raster.width
above_long raster wide top y k = went (nat_lt y (top + k)) where
  went : (test : Bool) → length (if test then white_row raster.width else slice_index_or raster.rows (y - k) (white_row raster.width)) ≡ raster.width
  went true = length-replicate raster.width false
  went false = any_row raster.width raster.rows wide (y - k)
