-- Lanes of 16 bits, and the tables that fill them.
use Rattle.std.proofs.Common.{◌≡◌, ℕ, zero, suc, ◌+◌, ◌*◌, ◌/◌, ◌%◌, ◌^◌, ◌<◌, ◌≤◌, Bool, true, ◌&&◌, List, [], ◌∷◌, length, get_or, eqb, leb, arith, refl, add-zero, zero-add, Ok, Err}
use Rattle.std.specs.Prelude.{Result, IfOk, OnOk, OnErr, IfErr}
use Rattle.std.proofs.lemmas.Bool.{eqb-true, leb-true, and_parts}
use Rattle.std.proofs.Math.Nat.{div-div-eq-div-mul}
use Rattle.std.proofs.lemmas.Nat.{pow-add}
use Rattle.raster_core.specs.declared.lanes.TheConstants.{SECOND_LANES, ABOVE_LANES, MOVED_ABOVE_LANES, FAR_LANES, ROW_LANES}
use Rattle.raster_core.specs.Machine.Lanes.{lane, second_lane, above_lane, moved_above_lane, far_lane, row_lane, around, moved_around, own}

-- ---- what holds of a result

pub if_ok : {T E : Type 0} (r : Result T E) (P Q : T → Type 0) → ((x : T) → P x → Q x) → IfOk r P → IfOk r Q
if_ok (Ok x) P Q f h = f x h
if_ok (Err e) P Q f h = h

pub if_err : {T E : Type 0} (r : Result T E) (P Q : E → Type 0) → ((e : E) → P e → Q e) → IfErr r P → IfErr r Q
if_err (Ok x) P Q f h = h
if_err (Err e) P Q f h = f e h

pub on_err : {T E : Type 0} (r : Result T E) {P Q : Type 0} → (P → Q) → OnErr r P → OnErr r Q
on_err (Ok x) f h = h
on_err (Err e) f h = f h

pub on_ok : {T E : Type 0} (r : Result T E) {P Q : Type 0} → (P → Q) → OnOk r P → OnOk r Q
on_ok (Ok x) f h = f h
on_ok (Err e) f h = h

-- ---- lanes of a sum

next_lane : (c j : ℕ) → lane c (suc j) ≡ lane (c / 2 ^ 16) j
next_lane c j =
    let e : 16 * suc j ≡ 16 + 16 * j = omega arith in
    let p : 2 ^ (16 * suc j) ≡ 2 ^ 16 * 2 ^ (16 * j) = rw e (pow-add 2 16 (16 * j)) in
    rw (p, ← div-div-eq-div-mul) refl

pub later_lane : (lanes i j : ℕ) → lane (lanes / 2 ^ (16 * i)) j ≡ lane lanes (i + j)
later_lane lanes i j =
    let e : 16 * (i + j) ≡ 16 * i + 16 * j = omega arith in
    let p : 2 ^ (16 * (i + j)) ≡ 2 ^ (16 * i) * 2 ^ (16 * j) = rw e (pow-add 2 (16 * i) (16 * j)) in
    rw (div-div-eq-div-mul, ← p) refl

pub sum_lane : (a b j : ℕ) → ((i : ℕ) → i ≤ j → lane a i + lane b i < 2 ^ 16) → lane (a + b) j ≡ lane a j + lane b j
sum_lane a b zero small = let s = small 0 (omega arith) in omega arith
sum_lane a b (suc j) small =
    let s = small 0 (omega arith) in
    let e : (a + b) / 2 ^ 16 ≡ a / 2 ^ 16 + b / 2 ^ 16 = omega arith in
    let rest = sum_lane (a / 2 ^ 16) (b / 2 ^ 16) j (λ i l. let t = small (suc i) (omega arith) in omega (arith, next_lane a i, next_lane b i)) in
    rw (next_lane, e, rest, ← next_lane, ← next_lane) refl

pub sum_is : (a b : ℕ) (f g : ℕ → ℕ) (j : ℕ) → j < 4 → ((i : ℕ) → i < 4 → lane a i ≡ f i) → ((i : ℕ) → i < 4 → lane b i ≡ g i) → ((i : ℕ) → i < 4 → f i + g i < 2 ^ 16) → lane (a + b) j ≡ f j + g j
sum_is a b f g j few fa gb small =
    rw (sum_lane a b j (λ i l. let k : i < 4 = omega arith in rw (fa i k, gb i k) (small i k)), fa j few, gb j few) refl

-- ---- the tables

at_each : (P : ℕ → Type 0) → P 0 → P 1 → P 2 → P 3 → (j : ℕ) → j < 4 → P j
at_each P p₀ p₁ p₂ p₃ zero h = p₀
at_each P p₀ p₁ p₂ p₃ (suc zero) h = p₁
at_each P p₀ p₁ p₂ p₃ (suc (suc zero)) h = p₂
at_each P p₀ p₁ p₂ p₃ (suc (suc (suc zero))) h = p₃
at_each P p₀ p₁ p₂ p₃ (suc (suc (suc (suc j)))) h = absurd (omega arith)

-- an entry has these four lanes, and is small
pub fits : (ℕ → ℕ → ℕ) → ℕ → ℕ → Bool
fits f w e =
    eqb (lane e 0) (f w 0) && eqb (lane e 1) (f w 1) && eqb (lane e 2) (f w 2) && eqb (lane e 3) (f w 3)
    && leb e (2 ^ 58)

pub all_from : (ℕ → ℕ → ℕ) → ℕ → List ℕ → Bool
unfolding fits
all_from f k [] = true
all_from f k (e ∷ es) = fits f k e && all_from f (k + 1) es

fits_at : (f : ℕ → ℕ → ℕ) (k : ℕ) (es : List ℕ) → all_from f k es ≡ true → (i : ℕ) → i < length es → fits f (k + i) (get_or es i 0) ≡ true
unfolding all_from
fits_at f k [] h i l = absurd (omega arith)
fits_at f k (e ∷ es) h zero l = rw add-zero (and_parts _ _ h).0
fits_at f k (e ∷ es) h (suc i) l =
    let e1 : k + suc i ≡ (k + 1) + i = omega arith in
    rw e1 (fits_at f (k + 1) es (and_parts _ _ h).1 i (omega arith))

-- what an entry says
pub record Says (f : ℕ → ℕ → ℕ) (w e : ℕ) : Type 0 where
  pub lanes : (j : ℕ) → j < 4 → lane e j ≡ f w j
  pub small : e ≤ 2 ^ 58

says : (f : ℕ → ℕ → ℕ) (w e : ℕ) → fits f w e ≡ true → Says f w e
unfolding fits
says f w e h =
    let a = and_parts _ _ h in
    let b = and_parts _ _ a.0 in
    let c = and_parts _ _ b.0 in
    let d = and_parts _ _ c.0 in
    record { lanes = at_each (λ j. lane e j ≡ f w j) (eqb-true _ _ d.0) (eqb-true _ _ d.1) (eqb-true _ _ c.1) (eqb-true _ _ b.1); small = leb-true _ _ a.1 }

table_says : (f : ℕ → ℕ → ℕ) (table : List ℕ) → all_from f 0 table ≡ true → (w : ℕ) → w < length table → Says f w (get_or table w 0)
table_says f table fit w h = says f w _ (rw zero-add at (fits_at f 0 table fit w h))

pub second_says : (w : ℕ) → w < 64 → Says second_lane w (get_or SECOND_LANES w 0)
unfolding all_from fits
second_says = table_says second_lane SECOND_LANES refl

pub above_says : (w : ℕ) → w < 256 → Says above_lane w (get_or ABOVE_LANES w 0)
unfolding all_from fits
above_says = table_says above_lane ABOVE_LANES refl

pub moved_above_says : (w : ℕ) → w < 128 → Says moved_above_lane w (get_or MOVED_ABOVE_LANES w 0)
unfolding all_from fits
moved_above_says = table_says moved_above_lane MOVED_ABOVE_LANES refl

pub far_says : (w : ℕ) → w < 16 → Says far_lane w (get_or FAR_LANES w 0)
unfolding all_from fits
far_says = table_says far_lane FAR_LANES refl

pub row_says : (w : ℕ) → w < 64 → Says row_lane w (get_or ROW_LANES w 0)
unfolding all_from fits
row_says = table_says row_lane ROW_LANES refl

-- ---- the windows of a byte's first four pixels and of its last

pub first_second : (s j : ℕ) → j < 4 → s / 2 ^ 11 % 64 * 2 ^ j / 8 % 8 ≡ s / 2 ^ 7 * 2 ^ j / 2 ^ 7 % 8
first_second s = at_each _ (omega arith) (omega arith) (omega arith) (omega arith)

pub first_above : (a j : ℕ) → j < 4 → a / 2 ^ 10 % 256 * 2 ^ j / 8 % 32 ≡ a / 2 ^ 6 * 2 ^ j / 2 ^ 7 % 32
first_above a = at_each _ (omega arith) (omega arith) (omega arith) (omega arith)

pub first_row : (r j : ℕ) → j < 4 → r / 2 ^ 4 % 64 * 2 ^ j / 8 % 8 ≡ own r j
first_row r = at_each _ (omega arith) (omega arith) (omega arith) (omega arith)

pub last_second : (s j : ℕ) → j < 4 → s / 2 ^ 7 % 64 * 2 ^ j / 8 % 8 ≡ s / 2 ^ 7 * 2 ^ (4 + j) / 2 ^ 7 % 8
last_second s = at_each _ (omega arith) (omega arith) (omega arith) (omega arith)

pub last_above : (a j : ℕ) → j < 4 → a / 2 ^ 6 % 256 * 2 ^ j / 8 % 32 ≡ a / 2 ^ 6 * 2 ^ (4 + j) / 2 ^ 7 % 32
last_above a = at_each _ (omega arith) (omega arith) (omega arith) (omega arith)

pub last_row : (r j : ℕ) → j < 4 → r % 64 * 2 ^ j / 8 % 8 ≡ own r (4 + j)
last_row r = at_each _ (omega arith) (omega arith) (omega arith) (omega arith)

pub first_moved : (a j : ℕ) → j < 4 → a / 2 ^ 11 % 128 * 2 ^ j / 8 % 16 ≡ a / 2 ^ 6 * 2 ^ j / 2 ^ 8 % 16
first_moved a = at_each _ (omega arith) (omega arith) (omega arith) (omega arith)

pub last_moved : (a j : ℕ) → j < 4 → a / 2 ^ 7 % 128 * 2 ^ j / 8 % 16 ≡ a / 2 ^ 6 * 2 ^ (4 + j) / 2 ^ 8 % 16
last_moved a = at_each _ (omega arith) (omega arith) (omega arith) (omega arith)

pub first_far : (a j : ℕ) → j < 4 → a / 2 ^ 4 % 16 * 2 ^ j / 8 % 2 ≡ a * 2 ^ j / 2 ^ 7 % 2
first_far a = at_each _ (omega arith) (omega arith) (omega arith) (omega arith)

pub last_far : (a j : ℕ) → j < 4 → a % 16 * 2 ^ j / 8 % 2 ≡ a * 2 ^ (4 + j) / 2 ^ 7 % 2
last_far a = at_each _ (omega arith) (omega arith) (omega arith) (omega arith)

pub first_moved_are : (s a f r j : ℕ) → j < 4 →
    2 * (second_lane (s / 2 ^ 11 % 64) j + moved_above_lane (a / 2 ^ 11 % 128) j + far_lane (f / 2 ^ 4 % 16) j) + row_lane (r / 2 ^ 4 % 64) j ≡ 2 * moved_around s a f (0 + j) + own r (0 + j)
first_moved_are s a f r j h =
    let z : 0 + j ≡ j = omega arith in
    rw (z, first_second, first_moved, first_far, first_row) refl

pub last_moved_are : (s a f r j : ℕ) → j < 4 →
    2 * (second_lane (s / 2 ^ 7 % 64) j + moved_above_lane (a / 2 ^ 7 % 128) j + far_lane (f % 16) j) + row_lane (r % 64) j ≡ 2 * moved_around s a f (4 + j) + own r (4 + j)
last_moved_are s a f r j h =
    rw (last_second, last_moved, last_far, last_row) refl

pub first_around_is : (s a j : ℕ) → j < 4 → second_lane (s / 2 ^ 11 % 64) j + above_lane (a / 2 ^ 10 % 256) j ≡ around s a (0 + j)
first_around_is s a j h = let z : 0 + j ≡ j = omega arith in rw (z, first_second s j h, first_above a j h) refl

pub first_pixels_are : (s a r j : ℕ) → j < 4 → 2 * (second_lane (s / 2 ^ 11 % 64) j + above_lane (a / 2 ^ 10 % 256) j) + row_lane (r / 2 ^ 4 % 64) j ≡ 2 * around s a (0 + j) + own r (0 + j)
first_pixels_are s a r j h = let z : 0 + j ≡ j = omega arith in rw (z, first_second, first_above, first_row) refl

pub last_around_is : (s a j : ℕ) → j < 4 → second_lane (s / 2 ^ 7 % 64) j + above_lane (a / 2 ^ 6 % 256) j ≡ around s a (4 + j)
last_around_is s a j h = rw (last_second, last_above) refl

pub last_pixels_are : (s a r j : ℕ) → j < 4 → 2 * (second_lane (s / 2 ^ 7 % 64) j + above_lane (a / 2 ^ 6 % 256) j) + row_lane (r % 64) j ≡ 2 * around s a (4 + j) + own r (4 + j)
last_pixels_are s a r j h = rw (last_second, last_above, last_row) refl
