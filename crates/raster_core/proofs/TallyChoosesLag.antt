-- The counts of a tally, modulo 2^64 and for rows whose counts stay below it, and the lag that it chooses.
use Rattle.std.proofs.Common.{◌≡◌, ℕ, zero, suc, ◌+◌, ◌-◌, ◌*◌, ◌%◌, ◌^◌, ◌<◌, ◌≤◌, Bool, true, false, List, [], ◌∷◌, ◌++◌, length, length-append, refl, sym, ◌∙◌, ap, subst, arith, get_or, replicate, inl, inr, Some, None}
use Rattle.std.proofs.Math.Nat.{add-mul, mul-le-mul_right}
use Rattle.std.specs.Prelude.{◌/◌, nat_lt, if◌then◌else◌}
use Rattle.std.specs.List.{AllByRecursion}
use Rattle.std.proofs.lemmas.Bool.{cases_lt}
use Rattle.std.proofs.lemmas.Nat.{mul-mod_first}
use Rattle.std.proofs.lemmas.List.{length-replicate}
use Rattle.std.proofs.lemmas.List.Folds.{sum_by-replicate}
use Rattle.std.proofs.lemmas.List.Sums.{count_by-le-length, sum_by-append, sum_by-cons}
use Rattle.qm_core.specs.Place.{same}
use Rattle.raster_core.specs.Raster.{pixel_at}
use Rattle.raster_core.specs.Lines.{Lines, adaptive, numbers_from}
use Rattle.raster_core.specs.Offset.{agreements, agreement, best_offset, candidates, chosen_offset}
use Rattle.raster_core.specs.Tally.{CountsLines, KeepsCounts, counted_at, is_two_line, most_of, least_lag, last_lag}
use Rattle.raster_core.specs.declared.tally.Tally.{Tally}
use Rattle.raster_core.proofs.BestIsFound.{zeros, best_is}
use Rattle.raster_core.proofs.RegistersTakeBytes.{length-numbers}
use Rattle.raster_core.proofs.CountsAdd.{count_same}
use Rattle.raster_core.proofs.WordsAgree.{is_lt, adaptive_left}

-- ---- no rows

none_at : (x t g : ℕ) → x ≡ 0 → t ≡ 0 → (x + t * g) % 2 ^ 64 ≡ 0
none_at x t g e f = let none : (x + 0 * g) % 2 ^ 64 ≡ 0 = omega arith in rw f none

pub none_counted : (t : Tally) (width current : ℕ) → t.rows ≡ 0 → t.agreeing ≡ 0 → t.times ≡ 0 → t.counts ≡ replicate 128 0 → KeepsCounts t.last → CountsLines t width current []
none_counted t width current no_rows none_agreeing no_times no_counts kept =
    let none : (lag : ℕ) → counted_at t lag ≡ 0 = λ lag. none_at (get_or t.counts lag 0) t.times (get_or t.last.agreed lag 0) (rw no_counts (zeros 128 lag)) no_times in
    record { number = no_rows; width_is = λ h. absurd (omega arith); wide = tt; none = λ _. none; each = λ lag _ _. none lag; agreeing = none_agreeing; kept = kept }

-- ---- a row more, several times

-- the last row n times more
pub more_times : (c t n g : ℕ) → (c + (t + n) % 2 ^ 64 * g) % 2 ^ 64 ≡ ((c + t * g) % 2 ^ 64 + n * g) % 2 ^ 64
more_times c t n g =
    let sum = add-mul t n g in
    folded ((t + n) % 2 ^ 64 * g) (t * g) (n * g) (rw (mul-mod_first (t + n) g (2 ^ 64), sum) refl)
  where
    folded : (x y z : ℕ) → x % 2 ^ 64 ≡ (y + z) % 2 ^ 64 → (c + x) % 2 ^ 64 ≡ ((c + y) % 2 ^ 64 + z) % 2 ^ 64
    folded x y z e = omega arith

-- a row of one word n times
pub word_times : (c t g n a : ℕ) → ((c + n * a) % 2 ^ 64 + t * g) % 2 ^ 64 ≡ ((c + t * g) % 2 ^ 64 + n * a) % 2 ^ 64
word_times c t g n a = omega arith

pub added_times : (a x : ℕ) → (a + x % 2 ^ 64) % 2 ^ 64 ≡ (a + x) % 2 ^ 64
added_times a x = omega arith

-- a row agrees at no more pixels than it has
rows_small : (rows : List Lines) (width lag : ℕ) → AllByRecursion (λ lines. length lines.row ≡ width) rows → agreement rows lag ≤ length rows * width
rows_small [] width lag wide = omega arith
rows_small (r ∷ rows) width lag wide =
    let most = count_by-le-length (λ x. same (pixel_at r.row x) (adaptive r lag x)) (numbers_from 0 (length r.row)) in
    let one : length (r ∷ rows) ≡ length rows + 1 = omega arith in
    let product : length (r ∷ rows) * width ≡ length rows * width + 1 * width = rw one (add-mul (length rows) 1 width) in
    omega (arith, sum_by-cons (agreements lag) r rows, product, most, length-numbers 0 (length r.row), wide.0, rows_small rows width lag wide.1)

pub length_again : (rows : List Lines) (n : ℕ) (lines : Lines) → length (rows ++ replicate n lines) ≡ length rows + n
length_again rows n lines = rw (length-append, length-replicate) refl

pub all_again : (P : Lines → Type 0) (rows : List Lines) (n : ℕ) (lines : Lines) → AllByRecursion P rows → P lines → AllByRecursion P (rows ++ replicate n lines)
all_again P [] zero lines h p = tt
all_again P [] (suc n) lines h p = (p, all_again P [] n lines h p)
all_again P (r ∷ rows) n lines h p = (h.0, all_again P rows n lines h.1 p)

pub rows_more : (rows : List Lines) (n : ℕ) (lines : Lines) (width lag : ℕ) → AllByRecursion (λ l. length l.row ≡ width) rows →
    length lines.row ≡ width → length rows + n < 2 ^ 32 → width < 2 ^ 32 → (agreement rows lag + n * agreements lag lines) % 2 ^ 64 ≡ agreement (rows ++ replicate n lines) lag
rows_more rows n lines width lag wide long few narrow =
    let most = rows_small (rows ++ replicate n lines) width lag (all_again (λ l. length l.row ≡ width) rows n lines wide long) in
    let up : length (rows ++ replicate n lines) * width ≤ (2 ^ 32 - 1) * width = mul-le-mul_right width (omega (arith, few, length_again rows n lines)) in
    let sum : agreement (rows ++ replicate n lines) lag ≡ agreement rows lag + n * agreements lag lines = rw (sum_by-append, sum_by-replicate) refl in
    omega (arith, sum, most, up, narrow)

-- ---- lags beyond the width, at which no pixel has one to its left

white_beyond : (lines : Lines) (lag x : ℕ) → 1 ≤ lag → x < lag → adaptive lines lag x ≡ false
white_beyond lines lag x some h = rw (adaptive_left, is_lt) refl

beyond_row : (lines : Lines) (width a b : ℕ) → length lines.row ≡ width → width ≤ a → width ≤ b → 1 ≤ a → 1 ≤ b → agreements a lines ≡ agreements b lines
beyond_row lines width a b long from-a from-b some-a some-b =
    count_same (λ x. same (pixel_at lines.row x) (adaptive lines a x)) (λ x. same (pixel_at lines.row x) (adaptive lines b x)) 0 0 (length lines.row)
    (λ i lt. ap (λ w. same (pixel_at lines.row (0 + i)) w) (white_beyond lines a (0 + i) some-a (omega arith) ∙ sym (white_beyond lines b (0 + i) some-b (omega arith))))

pub beyond : (rows : List Lines) (width a b : ℕ) → AllByRecursion (λ lines. length lines.row ≡ width) rows → width ≤ a → width ≤ b → 1 ≤ a → 1 ≤ b → agreement rows a ≡ agreement rows b
beyond [] width a b wide from-a from-b some-a some-b = refl
beyond (r ∷ rows) width a b wide from-a from-b some-a some-b =
    rw (sum_by-cons (agreements a) r rows, beyond_row r width a b wide.0 from-a from-b some-a some-b, beyond rows width a b wide.1 from-a from-b some-a some-b)
    (sym (sum_by-cons (agreements b) r rows))

-- ---- the lag that is chosen

-- what its counts say of the best lag, and whether it gains
pub record IsBest (t : Tally) (b : ℕ) : Type 0 where
  pub low : least_lag (is_two_line t) ≤ b
  pub high : b ≤ last_lag (is_two_line t) (most_of t) t.width
  pub greatest : (u : ℕ) → least_lag (is_two_line t) ≤ u → u ≤ last_lag (is_two_line t) (most_of t) t.width → counted_at t u ≤ counted_at t b
  pub first : (u : ℕ) → least_lag (is_two_line t) ≤ u → u < b → counted_at t u < counted_at t b

threshold : (t : Tally) (width current : ℕ) (rows : List Lines) → CountsLines t width current rows → width * length rows / 8 ≡ t.width * t.rows / 8
threshold t width current [] k =
    let none = k.number in
    let nothing : width * 0 ≡ t.width * 0 = omega arith in
    rw (nothing, ← none) refl
threshold t width current (r ∷ rows) k =
    let some : 0 < length (r ∷ rows) = omega arith in
    let w = k.width_is some in
    rw (← w, ← k.number) refl

some_lag : (two_line : Bool) → 1 ≤ least_lag two_line
some_lag true = omega arith
some_lag false = omega arith

-- beyond the last lag each agrees as that one
beyond_last : (two_line : Bool) (most width u : ℕ) (rows : List Lines) → AllByRecursion (λ lines. length lines.row ≡ width) rows → u ≤ most → last_lag two_line most width < u →
    agreement rows u ≡ agreement rows (last_lag two_line most width)
beyond_last two_line most width u rows wide to above =
    let some = some_lag two_line in
    beyond rows width u (last_lag two_line most width) wide (omega arith) (omega arith) (omega arith) (omega arith)

-- what was counted at the last lags
counted_best : (t : Tally) (width current : ℕ) (rows : List Lines) (b : ℕ) → CountsLines t width current rows → least_lag (is_two_line t) ≤ b → b ≤ last_lag (is_two_line t) (most_of t) t.width →
    counted_at t b ≡ agreement rows b
counted_best t width current [] b k low high = k.none refl b
counted_best t width current (r ∷ rows) b k low high =
    let some : 0 < length (r ∷ rows) = omega arith in
    let w = k.width_is some in
    k.each b low (rw w at high)

pub best_by : (t : Tally) (width current : ℕ) (rows : List Lines) (b : ℕ) → CountsLines t width current rows → IsBest t b →
    best_offset rows (candidates (is_two_line t) (most_of t)) ≡ Some b
best_by t width current [] b k h =
    let zero_b = k.none refl b in
    best_is (is_two_line t) (most_of t) [] b h.low (omega arith)
    (λ u from to. omega arith)
    (λ u from below. absurd (let l = h.first u from below in omega arith))
best_by t width current (r ∷ rows) b k h =
    let some : 0 < length (r ∷ rows) = omega arith in
    let w = k.width_is some in
    let high : b ≤ last_lag (is_two_line t) (most_of t) width = rw w at h.high in
    let at_b = k.each b h.low high in
    let within : (u : ℕ) → least_lag (is_two_line t) ≤ u → u ≤ last_lag (is_two_line t) (most_of t) width → agreement (r ∷ rows) u ≤ agreement (r ∷ rows) b =
    (λ u from to. subst2 ◌≤◌ (k.each u from to) at_b (h.greatest u from (rw w to))) in
    best_is (is_two_line t) (most_of t) (r ∷ rows) b h.low (omega arith)
    (λ u from to. elim (cases_lt (last_lag (is_two_line t) (most_of t) width) u) [
      | inl above ↦
          let e = beyond_last (is_two_line t) (most_of t) width u (r ∷ rows) k.wide to above in
          let l = within (last_lag (is_two_line t) (most_of t) width) (omega arith) (omega arith) in
          rw e l
      | inr inside ↦ within u from inside
    ])
    (λ u from below. subst2 ◌<◌ (k.each u from (omega arith)) at_b (h.first u from below))
  where
    subst2 : (R : ℕ → ℕ → Type 0) {a b x y : ℕ} → a ≡ x → b ≡ y → R a b → R x y
    subst2 R {a} {b} {x} {y} e f r = rw (← f) (subst (λ (z : ℕ). R z b) e r)

-- the best lag is chosen if it gains enough
pub chosen_by : (t : Tally) (width current : ℕ) (rows : List Lines) (b : ℕ) → CountsLines t width current rows → least_lag (is_two_line t) ≤ b → b ≤ last_lag (is_two_line t) (most_of t) t.width →
    best_offset rows (candidates (is_two_line t) (most_of t)) ≡ Some b →
    chosen_offset (is_two_line t) (most_of t) width rows current
    ≡ (if nat_lt (t.width * t.rows / 8) (counted_at t b - t.agreeing) then Some b else None)
chosen_by t width current rows b k low high best =
    rw (best, threshold t width current rows k, ← counted_best t width current rows b k low high, ← k.agreeing) refl
