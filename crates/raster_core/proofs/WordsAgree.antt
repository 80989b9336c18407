-- The bits in which the words of a row agree, and the pixels that agree.
use Rattle.std.proofs.Common.{◌≡◌, ℕ, zero, suc, ◌+◌, ◌-◌, ◌*◌, ◌<◌, ◌≤◌, Bool, true, false, ◌&&◌, List, [], ◌∷◌, ◌++◌, length, refl, sym, ◌∙◌, ap, arith, cond, inl, inr, add-zero, zero-add}
use Rattle.std.specs.Prelude.{nat_lt, ◌==◌, if◌then◌else◌, count_by}
use Rattle.std.proofs.lemmas.Bool.Decides.{nat_tests}
use Rattle.std.proofs.lemmas.List.Sums.{sum_by-cons}
use Rattle.qm_core.specs.Place.{same}
use Rattle.raster_core.specs.Raster.{pixel_at, pixel_left}
use Rattle.raster_core.specs.Lines.{Lines, adaptive, numbers_from}
use Rattle.raster_core.specs.Offset.{agreements}
use Rattle.raster_core.specs.Machine.Words.{led, is_within, agreed_from, part_agreement, pixels_from}
use Rattle.raster_core.proofs.CountsAdd.{count_same, count_cat, shifted}
use Rattle.std.proofs.lemmas.Bool.{cases_lt}

pub is_lt : (x y : ℕ) → x < y → nat_lt x y ≡ true
is_lt x y h = grind (arith, nat_tests)

pub is_not_lt : (x y : ℕ) → y ≤ x → nat_lt x y ≡ false
is_not_lt x y h = grind (arith, nat_tests)

pub led_at : {y : ℕ} (row : List Bool) (x : ℕ) → y ≡ x + 128 → led row y ≡ pixel_at row x
led_at {y} row x e =
    let at : y - 128 ≡ x = omega arith in
    ap (λ b. if b then false else pixel_at row (y - 128)) (is_not_lt y 128 (omega arith)) ∙ ap (pixel_at row) at

pub led_left : (row : List Bool) (y x lag : ℕ) → y + lag ≡ x + 128 → led row y ≡ pixel_left row x lag
led_left row y x lag e =
    elim (cases_lt x lag) [
      | inl lt ↦
          ap (λ b. if b then false else pixel_at row (y - 128)) (is_lt y 128 (omega arith))
          ∙ sym (rw (is_lt x lag lt) refl)
      | inr le ↦
          let at : y - 128 ≡ x - lag = omega arith in
          ap (λ b. if b then false else pixel_at row (y - 128)) (is_not_lt y 128 (omega arith))
          ∙ ap (pixel_at row) at
          ∙ sym (rw (is_not_lt x lag le) refl)
    ]

pub adaptive_left : (lines : Lines) (lag x : ℕ) → 1 ≤ lag → adaptive lines lag x ≡ pixel_left lines.row x lag
adaptive_left lines lag x h =
    let test : (lag == 0) ≡ false = grind (arith, nat_tests) in
    rw test refl

pub three : {a a' b b' c c' : Bool} → a ≡ a' → b ≡ b' → c ≡ c' → a && same b c ≡ (a' && same b' c')
three e f g = rw (e, f, g) refl

pub row_part : (lines : Lines) (width lag k n : ℕ) → 1 ≤ lag → lag ≤ 127 →
    agreed_from (pixels_from (led lines.row) (64 * k + 128)) (pixels_from (led lines.row) (64 * k + 128 - lag)) (pixels_from (is_within width) (64 * k)) n ≡ part_agreement lines width lag (64 * k) n
unfolding agreed_from part_agreement
row_part lines width lag k n low high =
    count_same
    (λ i. is_within width (64 * k + i) && same (led lines.row (64 * k + 128 + i)) (led lines.row ((64 * k + 128 - lag) + i)))
    (λ x. is_within width x && same (pixel_at lines.row x) (adaptive lines lag x))
    0 (64 * k) n
    (λ i lt. three
    (ap (λ j. is_within width (64 * k + j)) (zero-add i))
    (led_at lines.row (64 * k + i) (omega arith))
    (led_left lines.row ((64 * k + 128 - lag) + (0 + i)) (64 * k + i) lag (omega arith)
    ∙ sym (adaptive_left lines lag (64 * k + i) low)))

pub nominal_part : (lines : Lines) (width k n : ℕ) →
    agreed_from (pixels_from (led lines.row) (64 * k + 128)) (pixels_from (led lines.above) (64 * (k + 2) + 64 - 62)) (pixels_from (is_within width) (64 * k)) n ≡ part_agreement lines width 0
    (64 * k) n
unfolding agreed_from part_agreement
nominal_part lines width k n =
    count_same
    (λ i. is_within width (64 * k + i) && same (led lines.row (64 * k + 128 + i)) (led lines.above ((64 * (k + 2) + 64 - 62) + i)))
    (λ x. is_within width x && same (pixel_at lines.row x) (adaptive lines 0 x))
    0 (64 * k) n
    (λ i lt. three
    (ap (λ j. is_within width (64 * k + j)) (zero-add i))
    (led_at lines.row (64 * k + i) (omega arith))
    (led_at lines.above ((64 * k + i) + 2) (omega arith)))

pub first_place : (k : ℕ) → 64 * (k + 1) ≡ 64 * k + 64
first_place k = omega arith

pub second_place : (k : ℕ) → 64 * (k + 2) ≡ 64 * k + 128
second_place k = omega arith

pub third_place : (k : ℕ) → k + 2 ≡ k + 1 + 1
third_place k = omega arith

pub part_none : (lines : Lines) (width offset first : ℕ) → part_agreement lines width offset first 0 ≡ 0
unfolding part_agreement
part_none lines width offset first = refl

pub part_more : (lines : Lines) (width offset n k : ℕ) →
    part_agreement lines width offset 0 (n + k) ≡ part_agreement lines width offset 0 n + part_agreement lines width offset n k
unfolding part_agreement
part_more lines width offset n k =
    rw (count_cat (λ x. is_within width x && same (pixel_at lines.row x) (adaptive lines offset x)) 0 n k, zero-add) refl

pub count_none : (f : ℕ → Bool) (a n : ℕ) → ((i : ℕ) → i < n → f (a + i) ≡ false) → count_by f (numbers_from a n) ≡ 0
count_none f a zero h = refl
count_none f a (suc n) h =
    let first : f a ≡ false = rw (← add-zero a) (h 0 (omega arith)) in
    rw (sum_by-cons (λ x. cond (f x) 1 0) a (numbers_from (a + 1) n), first, count_none f (a + 1) n (λ i lt. ap f (shifted a i) ∙ h (i + 1) (omega arith))) refl

-- a word more of the row
pub part_next : {y z p : ℕ} (lines : Lines) (width offset b : ℕ) → y ≡ part_agreement lines width offset 0 (64 * b) → z ≡ y + p →
    p ≡ part_agreement lines width offset (64 * b) 64 → z ≡ part_agreement lines width offset 0 (64 * (b + 1))
part_next lines width offset b e f g =
    let n : 64 * b + 64 ≡ 64 * (b + 1) = omega arith in
    let h : part_agreement lines width offset 0 (64 * (b + 1)) ≡ part_agreement lines width offset 0 (64 * b) + part_agreement lines width offset (64 * b) 64 =
    rw (← n) (part_more lines width offset (64 * b) 64) in
    omega arith

-- the whole row
pub part_all : (lines : Lines) (width offset n : ℕ) → length lines.row ≡ width → width ≤ n →
    part_agreement lines width offset 0 n ≡ agreements offset lines
unfolding part_agreement
part_all lines width offset n e h =
    let front = count_same f g 0 0 width (λ i lt. rw (is_lt (0 + i) width (omega arith)) refl) in
    let back = count_none f (0 + width) (n - width) (λ i lt. rw (is_not_lt (0 + width + i) width (omega arith)) refl) in
    rw (whole n h, count_cat f 0 width (n - width), front, back, add-zero (count_by g (numbers_from 0 width)), ← e) refl
  where
    g : ℕ → Bool
    g = λ x. same (pixel_at lines.row x) (adaptive lines offset x)

    f : ℕ → Bool
    f = λ x. is_within width x && same (pixel_at lines.row x) (adaptive lines offset x)

    whole : (n : ℕ) → width ≤ n → n ≡ width + (n - width)
    whole n h = omega arith

-- a row more of a stripe
pub length_push : (rows : List Lines) (lines : Lines) → length (rows ++ lines ∷ []) ≡ length rows + 1
length_push [] lines = refl
length_push (r ∷ rows) lines = let e = length_push rows lines in omega arith
