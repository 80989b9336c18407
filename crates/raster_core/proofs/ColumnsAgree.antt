-- Words of a row in some columns, and the pixels that agree there.
use Rattle.std.proofs.Common.{◌≡◌, ℕ, ◌+◌, ◌-◌, ◌*◌, ◌^◌, ◌<◌, ◌≤◌, Bool, true, false, ◌&&◌, not, List, length, refl, sym, ◌∙◌, ap, arith, get_or, add-zero, zero-add}
use Rattle.std.specs.Prelude.{bit_and, bit_xor, nat_lt, count_by}
use Rattle.std.proofs.lemmas.Bool.Decides.{nat_tests}
use Rattle.std.proofs.lemmas.List.{ext_get_or, length-map}
use Rattle.qm_core.specs.Place.{same}
use Rattle.raster_core.specs.Raster.{pixel_at}
use Rattle.raster_core.specs.Counting.{fit_row}
use Rattle.raster_core.specs.Lines.{Lines, adaptive, numbers_from, same_row}
use Rattle.raster_core.specs.Machine.Words.{word, led, is_within, is_between, agreed_from, part_among, pixels_from}
use Rattle.raster_core.proofs.CountsAdd.{count_same, count_cat, same_self}
use Rattle.raster_core.proofs.WordsHaveOneColour.{dark}
use Rattle.raster_core.proofs.RegistersTakeBytes.{get_or-numbers, length-numbers}
use Rattle.raster_core.proofs.BytesMakeWords.{white}
use Rattle.raster_core.proofs.WordsAgree.{is_lt, is_not_lt, led_at, led_left, adaptive_left, three, count_none}
use Rattle.raster_core.proofs.RowsAreEqual.{same_row_self, same_row_only, same_only}
use Rattle.raster_core.proofs.WordsHoldPixels.{word_and, word_xor, word_not, word_same}

-- ---- the mask of some columns

pub between_word : (first end a : ℕ) → bit_and (word (is_within end) a 64) (2 ^ 64 - 1 - word (is_within first) a 64) ≡ word (is_between first end) a 64
between_word first end a =
    rw (word_not (is_within first) a 64, word_and (is_within end) (λ i. not (is_within first i)) a a 64)
    (word_same (λ i. is_within end (a + i) && not (is_within first (a + i))) (is_between first end) 0 a 64
    (λ i lt. ap (λ x. is_within end (a + x) && not (is_within first (a + x))) (zero-add i)))

-- ---- the pixels of a word that agree

pub among_row : (mask : ℕ → Bool) (lines : Lines) (lag k n : ℕ) → 1 ≤ lag → lag ≤ 127 →
    agreed_from (pixels_from (led lines.row) (64 * k + 128)) (pixels_from (led lines.row) (64 * k + 128 - lag)) (pixels_from mask (64 * k)) n ≡ part_among mask lines lag (64 * k) n
unfolding agreed_from part_among
among_row mask lines lag k n low high =
    count_same
    (λ i. mask (64 * k + i) && same (led lines.row (64 * k + 128 + i)) (led lines.row ((64 * k + 128 - lag) + i)))
    (λ x. mask x && same (pixel_at lines.row x) (adaptive lines lag x))
    0 (64 * k) n
    (λ i lt. three
    (ap (λ j. mask (64 * k + j)) (zero-add i))
    (led_at lines.row (64 * k + i) (omega arith))
    (led_left lines.row ((64 * k + 128 - lag) + (0 + i)) (64 * k + i) lag (omega arith)
    ∙ sym (adaptive_left lines lag (64 * k + i) low)))

pub among_nominal : (mask : ℕ → Bool) (lines : Lines) (k n : ℕ) →
    agreed_from (pixels_from (led lines.row) (64 * k + 128)) (pixels_from (led lines.above) (64 * (k + 2) + 64 - 62)) (pixels_from mask (64 * k)) n ≡ part_among mask lines 0 (64 * k) n
unfolding agreed_from part_among
among_nominal mask lines k n =
    count_same
    (λ i. mask (64 * k + i) && same (led lines.row (64 * k + 128 + i)) (led lines.above ((64 * (k + 2) + 64 - 62) + i)))
    (λ x. mask x && same (pixel_at lines.row x) (adaptive lines 0 x))
    0 (64 * k) n
    (λ i lt. three
    (ap (λ j. mask (64 * k + j)) (zero-add i))
    (led_at lines.row (64 * k + i) (omega arith))
    (led_at lines.above ((64 * k + i) + 2) (omega arith)))

pub among_none : (mask : ℕ → Bool) (lines : Lines) (offset first : ℕ) → part_among mask lines offset first 0 ≡ 0
unfolding part_among
among_none mask lines offset first = refl

among_more : (mask : ℕ → Bool) (lines : Lines) (offset n k : ℕ) → part_among mask lines offset 0 (n + k) ≡ part_among mask lines offset 0 n + part_among mask lines offset n k
unfolding part_among
among_more mask lines offset n k =
    rw (count_cat (λ x. mask x && same (pixel_at lines.row x) (adaptive lines offset x)) 0 n k, zero-add) refl

-- a word more of the row
pub among_next : {y z p : ℕ} (mask : ℕ → Bool) (lines : Lines) (offset b : ℕ) → y ≡ part_among mask lines offset 0 (64 * b) → z ≡ y + p →
    p ≡ part_among mask lines offset (64 * b) 64 → z ≡ part_among mask lines offset 0 (64 * (b + 1))
among_next mask lines offset b e f g =
    let n : 64 * b + 64 ≡ 64 * (b + 1) = omega arith in
    let h : part_among mask lines offset 0 (64 * (b + 1)) ≡ part_among mask lines offset 0 (64 * b) + part_among mask lines offset (64 * b) 64 =
    rw (← n) (among_more mask lines offset (64 * b) 64) in
    omega arith

inside : (first end x : ℕ) → first ≤ x → x < end → is_between first end x ≡ true
inside first end x low high = rw (is_lt x end high, is_not_lt x first low) refl

below : (first end x : ℕ) → x < first → is_between first end x ≡ false
below first end x h = rw (is_lt x first h) (none (nat_lt x end))
  where
    none : (b : Bool) → b && false ≡ false
    none true = refl
    none false = refl

behind : (first end x : ℕ) → end ≤ x → is_between first end x ≡ false
behind first end x h = rw (is_not_lt x end h) refl

-- all of the columns
pub among_all : (lines : Lines) (first end offset n : ℕ) → first ≤ end → end ≤ n →
    part_among (is_between first end) lines offset 0 n ≡ count_by (λ x. same (pixel_at lines.row x) (adaptive lines offset x)) (numbers_from first (end - first))
unfolding part_among
among_all lines first end offset n some within =
    let front = count_none f 0 first (λ i lt. rw (below first end (0 + i) (omega arith)) refl) in
    let middle = count_same f g first first (end - first) (λ i lt. rw (inside first end (first + i) (omega arith) (omega arith)) refl) in
    let back = count_none f (first + (end - first)) (n - end) (λ i lt. rw (behind first end (first + (end - first) + i) (omega arith)) refl) in
    rw (whole n some within, count_cat f 0 first ((end - first) + (n - end)), front, zero-add, zero-add, count_cat f first (end - first) (n - end), middle, back)
    (add-zero (count_by g (numbers_from first (end - first))))
  where
    g : ℕ → Bool
    g = λ x. same (pixel_at lines.row x) (adaptive lines offset x)

    f : ℕ → Bool
    f = λ x. is_between first end x && same (pixel_at lines.row x) (adaptive lines offset x)

    whole : (n : ℕ) → first ≤ end → end ≤ n → n ≡ first + ((end - first) + (n - end))
    whole n s h = omega arith

-- ---- rows that are the same

-- where two words differ in the mask
different : (p q m : ℕ → Bool) (a b c n : ℕ) → bit_and (bit_xor (word p a n) (word q b n)) (word m c n) ≡ word (λ i. not (same (p (a + i)) (q (b + i))) && m (c + i)) 0 n
different p q m a b c n =
    rw (word_xor p q a b n, word_and (λ i. not (same (p (a + i)) (q (b + i)))) m 0 c n)
    (word_same (λ i. not (same (p (a + (0 + i))) (q (b + (0 + i)))) && m (c + i)) (λ i. not (same (p (a + i)) (q (b + i))) && m (c + i)) 0 0 n
    (λ i lt. ap (λ x. not (same (p (a + x)) (q (b + x))) && m (c + (0 + i))) (zero-add (0 + i))))

same_where : (p q m : ℕ → Bool) (a b c : ℕ) → bit_and (bit_xor (word p a 64) (word q b 64)) (word m c 64) ≡ 0 → (i : ℕ) → i < 64 → m (c + i) ≡ true → p (a + i) ≡ q (b + i)
same_where p q m a b c e i lt here =
    same_only (p (a + i)) (q (b + i)) (by (same (p (a + i)) (q (b + i))) (rw (zero-add i, here) at at_i))
  where
    f : ℕ → Bool
    f = λ i. not (same (p (a + i)) (q (b + i))) && m (c + i)

    at_i : not (same (p (a + (0 + i))) (q (b + (0 + i)))) && m (c + (0 + i)) ≡ false
    at_i = dark f 0 64 (sym (different p q m a b c 64) ∙ e) i lt

    by : (s : Bool) → not s && true ≡ false → s ≡ true
    by true h = refl
    by false h = sym h

pub none_different : (p q m : ℕ → Bool) (a b c n : ℕ) → ((i : ℕ) → i < n → m (c + i) ≡ true → p (a + i) ≡ q (b + i)) → bit_and (bit_xor (word p a n) (word q b n)) (word m c n) ≡ 0
none_different p q m a b c n h =
    different p q m a b c n ∙ white f 0 n (λ i lt. rw (zero-add i) (by i (m (c + i)) refl (h i lt)))
  where
    f : ℕ → Bool
    f = λ i. not (same (p (a + i)) (q (b + i))) && m (c + i)

    by : (i : ℕ) (t : Bool) → m (c + i) ≡ t → (m (c + i) ≡ true → p (a + i) ≡ q (b + i)) → not (same (p (a + i)) (q (b + i))) && m (c + i) ≡ false
    by i true e s = rw (e, s e, same_self (q (b + i))) refl
    by i false e s = rw e (last (not (same (p (a + i)) (q (b + i)))))
      where
        last : (b : Bool) → b && false ≡ false
        last true = refl
        last false = refl

pub fit_long : (row : List Bool) (width : ℕ) → length (fit_row width row) ≡ width
fit_long row width = length-map (numbers_from 0 width) (pixel_at row) ∙ length-numbers 0 width

pub fit_pixel : (row : List Bool) (width x : ℕ) → x < width → pixel_at (fit_row width row) x ≡ pixel_at row x
fit_pixel row width x lt = get_or-numbers (pixel_at row) 0 width x false lt ∙ ap (pixel_at row) (zero-add x)

pub rows_alike : (a b : List Bool) (width : ℕ) → ((x : ℕ) → x < width → pixel_at a x ≡ pixel_at b x) → same_row (fit_row width a) (fit_row width b) ≡ true
rows_alike a b width h =
    let e : fit_row width a ≡ fit_row width b =
    ext_get_or false (fit_row width a) (fit_row width b) (fit_long a width ∙ sym (fit_long b width))
    (λ x lt. let k : x < width = omega (arith, fit_long a width) in fit_pixel a width x k ∙ h x k ∙ sym (fit_pixel b width x k)) in
    rw e (same_row_self (fit_row width b))

pub pixels_alike : (a b : List Bool) (width : ℕ) → same_row (fit_row width a) (fit_row width b) ≡ true → (x : ℕ) → x < width → pixel_at a x ≡ pixel_at b x
pixels_alike a b width h x lt =
    let e = same_row_only (fit_row width a) (fit_row width b) h in
    sym (fit_pixel a width x lt) ∙ ap (λ r. get_or r x false) e ∙ fit_pixel b width x lt

at_pixel : (k i : ℕ) → 64 * (k + 2) + i ≡ (64 * k + i) + 128
at_pixel k i = omega arith

-- a word of two rows, and the mask of those of its pixels that are within the width
pub record AreWords (a b : List Bool) (width k x y mask : ℕ) : Type 0 where
  pub one : x ≡ word (led a) (64 * (k + 2)) 64
  pub other : y ≡ word (led b) (64 * (k + 2)) 64
  pub masked : mask ≡ word (is_within width) (64 * k) 64

pub words_same : (a b : List Bool) (width k : ℕ) {x y mask : ℕ} (z : ℕ) → AreWords a b width k x y mask → bit_and (bit_xor x y) mask ≡ 0 → 64 * k ≤ z → z < 64 * (k + 1) → z < width →
    pixel_at a z ≡ pixel_at b z
words_same a b width k z w e low high inside =
    let at : 64 * k + (z - 64 * k) ≡ z = omega arith in
    let zero = rw (w.one, w.other, w.masked) at e in
    let p = same_where (led a) (led b) (is_within width) (64 * (k + 2)) (64 * (k + 2)) (64 * k) zero (z - 64 * k) (omega arith) (rw at (is_lt z width inside)) in
    sym (led_at a z (at_pixel k (z - 64 * k) ∙ ap (λ i. i + 128) at)) ∙ p ∙ led_at b z (at_pixel k (z - 64 * k) ∙ ap (λ i. i + 128) at)

within : (w x : ℕ) → is_within w x ≡ true → x < w
within w x h = grind (arith, nat_tests)

pub words_differ : (a b : List Bool) (width k x y mask : ℕ) → AreWords a b width k x y mask → ((z : ℕ) → z < width → pixel_at a z ≡ pixel_at b z) → bit_and (bit_xor x y) mask ≡ 0
words_differ a b width k x y mask w h =
    rw (w.one, w.other, w.masked)
    (none_different (led a) (led b) (is_within width) (64 * (k + 2)) (64 * (k + 2)) (64 * k) 64
    (λ i lt here. led_at a (64 * k + i) (at_pixel k i) ∙ h (64 * k + i) (within width (64 * k + i) here) ∙ sym (led_at b (64 * k + i) (at_pixel k i))))
