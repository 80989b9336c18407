-- Rows in bytes, rows in words.
use Rattle.std.proofs.Common.{◌≡◌, ℕ, zero, suc, ◌+◌, ◌-◌, ◌*◌, ◌/◌, ◌%◌, ◌^◌, ◌<◌, ◌≤◌, Bool, true, false, List, length, refl, sym, ◌∙◌, ap, arith, map, get_or, add-zero, inl, inr, lit<, zero-add, if◌then◌else◌}
use Rattle.std.specs.Prelude.{bit_or, ◌==◌}
use Rattle.std.proofs.lemmas.Nat.{or_shifted, pow-add, div-mul-add}
use Rattle.std.proofs.lemmas.Nat.Bits.{ones_shl}
use Rattle.std.proofs.Math.Nat.{mod-eq_of_lt, pow-le-pow_right, pow-suc}
use Rattle.std.proofs.lemmas.Bool.Decides.{nat_tests}
use Rattle.raster_core.specs.Raster.{pixel_at}
use Rattle.raster_core.specs.Lines.{numbers_from, binary}
use Rattle.raster_core.specs.Packed.{packed_row, row_bytes}
use Rattle.raster_core.specs.Machine.Words.{word, led, is_within}
use Rattle.raster_core.specs.Machine.Registers.{bit}
use Rattle.raster_core.proofs.WordsHoldPixels.{word_cat, word_same, word_lt}
use Rattle.std.proofs.lemmas.Bool.{cases_lt}
use Rattle.raster_core.proofs.RegistersGiveContexts.{binary_bit}
use Rattle.raster_core.proofs.WordsAgree.{is_lt, is_not_lt}
use Rattle.raster_core.proofs.RegistersTakeBytes.{length-numbers, get_or-numbers, packed-length}
use Rattle.std.proofs.Math.ListN.{get_or-eq_default}
use Rattle.std.proofs.lemmas.List.{length-map}

-- the value of n bits, the highest first, is the word
pub binary_is : (p : ℕ → Bool) (a n : ℕ) → binary (map p (numbers_from a n)) ≡ word p a n
unfolding word
binary_is p a zero = refl
binary_is p a (suc n) =
    let both = word_cat p a 1 n in
    let s : 1 + n ≡ suc n = omega arith in
    let one = sym (ap (λ k. 0 * 2 + bit (p k)) (add-zero a) ∙ start (bit (p a))) in
    rw (binary_bit (p a) (map p (numbers_from (a + 1) n)), length-map (numbers_from (a + 1) n) p, length-numbers (a + 1) n, binary_is p (a + 1) n, one, ← both, s) refl
  where
    start : (k : ℕ) → 0 * 2 + k ≡ k
    start k = omega arith

pub white : (p : ℕ → Bool) (a n : ℕ) → ((i : ℕ) → i < n → p (a + i) ≡ false) → word p a n ≡ 0
unfolding word
white p a zero h = refl
white p a (suc n) h =
    rw (white p a n (λ i lt. h i (omega arith)), h n (omega arith)) refl

-- a byte of the row is eight of its pixels
pub byte_is : (line : List Bool) (j : ℕ) → get_or (packed_row line) j 0 ≡ word (pixel_at line) (8 * j) 8
byte_is line j =
    elim (cases_lt j (row_bytes (length line))) [
      | inl lt ↦ rw (get_or-numbers (λ k. binary (map (pixel_at line) (numbers_from (8 * k) 8))) 0 (row_bytes (length line)) j 0 lt, zero-add) (binary_is (pixel_at line) (8 * j) 8)
      | inr past ↦
          get_or-eq_default (packed_row line) 0 (omega (arith, packed-length line, past))
          ∙ sym (white (pixel_at line) (8 * j) 8 (λ i lt. get_or-eq_default line false (omega arith)))
    ]

-- one byte more of a word
pub one_byte : {w b : ℕ} (p : ℕ → Bool) (a k : ℕ) → k + 8 ≤ 64 → w ≡ word p a k → b ≡ word p (a + k) 8 → bit_or (w * 2 ^ 8 % 2 ^ 64) b ≡ word p a (k + 8)
one_byte p a k h e f =
    rw (e, mod-eq_of_lt (fits (word p a k) k (word_lt p a k) h), f, or_shifted (word p a k) 8 (word p (a + k) 8) (word_lt p (a + k) 8)) (sym (word_cat p a k 8))
  where
    fits : (x n : ℕ) → x < 2 ^ n → n + 8 ≤ 64 → x * 2 ^ 8 < 2 ^ 64
    fits x n lt le =
        let up : 2 ^ (n + 8) ≡ 2 ^ n * 2 ^ 8 = pow-add 2 n 8 in
        let most : 2 ^ (n + 8) ≤ 2 ^ 64 = pow-le-pow_right (lit< tt) le in
        omega arith

-- a byte in its place of the led row
pub byte_led : (line : List Bool) (place i b : ℕ) → 2 ≤ place → i < 8 → b ≡ get_or (packed_row line) (8 * (place - 2) + i) 0 →
    b ≡ word (led line) (64 * place + 8 * i) 8
byte_led line place i b h lt e =
    e ∙ byte_is line (8 * (place - 2) + i)
    ∙ word_same (pixel_at line) (led line) (8 * (8 * (place - 2) + i)) (64 * place + 8 * i) 8 (λ j lt. here j)
  where
    here : (j : ℕ) → pixel_at line (8 * (8 * (place - 2) + i) + j) ≡ led line (64 * place + 8 * i + j)
    here j =
        let e : 64 * place + 8 * i + j - 128 ≡ 8 * (8 * (place - 2) + i) + j = omega arith in
        let t = is_not_lt (64 * place + 8 * i + j) 128 (omega arith) in
        ap (pixel_at line) (sym e) ∙ sym (rw t refl)

pub led_white : (line : List Bool) (place : ℕ) → place < 2 → 0 ≡ word (led line) (64 * place) 64
led_white line place h = sym (white (led line) (64 * place) 64 (λ i lt. before (64 * place + i) (omega arith)))
  where
    before : (x : ℕ) → x < 128 → led line x ≡ false
    before x lt = rw is_lt refl

-- behind its bytes, a row is white
behind : (line : List Bool) (x : ℕ) → 128 + 8 * length (packed_row line) ≤ x → led line x ≡ false
behind line x h =
    ap (λ b. if b then false else pixel_at line (x - 128)) (is_not_lt x 128 (omega arith))
    ∙ get_or-eq_default line false (omega (arith, packed-length line, h))

pub word_behind : (line : List Bool) (place : ℕ) → 2 ≤ place → length (packed_row line) ≤ 8 * (place - 2) → 0 ≡ word (led line) (64 * place) 64
word_behind line place some h = sym (white (led line) (64 * place) 64 (λ i lt. behind line (64 * place + i) (omega arith)))

-- the last bytes of a row, and white ones behind them
pub word_filled : {w : ℕ} (line : List Bool) (place count : ℕ) → 2 ≤ place → count ≤ 8 → length (packed_row line) ≤ 8 * (place - 2) + count →
    w ≡ word (led line) (64 * place) (8 * count) → w * 2 ^ (8 * (8 - count)) % 2 ^ 64 ≡ word (led line) (64 * place) 64
word_filled {w} line place count some few h e =
    let n : 8 * (8 - count) ≡ 64 - 8 * count = omega arith in
    let all : 8 * count + (64 - 8 * count) ≡ 64 = omega arith in
    let rest = white (led line) (64 * place + 8 * count) (64 - 8 * count) (λ i lt. behind line (64 * place + 8 * count + i) (omega arith)) in
    let cat : word (led line) (64 * place) 64 ≡ word (led line) (64 * place) (8 * count) * 2 ^ (64 - 8 * count) + word (led line) (64 * place + 8 * count) (64 - 8 * count) =
    ap (word (led line) (64 * place)) (sym all) ∙ word_cat (led line) (64 * place) (8 * count) (64 - 8 * count) in
    let fits = word_lt (led line) (64 * place) 64 in
    let whole : word (led line) (64 * place) (8 * count) * 2 ^ (64 - 8 * count) ≡ word (led line) (64 * place) 64 = omega (arith, cat, rest) in
    rw (e, n, whole) (mod-eq_of_lt fits)

pub nothing : (p : ℕ → Bool) (a : ℕ) → 0 ≡ word p a 0
unfolding word
nothing p a = refl

black : (p : ℕ → Bool) (a n : ℕ) → ((i : ℕ) → i < n → p (a + i) ≡ true) → word p a n + 1 ≡ 2 ^ n
unfolding word
black p a zero h = refl
black p a (suc n) h =
    let rest = black p a n (λ i lt. h i (omega arith)) in
    let last : bit (p (a + n)) ≡ 1 = ap bit (h n (omega arith)) in
    let up = pow-suc 2 n in
    omega arith

inside : (w x : ℕ) → x < w → is_within w x ≡ true
inside w x h = grind (arith, nat_tests)

outside : (w x : ℕ) → w ≤ x → is_within w x ≡ false
outside w x h = grind (arith, nat_tests)

pub mask_full : (w a : ℕ) → a + 64 ≤ w → 2 ^ 64 - 1 ≡ word (is_within w) a 64
mask_full w a h =
    let e = black (is_within w) a 64 (λ i lt. inside w (a + i) (omega arith)) in
    omega arith

pub mask_none : (w a : ℕ) → w ≤ a → 0 ≡ word (is_within w) a 64
mask_none w a h = sym (white (is_within w) a 64 (λ i lt. outside w (a + i) (omega arith)))

pub mask_part : (w a : ℕ) → a < w → w < a + 64 → (2 ^ 64 - 1) * 2 ^ (64 - (w - a)) % 2 ^ 64 ≡ word (is_within w) a 64
mask_part w a h k =
    let cat = word_cat (is_within w) a (w - a) (64 - (w - a)) in
    let ones = black (is_within w) a (w - a) (λ i lt. inside w (a + i) (omega arith)) in
    let none = white (is_within w) (a + (w - a)) (64 - (w - a)) (λ i lt. outside w (a + (w - a) + i) (omega arith)) in
    let n : (w - a) + (64 - (w - a)) ≡ 64 = omega arith in
    let all : 2 ^ (w - a) * 2 ^ (64 - (w - a)) ≡ 2 ^ 64 = rw (← pow-add, n) refl in
    let shl = ones_shl 64 (64 - (w - a)) (omega arith) in
    rw (shl, collected (2 ^ (w - a)) (2 ^ (64 - (w - a))) (word (is_within w) a (w - a)) (2 ^ 64) all ones, ← none, ← cat, n) refl
  where
    collected : (d s x m : ℕ) → d * s ≡ m → x + 1 ≡ d → m - s ≡ x * s + 0
    collected d s x m all e =
        let both : (x + 1) * s ≡ m = rw e all in
        omega arith

-- ---- one pixel of a byte

upper : (q : ℕ → Bool) (g n s : ℕ) → s ≤ n → word q g n / 2 ^ s ≡ word q g (n - s)
upper q g n s h =
    let e = word_cat q g (n - s) s in
    let m : (n - s) + s ≡ n = omega arith in
    ap (λ k. word q g k / 2 ^ s) (sym m) ∙ ap (λ x. x / 2 ^ s) e ∙ div-mul-add (word q g (n - s)) (2 ^ s) (word q (g + (n - s)) s) (word_lt q (g + (n - s)) s)

bit_test : (b : Bool) → (bit b == 1) ≡ b
bit_test true = refl
bit_test false = refl
