-- Pixels in words.
use Rattle.std.proofs.Common.{◌≡◌, ℕ, zero, suc, ◌+◌, ◌-◌, ◌*◌, ◌/◌, ◌%◌, ◌^◌, ◌<◌, ◌≤◌, Bool, true, false, ◌&&◌, not, refl, sym, ◌∙◌, ap, arith, cond, add-zero, lit<, lit≤, zero-add}
use Rattle.std.specs.Prelude.{bit_and, bit_or, bit_xor, count_ones, count_by}
use Rattle.std.proofs.Math.Nat.{pow-suc, mul-add-mod_self_right, mod-eq_of_lt, mul-le-mul_right}
use lib.Count.{ones, ones_in}
use Rattle.std.proofs.lemmas.Nat.{pow-add, div-mul-add, and_block, xor_block, ones_cat, pow_pos, or_shifted, mul-mod_first}
use Rattle.std.proofs.lemmas.List.Sums.{sum_by-cons}
use Rattle.qm_core.specs.Place.{same}
use Rattle.raster_core.specs.Lines.{numbers_from}
use Rattle.raster_core.specs.Machine.Words.{word, agreed_from, pixels_from}
use Rattle.raster_core.specs.Machine.Registers.{bit}

pow_two : (n : ℕ) → 2 ^ suc n ≡ 2 ^ n * 2
pow_two n = pow-suc 2 n

regroup : (a p b c : ℕ) → (a * p + b) * 2 + c ≡ a * (p * 2) + (b * 2 + c)
regroup a p b c = omega arith

pub bit_lt : (b : Bool) → bit b < 2 ^ 1
bit_lt true = lit< tt
bit_lt false = lit< tt

pub word_lt : (p : ℕ → Bool) (f n : ℕ) → word p f n < 2 ^ n
unfolding word
word_lt p f zero = lit< tt
word_lt p f (suc n) =
    let h = word_lt p f n in
    let b = bit_lt (p (f + n)) in
    let d = pow_two n in
    omega arith

-- two words one after the other
pub word_cat : (p : ℕ → Bool) (f m n : ℕ) → word p f (m + n) ≡ word p f m * 2 ^ n + word p (f + m) n
unfolding word
word_cat p f m zero = ap (word p f) (add-zero m) ∙ grind arith
word_cat p f m (suc n) =
    let e = word_cat p f m n in
    let s : m + suc n ≡ suc (m + n) = omega arith in
    let q : f + (m + n) ≡ (f + m) + n = omega arith in
    rw (s, e, q, regroup, ← pow_two) refl

-- the same pixels, the same word
pub word_same : (p q : ℕ → Bool) (f g n : ℕ) → ((i : ℕ) → i < n → p (f + i) ≡ q (g + i)) → word p f n ≡ word q g n
unfolding word
word_same p q f g zero h = refl
word_same p q f g (suc n) h =
    let rest = word_same p q f g n (λ i lt. h i (omega arith)) in
    rw (rest, h n (omega arith)) refl

and_bit : (a b : Bool) → bit_and (bit a) (bit b) ≡ bit (a && b)
and_bit true true = refl
and_bit true false = refl
and_bit false b = refl

xor_bit : (a b : Bool) → bit_xor (bit a) (bit b) ≡ bit (not (same a b))
xor_bit true true = refl
xor_bit true false = refl
xor_bit false true = refl
xor_bit false false = refl

not_bit : (a : Bool) → 1 - bit a ≡ bit (not a)
not_bit true = refl
not_bit false = refl

ones_bit : (a : Bool) → count_ones (bit a) ≡ cond a 1 0
unfolding ones ones_in
ones_bit true = refl
ones_bit false = refl

pub word_and : (p q : ℕ → Bool) (f g n : ℕ) → bit_and (word p f n) (word q g n) ≡ word (λ i. p (f + i) && q (g + i)) 0 n
unfolding word
word_and p q f g zero = refl
word_and p q f g (suc n) =
    and_block 1 (word p f n) (word q g n) (bit (p (f + n))) (bit (q (g + n))) (bit_lt (p (f + n))) (bit_lt (q (g + n)))
    ∙ ap (λ x. x * 2 + bit_and (bit (p (f + n))) (bit (q (g + n)))) (word_and p q f g n)
    ∙ ap (λ x. word (λ i. p (f + i) && q (g + i)) 0 n * 2 + x) (and_bit (p (f + n)) (q (g + n)))
    ∙ ap (λ k. word (λ i. p (f + i) && q (g + i)) 0 n * 2 + bit (p (f + k) && q (g + k))) (sym (zero-add n))

pub word_xor : (p q : ℕ → Bool) (f g n : ℕ) → bit_xor (word p f n) (word q g n) ≡ word (λ i. not (same (p (f + i)) (q (g + i)))) 0 n
unfolding word
word_xor p q f g zero = refl
word_xor p q f g (suc n) =
    xor_block 1 (word p f n) (word q g n) (bit (p (f + n))) (bit (q (g + n))) (bit_lt (p (f + n))) (bit_lt (q (g + n)))
    ∙ ap (λ x. x * 2 + bit_xor (bit (p (f + n))) (bit (q (g + n)))) (word_xor p q f g n)
    ∙ ap (λ x. word (λ i. not (same (p (f + i)) (q (g + i)))) 0 n * 2 + x) (xor_bit (p (f + n)) (q (g + n)))
    ∙ ap (λ k. word (λ i. not (same (p (f + i)) (q (g + i)))) 0 n * 2 + bit (not (same (p (f + k)) (q (g + k))))) (sym (zero-add n))

pub word_not : (p : ℕ → Bool) (f n : ℕ) → 2 ^ n - 1 - word p f n ≡ word (λ i. not (p i)) f n
unfolding word
word_not p f zero = refl
word_not p f (suc n) =
    let e = word_not p f n in
    let lt = word_lt p f n in
    let b = not_bit (p (f + n)) in
    let c = bit_lt (p (f + n)) in
    let d = pow_two n in
    omega arith

-- how many of the pixels are black
pub word_ones : (p : ℕ → Bool) (f n : ℕ) → count_ones (word p f n) ≡ count_by p (numbers_from f n)
unfolding word
word_ones p f zero = ones_bit false
word_ones p f (suc n) =
    let both = word_cat p f 1 n in
    let one : word p f 1 ≡ bit (p f) = ap (λ k. 0 * 2 + bit (p k)) (add-zero f) ∙ omega arith in
    let s : suc n ≡ 1 + n = omega arith in
    ap (λ k. count_ones (word p f k)) s
    ∙ ap count_ones both
    ∙ ones_cat n (word p f 1) (word p (f + 1) n) (word_lt p (f + 1) n)
    ∙ ap (λ x. count_ones x + count_ones (word p (f + 1) n)) one
    ∙ ap (λ x. x + count_ones (word p (f + 1) n)) (ones_bit (p f))
    ∙ ap (λ x. cond (p f) 1 0 + x) (word_ones p (f + 1) n)
    ∙ sym (sum_by-cons (λ x. cond (p x) 1 0) f (numbers_from (f + 1) n))

-- ---- two words, joined

pub second_part : (q : ℕ → Bool) (g s : ℕ) → s ≤ 64 → word q g 64 / 2 ^ s ≡ word q g (64 - s)
second_part q g s h =
    let e = word_cat q g (64 - s) s in
    let n : (64 - s) + s ≡ 64 = omega arith in
    let lt = word_lt q (g + (64 - s)) s in
    ap (λ k. word q g k / 2 ^ s) (sym n) ∙ ap (λ x. x / 2 ^ s) e ∙ div-mul-add (word q g (64 - s)) (2 ^ s) (word q (g + (64 - s)) s) lt

modded : (a b s p m : ℕ) → s * p ≡ m → b < s → 0 < p → ((a * s + b) * p) % m ≡ b * p
modded a b s p m e lt pos =
    let parts : (a * s + b) * p ≡ a * (s * p) + b * p = omega arith in
    let small = below (omega (arith, mul-le-mul_right p (up lt))) in
    rw (parts, e, mul-add-mod_self_right) (mod-eq_of_lt small)
  where
    up : b < s → b + 1 ≤ s
    up h = omega arith

    below : (b + 1) * p ≤ s * p → b * p < m
    below h = omega arith

twice : (w p m : ℕ) → w * 2 % m * p % m ≡ w * (2 * p) % m
twice w p m =
    let e : w * 2 * p ≡ w * (2 * p) = omega arith in
    rw (mul-mod_first, e) refl

first_part : (q : ℕ → Bool) (g s : ℕ) → s < 64 → word q g 64 * 2 ^ 1 % 2 ^ 64 * 2 ^ (63 - s) % 2 ^ 64 ≡ word q (g + (64 - s)) s * 2 ^ (64 - s)
first_part q g s h =
    let one_more : suc (63 - s) ≡ 64 - s = omega arith in
    let whole : s + (64 - s) ≡ 64 = omega arith in
    let doubled : 2 * 2 ^ (63 - s) ≡ 2 ^ suc (63 - s) = omega (arith, pow_two (63 - s)) in
    let e = word_cat q g (64 - s) s in
    let n : (64 - s) + s ≡ 64 = omega arith in
    let lt = word_lt q (g + (64 - s)) s in
    let up : 2 * 2 ^ (63 - s) ≡ 2 ^ (64 - s) = rw (doubled, one_more) refl in
    let all : 2 ^ s * 2 ^ (64 - s) ≡ 2 ^ 64 = rw (← pow-add, whole) refl in
    twice (word q g 64) (2 ^ (63 - s)) (2 ^ 64)
    ∙ ap (λ x. word q g 64 * x % 2 ^ 64) up
    ∙ ap (λ k. word q g k * 2 ^ (64 - s) % 2 ^ 64) (sym n)
    ∙ ap (λ x. x * 2 ^ (64 - s) % 2 ^ 64) e
    ∙ modded (word q g (64 - s)) (word q (g + (64 - s)) s) (2 ^ s) (2 ^ (64 - s)) (2 ^ 64) all lt (pow_pos (64 - s))

pub joined_is : (q : ℕ → Bool) (g s : ℕ) → s < 64 →
    bit_or (word q g 64 * 2 ^ 1 % 2 ^ 64 * 2 ^ (63 - s) % 2 ^ 64) (word q (g + 64) 64 / 2 ^ s) ≡ word q (g + 64 - s) 64
joined_is q g s h =
    let n : s + (64 - s) ≡ 64 = omega arith in
    let at : g + (64 - s) ≡ g + 64 - s = omega arith in
    let next : (g + (64 - s)) + s ≡ g + 64 = omega arith in
    ap (λ x. bit_or x (word q (g + 64) 64 / 2 ^ s)) (first_part q g s h)
    ∙ ap (λ x. bit_or (word q (g + (64 - s)) s * 2 ^ (64 - s)) x) (second_part q (g + 64) s (omega arith))
    ∙ or_shifted (word q (g + (64 - s)) s) (64 - s) (word q (g + 64) (64 - s)) (word_lt q (g + 64) (64 - s))
    ∙ ap (λ k. word q (g + (64 - s)) s * 2 ^ (64 - s) + word q k (64 - s)) (sym next)
    ∙ sym (word_cat q (g + (64 - s)) s (64 - s))
    ∙ ap (word q (g + (64 - s))) n
    ∙ ap (λ k. word q k 64) at

-- ---- agreements

kept_same : (m s : Bool) → m && not (not s) ≡ (m && s)
kept_same true true = refl
kept_same true false = refl
kept_same false s = refl

pub agreed_word_is : (p q m : ℕ → Bool) (a b c n : ℕ) →
    count_ones (bit_and (word m c n) (2 ^ n - 1 - bit_xor (word p a n) (word q b n))) ≡ agreed_from (pixels_from p a) (pixels_from q b) (pixels_from m c) n
unfolding agreed_from
agreed_word_is p q m a b c n =
    let same_words = word_same (λ i. m (c + i) && not (not (same (p (a + (0 + i))) (q (b + (0 + i)))))) (λ i. m (c + i) && same (p (a + i)) (q (b + i))) 0 0 n (λ i lt. here (0 + i)) in
    rw (word_xor, word_not, word_and, same_words) (word_ones _ 0 n)
  where
    here : (i : ℕ) → m (c + i) && not (not (same (p (a + (0 + i))) (q (b + (0 + i))))) ≡ (m (c + i) && same (p (a + i)) (q (b + i)))
    here i =
        rw (kept_same, zero-add) refl

-- ---- a word's left neighbour moves in, a pixel at a time

pub far_next : (q : ℕ → Bool) (g d : ℕ) → d < 64 → word q g (64 - d) / 2 ≡ word q g (64 - (d + 1))
far_next q g d h =
    let e = word_cat q g (63 - d) 1 in
    let n : 64 - d ≡ (63 - d) + 1 = omega arith in
    let m : 63 - d ≡ 64 - (d + 1) = omega arith in
    rw (n, e, div-mul-add (word q g (63 - d)) 2 (word q (g + (63 - d)) 1) (word_lt q (g + (63 - d)) 1), m) refl

pub near_next : (q : ℕ → Bool) (g d : ℕ) → d < 64 →
    bit_or (word q g (64 - d) * 2 ^ 63 % 2 ^ 64) (word q (g + 64 - d) 64 / 2 ^ 1) ≡ word q (g + 64 - (d + 1)) 64
near_next q g d h =
    let beside : g + 64 - d ≡ g + (63 - d) + 1 = omega arith in
    let one_left : g + (63 - d) ≡ g + 64 - (d + 1) = omega arith in
    let e = word_cat q g (63 - d) 1 in
    let n : 64 - d ≡ (63 - d) + 1 = omega arith in
    let last = word_lt q (g + (63 - d)) 1 in
    let first = modded (word q g (63 - d)) (word q (g + (63 - d)) 1) 2 (2 ^ 63) (2 ^ 64) refl last (lit< tt) in
    rw (n, e, first, second_part q (g + 64 - d) 1 (lit≤ tt), or_shifted (word q (g + (63 - d)) 1) 63 (word q (g + 64 - d) 63) (word_lt q _ 63), beside, ← word_cat, one_left) refl
