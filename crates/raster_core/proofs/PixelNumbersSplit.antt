-- Numbers of pixels: parts of them, and the contexts.
use Rattle.std.proofs.Common.{◌≡◌, ℕ, zero, suc, ◌+◌, ◌-◌, ◌*◌, ◌/◌, ◌%◌, ◌^◌, ◌<◌, ◌≤◌, Bool, true, false, List, refl, ◌∙◌, ap, arith}
use Rattle.std.specs.Prelude.{if◌then◌else◌, nat_lt}
use Rattle.std.proofs.lemmas.Bool.Decides.{nat_tests}
use Rattle.std.proofs.Math.Nat.{pow-suc, mul-div_cancel, div-div-eq-div-mul}
use Rattle.std.proofs.lemmas.Nat.{pow_pos, pow-add, div-mul-add, mod-mul-add}
use Rattle.raster_core.specs.Raster.{pixel_at, pixel_left}
use Rattle.raster_core.specs.Machine.Registers.{bit, before, past_bits}

-- a register has some pixels
pub bit_same : (a b : Bool) → bit a ≡ bit b → a ≡ b
bit_same true true h = refl
bit_same true false h = cc
bit_same false true h = cc
bit_same false false h = refl

pub bit_lt : (b : Bool) → bit b < 2
bit_lt true = omega arith
bit_lt false = omega arith

pub before_none : (row : List Bool) (k : ℕ) → before row 0 k ≡ 0
unfolding before
before_none row zero = refl
before_none row (suc k) = refl

pub before_suc : (row : List Bool) (x k : ℕ) → before row (suc x) (suc k) ≡ 2 * before row x k + bit (pixel_at row x)
unfolding before
before_suc row x k = refl

pub before_zero : (row : List Bool) (x : ℕ) → before row x 0 ≡ 0
unfolding before
before_zero row x = refl

pub before_lt : (row : List Bool) (x k : ℕ) → before row x k < 2 ^ k
before_lt row x zero = rw before_zero (omega arith)
before_lt row zero (suc k) = rw before_none (pow_pos (suc k))
before_lt row (suc x) (suc k) =
    rw (before_suc, pow-suc) (omega (arith, before_lt row x k, bit_lt (pixel_at row x)))

-- the last m pixels come off
pub before_split : (row : List Bool) (x k m : ℕ) → before row (x + m) (k + m) ≡ before row x k * 2 ^ m + before row (x + m) m
before_split row x k zero =
    let a : x + 0 ≡ x = omega arith in
    let b : k + 0 ≡ k = omega arith in
    rw (a, b, before_zero) (omega arith)
before_split row x k (suc m) =
    let a : x + suc m ≡ suc (x + m) = omega arith in
    let b : k + suc m ≡ suc (k + m) = omega arith in
    rw (a, b, before_suc, before_suc, pow-suc)
    (omega (arith, before_split row x k m))

pub before_div : (row : List Bool) (x k m : ℕ) → before row (x + m) (k + m) / 2 ^ m ≡ before row x k
before_div row x k m =
    rw before_split (div-mul-add (before row x k) (2 ^ m) (before row (x + m) m) (before_lt row (x + m) m))

-- the nearest l pixels
pub above_low : (row : List Bool) (x d l : ℕ) → (t : ℕ) × (before row x (d + l) ≡ t * 2 ^ l + before row x l)
above_low row x d zero = (before row x (d + 0), rw before_zero (omega arith))
above_low row zero d (suc l) = (0, rw (before_none, before_none) (omega arith))
above_low row (suc x) d (suc l) =
    let b : d + suc l ≡ suc (d + l) = omega arith in
    let r = above_low row x d l in
    (r.0, rw (b, before_suc, before_suc, pow-suc) (omega arith))

pub before_mod : (row : List Bool) (x d l : ℕ) → before row x (d + l) % 2 ^ l ≡ before row x l
before_mod row x d l =
    let r = above_low row x d l in
    rw (r.1) (mod-mul-add r.0 (2 ^ l) (before row x l) (before_lt row x l))

pub least : (t : ℕ) → 64 ≤ past_bits t
least zero = omega arith
least (suc t) = omega arith

-- the nearest l pixels of a register
pub low_part : {past : ℕ} (row : List Bool) (x offset l : ℕ) → past ≡ before row x (past_bits offset) → l ≤ 64 → past % 2 ^ l ≡ before row x l
low_part row x offset l h few =
    let large = least offset in
    let size : (past_bits offset - l) + l ≡ past_bits offset = omega arith in
    rw (h, ← size) (before_mod row x (past_bits offset - l) l)

-- a part of a register
pub before_part : (row : List Bool) (x d l m : ℕ) → before row (x + m) ((d + l) + m) / 2 ^ m % 2 ^ l ≡ before row x l
before_part row x d l m = rw before_div (before_mod row x d l)

-- the pixels of a byte's register that its contexts need
pub second_in : {register : ℕ} (row : List Bool) (x : ℕ) → register ≡ before row (x + 16) 24 → register / 2 ^ 7 ≡ before row (x + 9) 17
second_in row x h =
    let e : x + 16 ≡ (x + 9) + 7 = omega arith in
    rw (h, e) (before_div row (x + 9) 17 7)

pub above_in : {register : ℕ} (row : List Bool) (x : ℕ) → register ≡ before row (x + 16) 24 → register / 2 ^ 6 ≡ before row (x + 10) 18
above_in row x h =
    let e : x + 16 ≡ (x + 10) + 6 = omega arith in
    rw (h, e) (before_div row (x + 10) 18 6)

-- a number that was shifted to the left as far as its byte has gone
pub shifted_div : (b left m : ℕ) → left ≤ 7 → b * 2 ^ (7 - left) / 2 ^ (7 + m) ≡ b / 2 ^ (left + m)
shifted_div b left m h =
    let e : 7 + m ≡ (7 - left) + (left + m) = omega arith in
    let p : 2 ^ (7 + m) ≡ 2 ^ (7 - left) * 2 ^ (left + m) = rw e (pow-add 2 (7 - left) (left + m)) in
    rw (p, ← div-div-eq-div-mul (b * 2 ^ (7 - left)) (2 ^ (7 - left)) (2 ^ (left + m)), mul-div_cancel b (pow_pos (7 - left))) refl

pub begins : (b : ℕ) → b ≡ b * 2 ^ 0
begins b = omega arith

pub goes_on : (a b j : ℕ) → a ≡ b * 2 ^ j → a * 2 ≡ b * 2 ^ (j + 1)
goes_on a b j h =
    let e : j + 1 ≡ suc j = omega arith in
    rw (e, pow-suc) (omega arith)

pub grows : (a k j : ℕ) → a < 2 ^ (k + j) → a * 2 < 2 ^ (k + (j + 1))
grows a k j h =
    let e : k + (j + 1) ≡ suc (k + j) = omega arith in
    rw (e, pow-suc) (omega arith)

-- ---- pixels to the left

pub left_up : (row : List Bool) (x k : ℕ) → pixel_left row (suc x) (suc k) ≡ pixel_left row x k
left_up row x k =
    let test : nat_lt (suc x) (suc k) ≡ nat_lt x k = grind (arith, nat_tests) in
    let at : suc x - suc k ≡ x - k = omega arith in
    ap (λ b. if b then false else pixel_at row (suc x - suc k)) test ∙ ap (λ z. if nat_lt x k then false else pixel_at row z) at

pub left_at : (row : List Bool) (x d : ℕ) → pixel_left row (x + d) d ≡ pixel_at row x
left_at row x d =
    let test : nat_lt (x + d) d ≡ false = grind (arith, nat_tests) in
    let at : (x + d) - d ≡ x = omega arith in
    ap (λ b. if b then false else pixel_at row ((x + d) - d)) test ∙ ap (λ z. pixel_at row z) at

pub left_along : (row : List Bool) (x k d : ℕ) → pixel_left row (x + d) (k + d) ≡ pixel_left row x k
left_along row x k zero =
    let a : x + 0 ≡ x = omega arith in
    let b : k + 0 ≡ k = omega arith in
    rw (a, b) refl
left_along row x k (suc d) =
    let a : x + suc d ≡ suc (x + d) = omega arith in
    let b : k + suc d ≡ suc (k + d) = omega arith in
    rw (a, b) (left_up row (x + d) (k + d) ∙ left_along row x k d)

left_none : (row : List Bool) (k : ℕ) → pixel_left row 0 (suc k) ≡ false
left_none row k =
    let test : nat_lt 0 (suc k) ≡ true = grind (arith, nat_tests) in
    rw test refl

-- the farthest of the pixels before x
pub before_far : (row : List Bool) (x k : ℕ) → before row x (suc k) ≡ bit (pixel_left row x (suc k)) * 2 ^ k + before row x k
before_far row zero k = rw (before_none, before_none, left_none) (omega arith)
before_far row (suc x) zero =
    let up : suc x ≡ x + 1 = omega arith in
    let e : pixel_left row (suc x) 1 ≡ pixel_at row x = rw up (left_at row x 1) in
    rw (before_suc, before_zero, before_zero, e) (omega arith)
before_far row (suc x) (suc k) =
    let e = left_up row x (suc k) in
    rw (before_suc, before_suc, e, pow-suc) (omega (arith, before_far row x k))
