-- Contexts from registers are those of the coordinates.
use Rattle.std.proofs.Common.{◌≡◌, ℕ, suc, ◌+◌, ◌-◌, ◌*◌, ◌/◌, ◌%◌, ◌^◌, ◌<◌, ◌≤◌, Bool, true, false, List, [], ◌∷◌, length, refl, sym, ◌∙◌, ap, arith, add-zero}
use Rattle.std.specs.Prelude.{if◌then◌else◌, ◌==◌}
use Rattle.std.proofs.lemmas.Bool.Decides.{nat_tests}
use Rattle.std.proofs.Math.Nat.{pow-suc}
use Rattle.std.proofs.lemmas.Nat.{div-mul-add, mod-mul-add}
use Rattle.raster_core.specs.Raster.{pixel_at, pixel_left}
use Rattle.raster_core.specs.Lines.{Lines, binary, three_line, two_line, adaptive}
use Rattle.raster_core.specs.Machine.Registers.{bit, before, AreAt}
use Rattle.raster_core.proofs.PixelNumbersSplit.{before_suc, bit_lt, before_lt, before_part, before_far, before_zero, above_low, left_at, left_along, low_part, shifted_div}

pub binary_bit : (b : Bool) (bits : List Bool) → binary (b ∷ bits) ≡ bit b * 2 ^ length bits + binary bits
binary_bit true bits = omega arith
binary_bit false bits = omega arith

pub binary_ten : (b9 b8 b7 b6 b5 b4 b3 b2 b1 b0 : Bool) →
    binary (b9 ∷ b8 ∷ b7 ∷ b6 ∷ b5 ∷ b4 ∷ b3 ∷ b2 ∷ b1 ∷ b0 ∷ [])
    ≡ bit b9 * 512 + bit b8 * 256 + bit b7 * 128 + bit b6 * 64 + bit b5 * 32 + bit b4 * 16 + bit b3 * 8 + bit b2 * 4 + bit b1 * 2 + bit b0
binary_ten b9 b8 b7 b6 b5 b4 b3 b2 b1 b0 = simp binary_bit (omega arith)

-- one pixel of a register
pub past_bit : (row : List Bool) (x d m : ℕ) → before row x (d + suc m) / 2 ^ m % 2 ≡ bit (pixel_left row x (suc m))
past_bit row x d m =
    let a = above_low row x d (suc m) in
    let f = before_far row x m in
    let p = pow-suc 2 m in
    let t : a.0 * 2 ^ suc m ≡ (a.0 * 2) * 2 ^ m = rw p (omega arith) in
    let e : before row x (d + suc m) ≡ (a.0 * 2 + bit (pixel_left row x (suc m))) * 2 ^ m + before row x m = omega (arith, a.1, f, t) in
    rw (e, div-mul-add (a.0 * 2 + bit (pixel_left row x (suc m))) (2 ^ m) (before row x m) (before_lt row x m))
    (mod-mul-add a.0 2 (bit (pixel_left row x (suc m))) (bit_lt (pixel_left row x (suc m))))

-- some pixels of a register, the last of which is m pixels before the register's
part_of : {register : ℕ} (row : List Bool) (x d l m : ℕ) → register ≡ before row (x + m) ((d + l) + m) → register / 2 ^ m % 2 ^ l ≡ before row x l
part_of row x d l m e = rw e (before_part row x d l m)

second_part : {lines : Lines} {offset second above past x : ℕ} → AreAt lines offset second above past x → second / 2 ^ 7 % 8 ≡ before lines.second (x + 2) 3
second_part {lines} {x = x} r =
    let few = r.few in
    let place : x + (r.left + 2) ≡ (x + 2) + r.left = omega arith in
    let size : 17 ≡ ((14 - r.left) + 3) + r.left = omega arith in
    rw (r.second_is, shifted_div (before lines.second (x + (r.left + 2)) 17) r.left 0 r.few, add-zero r.left)
    (part_of lines.second (x + 2) (14 - r.left) 3 r.left (rw (place, size) refl))

-- the pixels up to the second one to the right, in the row above
above_part : {lines : Lines} {offset second above past x : ℕ} (l : ℕ) → AreAt lines offset second above past x → l ≤ 6 → above / 2 ^ 7 % 2 ^ l ≡ before lines.above (x + 3) l
above_part {lines} {x = x} l r h =
    let few = r.few in
    let place : x + (r.left + 3) ≡ (x + 3) + r.left = omega arith in
    let size : 18 ≡ (((18 - l) - r.left) + l) + r.left = omega arith in
    rw (r.above_is, shifted_div (before lines.above (x + (r.left + 3)) 18) r.left 0 r.few, add-zero r.left)
    (part_of lines.above (x + 3) ((18 - l) - r.left) l r.left (ap (λ z. before lines.above z 18) place ∙ ap (λ k. before lines.above ((x + 3) + r.left) k) size))

-- those up to the next one
above_next : {lines : Lines} {offset second above past x : ℕ} (l : ℕ) → AreAt lines offset second above past x → l ≤ 5 → above / 2 ^ 8 % 2 ^ l ≡ before lines.above (x + 2) l
above_next {lines} {x = x} l r h =
    let few = r.few in
    let place : x + (r.left + 3) ≡ (x + 2) + (r.left + 1) = omega arith in
    let size : 18 ≡ (((17 - l) - r.left) + l) + (r.left + 1) = omega arith in
    rw (r.above_is, shifted_div (before lines.above (x + (r.left + 3)) 18) r.left 1 r.few)
    (part_of lines.above (x + 2) ((17 - l) - r.left) l (r.left + 1) (rw (place, size) refl))

-- ---- the adaptive pixel

pub adaptive_moved : {lines : Lines} {second above past x t : ℕ} → AreAt lines (suc t) second above past x → t < 127 → past / 2 ^ t % 2 ≡ bit (adaptive lines (suc t) x)
adaptive_moved {lines} {past = past} {x} {t} r h =
    let size : 128 ≡ (127 - t) + suc t = omega arith in
    let is : past ≡ before lines.row x ((127 - t) + suc t) = rw (r.past_is, size) refl in
    let test : (suc t == 0) ≡ false = grind (arith, nat_tests) in
    rw is (past_bit lines.row x (127 - t) t ∙ ap (λ b. bit (if b then pixel_at lines.above (x + 2) else pixel_left lines.row x (suc t))) (sym test))

-- ---- the context

three_of : (row : List Bool) (x : ℕ) → before row (x + 2) 3 ≡ bit (pixel_left row x 1) * 4 + bit (pixel_at row x) * 2 + bit (pixel_at row (x + 1))
three_of row x =
    let e : x + 2 ≡ (x + 1) + 1 = omega arith in
    let l1 : pixel_left row (x + 2) 1 ≡ pixel_at row (x + 1) = rw e (left_at row (x + 1) 1) in
    let l2 = left_at row x 2 in
    let l3 = left_along row x 1 2 in
    before_far row (x + 2) 2 ∙ rw (before_far, before_far, before_zero, l1, l2, l3) (omega arith)

four_of : (row : List Bool) (x : ℕ) → before row (x + 2) 4 ≡ bit (pixel_left row x 2) * 8 + before row (x + 2) 3
four_of row x = before_far row (x + 2) 3 ∙ rw (left_along row x 2 2) refl

five_of : (row : List Bool) (x : ℕ) → before row (x + 2) 5 ≡ bit (pixel_left row x 3) * 16 + before row (x + 2) 4
five_of row x = before_far row (x + 2) 4 ∙ rw (left_along row x 3 2) refl

two_before : (row : List Bool) (x : ℕ) → before row x 2 ≡ bit (pixel_left row x 2) * 2 + bit (pixel_left row x 1)
two_before row x = before_far row x 1 ∙ rw (before_far, before_zero) (omega arith)

four_before : (row : List Bool) (x : ℕ) → before row x 4 ≡ bit (pixel_left row x 4) * 8 + bit (pixel_left row x 3) * 4 + before row x 2
four_before row x = before_far row x 3 ∙ rw before_far (omega arith)

row_two : {lines : Lines} {offset second above past x : ℕ} → AreAt lines offset second above past x → past % 4 ≡ bit (pixel_left lines.row x 2) * 2 + bit (pixel_left lines.row x 1)
row_two {lines} {offset} {x = x} r = low_part lines.row x offset 2 r.past_is (omega arith) ∙ two_before lines.row x

row_four : {lines : Lines} {offset second above past x : ℕ} → AreAt lines offset second above past x →
    past % 16 ≡ bit (pixel_left lines.row x 4) * 8 + bit (pixel_left lines.row x 3) * 4 + (bit (pixel_left lines.row x 2) * 2 + bit (pixel_left lines.row x 1))
row_four {lines} {offset} {x = x} r =
    rw (low_part lines.row x offset 4 r.past_is (omega arith), four_before, two_before) refl

above_four_of : (row : List Bool) (x : ℕ) → before row (x + 2) 4 ≡ bit (pixel_left row x 2) * 8 + (bit (pixel_left row x 1) * 4 + bit (pixel_at row x) * 2 + bit (pixel_at row (x + 1)))
above_four_of row x = rw (four_of, three_of) refl

above_five_of : (row : List Bool) (x : ℕ) →
    before row (x + 2) 5 ≡ bit (pixel_left row x 3) * 16 + (bit (pixel_left row x 2) * 8 + (bit (pixel_left row x 1) * 4 + bit (pixel_at row x) * 2 + bit (pixel_at row (x + 1))))
above_five_of row x = rw (five_of, above_four_of) refl

-- one pixel more to the right
one_right : (row : List Bool) (x k : ℕ) → before row (x + 3) (suc k) ≡ 2 * before row (x + 2) k + bit (pixel_at row (x + 2))
one_right row x k =
    let e : x + 3 ≡ suc (x + 2) = omega arith in
    rw e (before_suc row (x + 2) k)

pub three_line_moved : {lines : Lines} {offset second above past x : ℕ} → AreAt lines offset second above past x →
    second / 2 ^ 7 % 8 * 128 + above / 2 ^ 8 % 16 * 8 + bit (adaptive lines offset x) * 4 + past % 4 ≡ binary (three_line lines offset x)
three_line_moved {lines} {x = x} r =
    let s = second_part r ∙ three_of lines.second x in
    let a = above_next 4 r (omega arith) ∙ above_four_of lines.above x in
    let p = row_two r in
    rw (binary_ten, s, a, p) (omega arith)

pub two_line_moved : {lines : Lines} {offset second above past x : ℕ} → AreAt lines offset second above past x →
    above / 2 ^ 8 % 32 * 32 + bit (adaptive lines offset x) * 16 + past % 16 ≡ binary (two_line lines offset x)
two_line_moved {lines} {x = x} r =
    let a = above_next 5 r (omega arith) ∙ above_five_of lines.above x in
    let p = row_four r in
    rw (binary_ten, a, p) (omega arith)

pub three_line_nominal : {lines : Lines} {second above past x : ℕ} → AreAt lines 0 second above past x →
    second / 2 ^ 7 % 8 * 128 + above / 2 ^ 7 % 32 * 4 + past % 4 ≡ binary (three_line lines 0 x)
three_line_nominal {lines} {x = x} r =
    let s = second_part r ∙ three_of lines.second x in
    let a = above_part 5 r (omega arith) ∙ (one_right lines.above x 4 ∙ ap (λ z. 2 * z + bit (pixel_at lines.above (x + 2))) (above_four_of lines.above x)) in
    let p = row_two r in
    rw (binary_ten, s, a, p) (omega arith)

pub two_line_nominal : {lines : Lines} {second above past x : ℕ} → AreAt lines 0 second above past x →
    above / 2 ^ 7 % 64 * 16 + past % 16 ≡ binary (two_line lines 0 x)
two_line_nominal {lines} {x = x} r =
    let a = above_part 6 r (omega arith) ∙ (one_right lines.above x 5 ∙ ap (λ z. 2 * z + bit (pixel_at lines.above (x + 2))) (above_five_of lines.above x)) in
    let p = row_four r in
    rw (binary_ten, a, p) (omega arith)
