-- The pixels of a byte, one after another.
use Rattle.std.proofs.Common.{◌≡◌, ℕ, zero, suc, ◌+◌, ◌-◌, ◌*◌, ◌/◌, ◌%◌, ◌^◌, ◌<◌, Bool, true, false, List, refl, ◌∙◌, ap, arith, add-zero}
use Rattle.std.specs.Prelude.{nat_eq}
use Rattle.raster_core.specs.Raster.{pixel_at}
use Rattle.raster_core.specs.Lines.{Lines}
use Rattle.raster_core.specs.Machine.Registers.{bit, before, past_bits, AreAt, ByteAt}
use Rattle.raster_core.proofs.PixelNumbersSplit.{shifted_div, second_in, above_in, before_suc, before_part, before_mod, before_far, before_zero, left_at}

-- the pixel in a byte
pub pixel_in : {byte : ℕ} (row : List Bool) (x n : ℕ) → byte ≡ before row (x + 8) 8 → n < 8 → byte / 2 ^ (7 - n) % 2 ≡ bit (pixel_at row (x + n))
pixel_in {byte} row x n h few =
    let place : x + 8 ≡ ((x + n) + 1) + (7 - n) = omega arith in
    let size : 8 ≡ (n + 1) + (7 - n) = omega arith in
    let is : byte ≡ before row (((x + n) + 1) + (7 - n)) ((n + 1) + (7 - n)) = rw (h, place, size) refl in
    rw is (before_part row ((x + n) + 1) n 1 (7 - n) ∙ (before_far row ((x + n) + 1) 0 ∙ rw (before_zero, left_at) (omega arith)))

pub byte_shifted : (byte n : ℕ) → n < 8 → byte * 2 ^ n / 2 ^ 7 ≡ byte / 2 ^ (7 - n)
byte_shifted byte n h =
    let back : n ≡ 7 - (7 - n) = omega arith in
    ap (λ k. byte * 2 ^ k / 2 ^ 7) back ∙ (rw (shifted_div byte (7 - n) 0 (omega arith), add-zero (7 - n)) refl)

pub bit_test : (b : Bool) (k : ℕ) → k ≡ bit b → nat_eq k 1 ≡ b
bit_test true k h = rw h refl
bit_test false k h = rw h refl

past_at : (row : List Bool) (past x v : ℕ) → past ≡ before row x (suc v) → past % 2 ^ v * 2 + bit (pixel_at row x) ≡ before row (x + 1) (suc v)
past_at row past x v h =
    let e : x + 1 ≡ suc x = omega arith in
    let one : suc v ≡ 1 + v = omega arith in
    let low : past % 2 ^ v ≡ before row x v = rw (h, one) (before_mod row x 1 v) in
    rw (e, before_suc, low) (omega arith)

-- the pixels before the next one
pub past_on : {past : ℕ} (row : List Bool) (offset x : ℕ) → past ≡ before row x (past_bits offset) →
    past % 2 ^ (past_bits offset - 1) * 2 + bit (pixel_at row x) ≡ before row (x + 1) (past_bits offset)
past_on row zero x h = past_at row _ x 63 h
past_on row (suc t) x h = past_at row _ x 127 h

pub at_registers : {lines : Lines} {offset second above byte past x : ℕ} (n : ℕ) → n < 8 → ByteAt lines second above byte x → past ≡ before lines.row (x + n) (past_bits offset) →
    AreAt lines offset (second / 2 ^ 7 * 2 ^ n) (above / 2 ^ 6 * 2 ^ n) past (x + n)
at_registers {lines} {x = x} n h b p =
    let e : (x + n) + ((7 - n) + 2) ≡ x + 9 = omega arith in
    let f : (x + n) + ((7 - n) + 3) ≡ x + 10 = omega arith in
    let back : 7 - (7 - n) ≡ n = omega arith in
    record {
      left = 7 - n;
      few = omega arith;
      second_is = rw (e, back, second_in lines.second x b.second_is) refl;
      above_is = rw (f, back, above_in lines.above x b.above_is) refl;
      past_is = p;
    }
