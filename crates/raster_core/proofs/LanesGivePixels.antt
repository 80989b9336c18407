-- Contexts and pixels from lanes are those of the coordinates.
use Rattle.std.proofs.Common.{◌≡◌, ℕ, zero, suc, ◌+◌, ◌-◌, ◌*◌, ◌/◌, ◌%◌, ◌^◌, ◌<◌, ◌≤◌, Bool, true, false, cond, List, refl, sym, ◌∙◌, ap, arith}
use Rattle.std.specs.Prelude.{◌==◌}
use Rattle.std.proofs.lemmas.Bool.Decides.{nat_tests}
use Rattle.raster_core.specs.Raster.{pixel_at, pixel_left}
use Rattle.raster_core.specs.Lines.{Lines, context_at}
use Rattle.raster_core.specs.Machine.Registers.{before, bit, past_bits, ByteAt}
use Rattle.raster_core.specs.Machine.Lanes.{lane, near, own, HasFar, HasPixels, AreBeside}
use Rattle.raster_core.proofs.PixelNumbersSplit.{before_split, before_div, before_part, low_part}
use Rattle.raster_core.proofs.RegistersGiveContexts.{three_line_nominal, three_line_moved}
use Rattle.raster_core.proofs.ByteHoldsPixels.{byte_shifted, at_registers}

-- the context of a pixel, and the pixel

parts : (lanes v o : ℕ) → v ≤ 1020 → o < 8 → lanes / 1 % 2 ^ 16 ≡ 2 * v + o → (lanes % 0x800 / 2 ≡ v + o / 2) × (lanes % 0x800 % 2 ≡ o % 2)
parts lanes v o hv ho h = (omega arith, omega arith)

first_lane : (lanes : ℕ) (beside : ℕ → ℕ) (row n : ℕ) → HasPixels lanes beside row n 1 → lane lanes 0 ≡ 2 * beside n + own row n
first_lane lanes beside row n has =
    let z : n + 0 ≡ n = omega arith in
    rw (has 0 (omega arith), z) refl

lane_parts : (lanes : ℕ) (beside : ℕ → ℕ) (row n : ℕ) → beside n ≤ 1020 → HasPixels lanes beside row n 1 → (lanes % 0x800 / 2 ≡ beside n + own row n / 2) × (lanes % 0x800 % 2 ≡ own row n % 2)
lane_parts lanes beside row n small has = parts lanes (beside n) (own row n) small (omega arith) (first_lane lanes beside row n has)

bit_of_byte : (p byte n : ℕ) → n < 8 → own (p * 256 + byte) n % 2 ≡ byte * 2 ^ n / 2 ^ 7 % 2
bit_of_byte p byte zero h = omega arith
bit_of_byte p byte (suc zero) h = omega arith
bit_of_byte p byte (suc (suc zero)) h = omega arith
bit_of_byte p byte (suc (suc (suc zero))) h = omega arith
bit_of_byte p byte (suc (suc (suc (suc zero)))) h = omega arith
bit_of_byte p byte (suc (suc (suc (suc (suc zero))))) h = omega arith
bit_of_byte p byte (suc (suc (suc (suc (suc (suc zero)))))) h = omega arith
bit_of_byte p byte (suc (suc (suc (suc (suc (suc (suc zero))))))) h = omega arith
bit_of_byte p byte (suc (suc (suc (suc (suc (suc (suc (suc n)))))))) h = absurd (omega arith)

pub lane_pixel : (lanes : ℕ) (beside : ℕ → ℕ) (past₀ byte n : ℕ) → n < 8 → beside n ≤ 1020 → HasPixels lanes beside (past₀ % 256 * 256 + byte) n 1 → lanes % 0x800 % 2 ≡ byte * 2 ^ n / 2 ^ 7 % 2
lane_pixel lanes beside past₀ byte n few small has = (lane_parts lanes beside (past₀ % 256 * 256 + byte) n small has).1 ∙ bit_of_byte (past₀ % 256) byte n few

-- the two pixels before, in a register of two bytes
own_before : {past₀ byte past : ℕ} (row : List Bool) (offset x n : ℕ) → n < 8 → past₀ ≡ before row x (past_bits offset) → byte ≡ before row (x + 8) 8 →
    past ≡ before row (x + n) (past_bits offset) → own (past₀ % 256 * 256 + byte) n / 2 ≡ past % 4
own_before {past₀} {byte} row offset x n few p₀ b p =
    let register : past₀ % 256 * 256 + byte ≡ before row (x + 8) 16 =
    rw (low_part row x offset 8 p₀ (omega arith), b) (sym (before_split row x 8 8)) in
    let place : x + 8 ≡ ((x + n) + 1) + (7 - n) = omega arith in
    let size : 16 ≡ ((6 + n) + 3) + (7 - n) = omega arith in
    let three : own (past₀ % 256 * 256 + byte) n ≡ before row ((x + n) + 1) 3 =
    rw (byte_shifted, register, place, size) (before_part row ((x + n) + 1) (6 + n) 3 (7 - n)) in
    rw (three, before_div row (x + n) 2 1) (sym (low_part row (x + n) offset 2 p (omega arith)))

pub pixels_context : {beside : ℕ → ℕ} {offset second above past₀ byte cx x : ℕ} {lines : Lines} (typical : Bool) (lanes n : ℕ) → n < 8 → AreBeside beside offset second above byte past₀ →
    HasPixels lanes beside (past₀ % 256 * 256 + byte) n 1 → cx ≡ lanes % 0x800 / 2 →
    ByteAt lines second above byte x → past₀ ≡ before lines.row x (past_bits offset) →
    cx ≡ context_at (record { two_line = false; typical = typical }) lines offset (x + n)
pixels_context {beside} {past₀ = past₀} {byte} {x = x} {lines} typical lanes n few are has cx_is b p₀ =
    cx_is ∙ ((lane_parts lanes beside (past₀ % 256 * 256 + byte) n (are.small n) has).0 ∙ are.contexts typical lines x n few b p₀)

-- what stands beside the two pixels before a pixel

pub beside_nominal : (far second above byte past₀ : ℕ) → AreBeside (near false second above far) 0 second above byte past₀
beside_nominal far second above byte past₀ = record {
  small = λ j. omega arith;
  contexts = λ typical lines x j few b p₀.
      let past = before lines.row (x + j) 64 in
      rw (own_before lines.row 0 x j few p₀ b.byte_is refl) (three_line_nominal (at_registers j few b refl));
}

pub beside_moved : (t far second above byte past₀ : ℕ) → HasFar far (suc t) past₀ byte → AreBeside (near true second above far) (suc t) second above byte past₀
beside_moved t far second above byte past₀ has = record {
  small = λ j. omega arith;
  contexts = λ typical lines x j few b p₀.
      let past = before lines.row (x + j) 128 in
      let r = at_registers j few b refl in
      let test : (suc t == 0) ≡ false = grind (arith, nat_tests) in
      let adaptive_is = has lines.row x j p₀ b.byte_is few ∙ ap (λ v. bit (cond v (pixel_at lines.above ((x + j) + 2)) (pixel_left lines.row (x + j) (suc t)))) (sym test) in
      rw (own_before lines.row (suc t) x j few p₀ b.byte_is refl, adaptive_is) (three_line_moved r);
}
