-- A byte's moved adaptive pixels in a register.
use Rattle.std.proofs.Common.{◌≡◌, ℕ, zero, suc, ◌+◌, ◌-◌, ◌*◌, ◌/◌, ◌%◌, ◌^◌, ◌<◌, ◌≤◌, Bool, List, sym, arith, refl}
use Rattle.std.proofs.Math.Nat.{div-div-eq-div-mul}
use Rattle.std.proofs.lemmas.Nat.{pow-add}
use Rattle.raster_core.specs.Raster.{pixel_left}
use Rattle.raster_core.specs.Machine.Registers.{before, bit}
use Rattle.raster_core.proofs.PixelNumbersSplit.{before_split, before_mod, left_along}
use Rattle.raster_core.proofs.RegistersGiveContexts.{past_bit}
use Rattle.raster_core.proofs.ByteHoldsPixels.{byte_shifted}

low_bit : (f i : ℕ) → i < 8 → f % 256 / 2 ^ i % 2 ≡ f / 2 ^ i % 2
low_bit f zero h = omega arith
low_bit f (suc zero) h = omega arith
low_bit f (suc (suc zero)) h = omega arith
low_bit f (suc (suc (suc zero))) h = omega arith
low_bit f (suc (suc (suc (suc zero)))) h = omega arith
low_bit f (suc (suc (suc (suc (suc zero))))) h = omega arith
low_bit f (suc (suc (suc (suc (suc (suc zero)))))) h = omega arith
low_bit f (suc (suc (suc (suc (suc (suc (suc zero))))))) h = omega arith
low_bit f (suc (suc (suc (suc (suc (suc (suc (suc i)))))))) h = absurd (omega arith)

shifted_twice : (a m n : ℕ) → a / 2 ^ m / 2 ^ n ≡ a / 2 ^ (m + n)
shifted_twice a m n = rw (div-div-eq-div-mul, ← pow-add) refl

-- all that they read lies before the byte
pub far_before : (row : List Bool) (offset past x j : ℕ) → 8 ≤ offset → offset ≤ 127 → past ≡ before row x 128 → j < 8 →
    past / 2 ^ (offset - 8) % 256 * 2 ^ j / 2 ^ 7 % 2 ≡ bit (pixel_left row (x + j) offset)
far_before row offset past x j least most is few =
    let m : ℕ = (offset - 8) + (7 - j) in
    let size : 128 ≡ (127 - m) + suc m = omega arith in
    let back : suc m ≡ offset - j = omega arith in
    let whole : (offset - j) + j ≡ offset = omega arith in
    rw (byte_shifted (past / 2 ^ (offset - 8) % 256) j few, low_bit (past / 2 ^ (offset - 8)) (7 - j) (omega arith), shifted_twice, is, size, past_bit, back)
    (rw (← left_along row x (offset - j) j, whole) refl)

-- some of them lie in the byte
pub far_within : (row : List Bool) (offset past byte x j : ℕ) → offset < 8 → past ≡ before row x 128 → byte ≡ before row (x + 8) 8 → j < 8 →
    (past % 256 * 256 + byte) / 2 ^ offset * 2 ^ j / 2 ^ 7 % 2 ≡ bit (pixel_left row (x + j) offset)
far_within row offset past byte x j small is own few =
    let m : ℕ = offset + (7 - j) in
    let low : past % 256 ≡ before row x 8 = rw is (before_mod row x 120 8) in
    let register : past % 256 * 256 + byte ≡ before row (x + 8) 16 = rw (low, own) (sym (before_split row x 8 8)) in
    let size : 16 ≡ (15 - m) + suc m = omega arith in
    let back : suc m ≡ offset + (8 - j) = omega arith in
    let place : x + 8 ≡ (x + j) + (8 - j) = omega arith in
    rw (byte_shifted, shifted_twice, register, size, past_bit, back, place, left_along) refl
