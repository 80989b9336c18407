-- Bytes of one colour.
use Rattle.std.proofs.Common.{◌≡◌, ℕ, zero, suc, ◌+◌, ◌-◌, ◌*◌, ◌/◌, ◌%◌, ◌^◌, ◌<◌, Bool, true, false, List, [], ◌∷◌, ◌++◌, refl, ◌∙◌, ap, arith, replicate}
use Rattle.std.proofs.lemmas.List.{replicate-append-replicate}
use Rattle.raster_core.specs.Raster.{pixel_at}
use Rattle.raster_core.specs.Machine.Registers.{bit, before, past_bits}
use Rattle.raster_core.proofs.PixelNumbersSplit.{before_split, before_mod}
use Rattle.raster_core.proofs.ContextsStayUniform.{AreLeft, part_left, seen_at}

pub one_more : {A : Type 0} (n : ℕ) (a : A) → replicate n a ++ a ∷ [] ≡ replicate (suc n) a
one_more n a =
    let e : n + 1 ≡ suc n = omega arith in
    rw (replicate-append-replicate n 1 a, e) refl

-- ---- a byte of one colour

past_size : (offset : ℕ) → past_bits offset ≡ 8 + (past_bits offset - 8)
past_size zero = refl
past_size (suc t) = refl

pub past_run : {past byte : ℕ} (row : List Bool) (offset x : ℕ) → past ≡ before row x (past_bits offset) → byte ≡ before row (x + 8) 8 →
    past % 2 ^ (past_bits offset - 8) * 256 + byte ≡ before row (x + 8) (past_bits offset)
past_run {past} row offset x p b =
    let low : past % 2 ^ (past_bits offset - 8) ≡ before row x (past_bits offset - 8) =
    ap (λ z. z % 2 ^ (past_bits offset - 8)) (p ∙ ap (λ w. before row x w) (past_size offset)) ∙ before_mod row x 8 (past_bits offset - 8) in
    let size : (past_bits offset - 8) + 8 ≡ past_bits offset = omega (arith, past_size offset) in
    rw (low, b, ← before_split row x (past_bits offset - 8) 8, size) refl

-- the pixels of a byte of one colour
pub own_pixels : (row : List Bool) (byte x : ℕ) (c : Bool) → byte ≡ bit c * 255 → byte ≡ before row (x + 8) 8 → (k : ℕ) → k < 8 → pixel_at row (x + k) ≡ c
own_pixels row byte x c colour is k few =
    let all : AreLeft row (x + 8) 0 8 c = part_left 8 is (omega arith) (rw colour (small c)) in
    seen_at all (x + k) (omega arith) (omega arith)
  where
    small : (c : Bool) → bit c * 255 / 2 ^ 0 % 256 ≡ bit c * 255
    small true = refl
    small false = refl
