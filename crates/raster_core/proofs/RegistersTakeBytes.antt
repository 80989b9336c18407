-- Rows in bytes, and registers that take a byte in.
use Rattle.std.proofs.Common.{◌≡◌, ℕ, zero, suc, ◌+◌, ◌-◌, ◌*◌, ◌/◌, ◌%◌, ◌^◌, ◌<◌, ◌≤◌, Bool, false, inl, inr, List, length, refl, sym, ◌∙◌, ap, arith, get_or}
use Rattle.std.specs.Prelude.{map, slice_index}
use Rattle.std.proofs.lemmas.Bool.{cases_lt}
use Rattle.std.proofs.lemmas.List.{length-map, ext_get_or}
use Rattle.std.proofs.Math.ListN.{get_or-eq_default}
use Rattle.std.proofs.Math.Nat.{mod-eq_of_lt}
use Rattle.raster_core.specs.Raster.{pixel_at}
use Rattle.raster_core.specs.Lines.{numbers_from, binary}
use Rattle.raster_core.specs.Packed.{row_bytes, packed_row}
use Rattle.raster_core.specs.Machine.Registers.{before, past_bits}
use Rattle.raster_core.proofs.PixelNumbersSplit.{before_div, before_suc, before_lt, before_none, before_zero, before_mod, before_far, before_split, left_at, low_part}
use Rattle.raster_core.proofs.RegistersGiveContexts.{binary_bit}

pub length-numbers : (k n : ℕ) → length (numbers_from k n) ≡ n
length-numbers k zero = refl
length-numbers k (suc n) = ap suc (length-numbers (k + 1) n)

pub get_or-numbers : {A : Type 0} (f : ℕ → A) (k n i : ℕ) (d : A) → i < n → get_or (map f (numbers_from k n)) i d ≡ f (k + i)
get_or-numbers f k zero i d h = absurd (omega arith)
get_or-numbers f k (suc n) zero d h = ap f (let e : k ≡ k + 0 = omega arith in e)
get_or-numbers f k (suc n) (suc i) d h = get_or-numbers f (k + 1) n i d (omega arith) ∙ ap f (let e : (k + 1) + i ≡ k + suc i = omega arith in e)

pub binary_before : (row : List Bool) (x n : ℕ) → binary (map (pixel_at row) (numbers_from x n)) ≡ before row (x + n) n
binary_before row x zero = sym (before_zero row (x + 0))
binary_before row x (suc n) =
    let long = length-map (numbers_from (x + 1) n) (pixel_at row) ∙ length-numbers (x + 1) n in
    let e : (x + 1) + n ≡ x + suc n = omega arith in
    let rest : binary (map (pixel_at row) (numbers_from (x + 1) n)) ≡ before row (x + suc n) n = rw (binary_before row (x + 1) n, e) refl in
    binary_bit (pixel_at row x) (map (pixel_at row) (numbers_from (x + 1) n))
    ∙ (rw (long, rest, ← left_at row x (suc n)) (sym (before_far row (x + suc n) n)))

-- white right of the row
pub before_white : (row : List Bool) (x k : ℕ) → length row ≤ x → before row (x + k) k ≡ 0
before_white row x zero h = before_zero row (x + 0)
before_white row x (suc k) h =
    let e : x + suc k ≡ suc (x + k) = omega arith in
    let far : length row ≤ x + k = omega arith in
    let white = get_or-eq_default row false far in
    rw (e, before_suc row (x + k) k, before_white row x k h, white) refl

pub packed-length : (row : List Bool) → length (packed_row row) ≡ row_bytes (length row)
packed-length row = length-map _ _ ∙ length-numbers 0 (row_bytes (length row))

pub packed_byte : (row : List Bool) (i : ℕ) → slice_index (packed_row row) i ≡ before row (8 * i + 8) 8
packed_byte row i =
    elim (cases_lt i (row_bytes (length row))) [
      | inl inside ↦
          get_or-numbers (λ k. binary (map (pixel_at row) (numbers_from (8 * k) 8))) 0 (row_bytes (length row)) i 0 inside
          ∙ (let e : 0 + i ≡ i = omega arith in rw e (binary_before row (8 * i) 8))
      | inr outside ↦
          let far : length (packed_row row) ≤ i = omega (arith, packed-length row) in
          let white : length row ≤ 8 * i = omega arith in
          get_or-eq_default (packed_row row) 0 far ∙ sym (before_white row (8 * i) 8 white)
    ]

pub packed_is : (row : List Bool) (bytes : List ℕ) → length bytes ≡ row_bytes (length row) → ((k : ℕ) → k < length bytes → slice_index bytes k ≡ before row (8 * k + 8) 8) → bytes ≡ packed_row row
packed_is row bytes long each =
    ext_get_or 0 bytes (packed_row row) (long ∙ sym (packed-length row)) (λ k h. each k h ∙ sym (packed_byte row k))

-- a row has the pixels of these bytes
pub record IsIn (row : List Bool) (bytes : List ℕ) : Type 0 where
  pub byte : (k : ℕ) → before row (8 * k + 8) 8 ≡ slice_index bytes k % 256

pub packed_in : {row : List Bool} {bytes : List ℕ} → bytes ≡ packed_row row → IsIn row bytes
packed_in {row} is = record { byte = λ k. rw (← mod-eq_of_lt (before_lt row (8 * k + 8) 8), ← packed_byte row k, ← is) refl }

-- ---- registers

pub first_byte : (row : List Bool) → before row 8 8 ≡ before row 8 24
first_byte row = sym (before_split row 0 16 8 ∙ rw before_none (omega arith))

pub byte_in : {register : ℕ} (row : List Bool) (i : ℕ) → register ≡ before row (8 * i + 8) 24 → register % 65536 * 256 + before row (8 * (i + 1) + 8) 8 ≡ before row (8 * (i + 1) + 8) 24
byte_in {register} row i h =
    let low : register % 65536 ≡ before row (8 * i + 8) 16 = rw h (before_mod row (8 * i + 8) 8 16) in
    let e : (8 * i + 8) + 8 ≡ 8 * (i + 1) + 8 = omega arith in
    let s : before row (8 * (i + 1) + 8) 24 ≡ before row (8 * i + 8) 16 * 256 + before row (8 * (i + 1) + 8) 8 =
    rw (← e) (before_split row (8 * i + 8) 16 8) in
    rw low (sym s)

-- the byte of a row whose last n pixels are in it
pub byte_out : {past : ℕ} (done : List Bool) (offset i n : ℕ) → past ≡ before done (length done) (past_bits offset) → length done ≡ 8 * i + n → n ≤ 8 →
    past % 256 * 2 ^ (8 - n) % 256 ≡ before done (8 * i + 8) 8
byte_out done offset i n h long few =
    let low = low_part done (length done) offset 8 h (omega arith) in
    let s = before_split done (length done) 8 (8 - n) in
    let white = before_white done (length done) (8 - n) (omega arith) in
    let e : length done + (8 - n) ≡ 8 * i + 8 = omega arith in
    let c : 8 + (8 - n) ≡ (8 - n) + 8 = omega arith in
    let m : before done (length done) 8 * 2 ^ (8 - n) ≡ before done (8 * i + 8) ((8 - n) + 8) =
    sym (rw (← e) (ap (λ k. before done (length done + (8 - n)) k) (sym c) ∙ (s ∙ rw white (omega arith)))) in
    rw (low, m) (before_mod done (8 * i + 8) (8 - n) 8)

-- a register from its three bytes
two_bytes : (row : List Bool) (k : ℕ) → before row (8 * k + 8) 8 * 256 + before row (8 * k + 16) 8 ≡ before row (8 * k + 16) 16
two_bytes row k =
    let e : (8 * k + 8) + 8 ≡ 8 * k + 16 = omega arith in
    sym (rw (← e) (before_split row (8 * k + 8) 8 8))

pub three_bytes : (row : List Bool) (k : ℕ) → (before row (8 * k + 8) 8 * 65536 + before row (8 * k + 16) 8 * 256) + before row (8 * k + 24) 8 ≡ before row (8 * k + 24) 24
three_bytes row k =
    let e : (8 * k + 16) + 8 ≡ 8 * k + 24 = omega arith in
    let s : before row (8 * k + 24) 24 ≡ before row (8 * k + 16) 16 * 256 + before row (8 * k + 24) 8 =
    rw (← e) (before_split row (8 * k + 16) 16 8) in
    omega (arith, s, two_bytes row k)

pub second_byte : (row : List Bool) → before row 8 8 * 256 + before row 16 8 ≡ before row 16 24
second_byte row =
    let a = before_split row 8 16 8 in
    let b = before_split row 0 8 8 in
    omega (arith, a, b, before_none row 8)

-- a register moves on by some pixels of the next byte
pub moves_on : (row : List Bool) (i k register next : ℕ) → k < 8 → register ≡ before row (8 * i + 16) 24 → next ≡ before row (8 * i + 24) 8 →
    (register * 2 ^ k + next / 2 ^ (8 - k)) % 2 ^ 24 ≡ before row ((8 * i + k) + 16) 24
moves_on row i k register next few r n =
    let e : ((8 * i + k) + 16) + (8 - k) ≡ 8 * i + 24 = omega arith in
    let w : k + (8 - k) ≡ 8 = omega arith in
    let low : next / 2 ^ (8 - k) ≡ before row ((8 * i + k) + 16) k =
    ap (λ z. z / 2 ^ (8 - k)) (n ∙ ap (λ x. before row x 8) (sym e) ∙ ap (λ z. before row (((8 * i + k) + 16) + (8 - k)) z) (sym w)) ∙ before_div row ((8 * i + k) + 16) k (8 - k) in
    let f : (8 * i + 16) + k ≡ (8 * i + k) + 16 = omega arith in
    let c : 24 + k ≡ k + 24 = omega arith in
    let s : before row ((8 * i + k) + 16) (k + 24) ≡ register * 2 ^ k + before row ((8 * i + k) + 16) k =
    rw (← f) (ap (λ z. before row ((8 * i + 16) + k) z) (sym c) ∙ (before_split row (8 * i + 16) 24 k ∙ ap (λ z. z * 2 ^ k + before row ((8 * i + 16) + k) k) (sym r))) in
    rw low (ap (λ z. z % 2 ^ 24) (sym s) ∙ before_mod row ((8 * i + k) + 16) k 24)
