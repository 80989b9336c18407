-- Pixels among pixels of their own colour.
use Rattle.std.proofs.Common.{◌≡◌, ℕ, zero, suc, ◌+◌, ◌-◌, ◌*◌, ◌/◌, ◌%◌, ◌^◌, ◌<◌, ◌≤◌, Bool, true, false, inl, inr, List, [], ◌∷◌, refl, sym, ◌∙◌, ap, arith}
use Rattle.std.specs.Prelude.{if◌then◌else◌, ◌==◌}
use Rattle.std.proofs.Math.Nat.{pow-suc, mod-lt, div-div-eq-div-mul}
use Rattle.std.proofs.lemmas.Nat.{pow_pos, pow-add, mod-pow-add}
use Rattle.std.proofs.lemmas.Bool.Decides.{nat_tests}
use Rattle.std.proofs.lemmas.Bool.{cases_lt}
use Rattle.raster_core.specs.Raster.{pixel_at, pixel_left}
use Rattle.raster_core.specs.Machine.Registers.{bit, before, past_bits}
use Rattle.raster_core.specs.Lines.{Lines, Mode, binary, three_line, two_line, adaptive}
use Rattle.raster_core.specs.Machine.Uniform.{uniform_context, StaysUniform}
use Rattle.raster_core.proofs.PixelNumbersSplit.{left_at, left_along, bit_same, least}
use Rattle.raster_core.proofs.RegistersGiveContexts.{past_bit}

-- ---- bits of one colour

top_bit : (c : Bool) (b p low : ℕ) → b < 2 → low < p → b * p + low ≡ bit c * (p * 2 - 1) → (b ≡ bit c) × (low ≡ bit c * (p - 1))
top_bit true zero p low few small h = absurd (omega arith)
top_bit true (suc zero) p low few small h = (refl, omega arith)
top_bit true (suc (suc b)) p low few small h = absurd (omega arith)
top_bit false zero p low few small h = (refl, omega arith)
top_bit false (suc zero) p low few small h = absurd (omega arith)
top_bit false (suc (suc b)) p low few small h = absurd (omega arith)

bit_of : (c : Bool) (r l k : ℕ) → r % 2 ^ l ≡ bit c * (2 ^ l - 1) → k < l → r / 2 ^ k % 2 ≡ bit c
bit_of c r zero k h few = absurd (omega arith)
bit_of c r (suc l) k h few =
    let one : suc l ≡ 1 + l = omega arith in
    let parts : r % 2 ^ suc l ≡ (r / 2 ^ l % 2) * 2 ^ l + r % 2 ^ l = rw one (mod-pow-add r 1 l) in
    let twice = pow-suc 2 l in
    let t = top_bit c (r / 2 ^ l % 2) (2 ^ l) (r % 2 ^ l) (omega arith) (mod-lt r (pow_pos l)) (rw (← parts, h, twice) refl) in
    elim (cases_lt k l) [
      | inl below ↦ bit_of c r l k t.1 below
      | inr at ↦ let e : l ≡ k = omega arith in rw (← e) t.0
    ]

-- ---- the pixels of a part of a register

-- l pixels from the (m + 1)-th before x on are of this colour
pub record AreLeft (row : List Bool) (x m l : ℕ) (c : Bool) : Type 0 where
  pub any : (k : ℕ) → k < l → pixel_left row x (suc (m + k)) ≡ c

pub part_left : {row : List Bool} {r x m l : ℕ} {c : Bool} (w : ℕ) → r ≡ before row x w → m + l ≤ w → r / 2 ^ m % 2 ^ l ≡ bit c * (2 ^ l - 1) → AreLeft row x m l c
part_left {row} {r} {x} {m} {l} {c} w is within h = record {
  any = λ k few.
      let b = bit_of c (r / 2 ^ m) l k h few in
      let size : w ≡ (w - suc (m + k)) + suc (m + k) = omega arith in
      let one : r / 2 ^ (m + k) % 2 ≡ bit (pixel_left row x (suc (m + k))) = rw (is, size) (past_bit row x (w - suc (m + k)) (m + k)) in
      let two : r / 2 ^ m / 2 ^ k ≡ r / 2 ^ (m + k) = rw (div-div-eq-div-mul, ← pow-add) refl in
      bit_same (pixel_left row x (suc (m + k))) c (rw (← one, ← two) b);
}

-- a pixel among those before `top`
pub seen_left : {row : List Bool} {top m l : ℕ} {c : Bool} → AreLeft row top m l c → (y k : ℕ) → y ≤ top → m + y ≤ k + top → k + top < m + l + y → pixel_left row y (suc k) ≡ c
seen_left {row} {top} {m} h y k before from few =
    let d : ℕ = top - y in
    let at : y + d ≡ top = omega arith in
    let e : suc k + d ≡ suc (m + ((k + d) - m)) = omega arith in
    sym (left_along row y (suc k) d) ∙ (ap (λ z. pixel_left row z (suc k + d)) at ∙ (rw e (h.any ((k + d) - m) (omega arith))))

pub seen_at : {row : List Bool} {top m l : ℕ} {c : Bool} → AreLeft row top m l c → (y : ℕ) → m + suc y ≤ top → top ≤ m + l + y → pixel_at row y ≡ c
seen_at {row} {top} {m} h y from few =
    let d : ℕ = top - suc y in
    let at : y + suc d ≡ top = omega arith in
    let e : suc d ≡ suc (m + (d - m)) = omega arith in
    sym (left_at row y (suc d)) ∙ (ap (λ z. pixel_left row z (suc d)) at ∙ (rw e (h.any (d - m) (omega arith))))

-- a pixel of the row itself, where those from x on are of the colour, too
row_left : {row : List Bool} {x m l : ℕ} {c : Bool} (j : ℕ) → AreLeft row x m l c → ((k : ℕ) → k < j → pixel_at row (x + k) ≡ c) → (k : ℕ) → (j ≤ k → m + j ≤ k) → k < (m + l) + j →
    pixel_left row (x + j) (suc k) ≡ c
row_left {x = x} {m} j h own k from few =
    elim (cases_lt k j) [
      | inl near ↦
          let e : (x + (j - suc k)) + suc k ≡ x + j = omega arith in
          rw (← e, left_at) (own (j - suc k) (omega arith))
      | inr far ↦
          let after = from far in
          let e : suc k ≡ suc (m + ((k - j) - m)) + j = omega arith in
          rw (e, left_along) (h.any ((k - j) - m) (omega arith))
    ]

-- ---- the ten pixels

ten_same : {c b9 b8 b7 b6 b5 b4 b3 b2 b1 b0 : Bool} → b9 ≡ c → b8 ≡ c → b7 ≡ c → b6 ≡ c → b5 ≡ c → b4 ≡ c → b3 ≡ c → b2 ≡ c → b1 ≡ c → b0 ≡ c →
    binary (b9 ∷ b8 ∷ b7 ∷ b6 ∷ b5 ∷ b4 ∷ b3 ∷ b2 ∷ b1 ∷ b0 ∷ []) ≡ uniform_context c
ten_same {c} e9 e8 e7 e6 e5 e4 e3 e2 e1 e0 = rw (e9, e8, e7, e6, e5, e4, e3, e2, e1, e0) (all c)
  where
    all : (c : Bool) → binary (c ∷ c ∷ c ∷ c ∷ c ∷ c ∷ c ∷ c ∷ c ∷ c ∷ []) ≡ uniform_context c
    all true = refl
    all false = refl

-- what the contexts of n pixels from x on read of the rows above, and of the row before x
pub record Reads (lines : Lines) (x n : ℕ) (c : Bool) : Type 0 where
  pub second : AreLeft lines.second (x + n + 8) 7 (n + 2) c
  pub above : AreLeft lines.above (x + n + 8) 6 (n + 5) c
  pub row : AreLeft lines.row x 0 4 c

-- the adaptive pixels of n pixels from x on
abbrev pub Adapts : Lines → ℕ → ℕ → ℕ → Bool → Type 0
Adapts lines offset x n c = (j : ℕ) → j < n → ((k : ℕ) → k < j → pixel_at lines.row (x + k) ≡ c) → adaptive lines offset (x + j) ≡ c

pub stays_uniform : {lines : Lines} {x n : ℕ} {c : Bool} (mode : Mode) (offset : ℕ) → Reads lines x n c → Adapts lines offset x n c → StaysUniform mode lines offset c x n
stays_uniform {lines} {x} {n} {c} mode offset r adapts = λ j few own.
    let a = adapts j few own in
    let s1 = seen_left r.second (x + j) 0 (omega arith) (omega arith) (omega arith) in
    let s0 = seen_at r.second (x + j) (omega arith) (omega arith) in
    let sr = seen_at r.second (x + j + 1) (omega arith) (omega arith) in
    let a3 = seen_left r.above (x + j) 2 (omega arith) (omega arith) (omega arith) in
    let a2 = seen_left r.above (x + j) 1 (omega arith) (omega arith) (omega arith) in
    let a1 = seen_left r.above (x + j) 0 (omega arith) (omega arith) (omega arith) in
    let a0 = seen_at r.above (x + j) (omega arith) (omega arith) in
    let ar = seen_at r.above (x + j + 1) (omega arith) (omega arith) in
    let p4 = row_left j r.row own 3 (λ t. omega arith) (omega arith) in
    let p3 = row_left j r.row own 2 (λ t. omega arith) (omega arith) in
    let p2 = row_left j r.row own 1 (λ t. omega arith) (omega arith) in
    let p1 = row_left j r.row own 0 (λ t. omega arith) (omega arith) in
    let three = ten_same s1 s0 sr a2 a1 a0 ar a p2 p1 in
    let two = ten_same a3 a2 a1 a0 ar a p4 p3 p2 p1 in
    elim mode.two_line as (λ b. binary (if b then two_line lines offset (x + j) else three_line lines offset (x + j)) ≡ uniform_context c)
    [ true ↦ two | false ↦ three ]

pub nominal_adapts : {c : Bool} (lines : Lines) (x n : ℕ) → AreLeft lines.above (x + n + 8) 6 (n + 5) c → Adapts lines 0 x n c
nominal_adapts lines x n h = λ j few own. seen_at h (x + j + 2) (omega arith) (omega arith)

pub moved_adapts : {x m l : ℕ} {c : Bool} (lines : Lines) (t n : ℕ) → AreLeft lines.row x m l c → ((j : ℕ) → j < n → j ≤ t → m + j ≤ t) → t < m + l → Adapts lines (suc t) x n c
moved_adapts lines t n h from few = λ j within own.
    let test : (suc t == 0) ≡ false = grind (arith, nat_tests) in
    rw test (row_left j h own t (from j within) (omega arith))

-- ---- the pixels that a byte's contexts read

-- the registers at a byte
pub record AreRead (lines : Lines) (second above past offset x : ℕ) : Type 0 where
  pub second_is : second ≡ before lines.second (x + 16) 24
  pub above_is : above ≡ before lines.above (x + 16) 24
  pub past_is : past ≡ before lines.row x (past_bits offset)

-- their pixels around the byte have a colour, except for a moved adaptive pixel
pub record AreNear (second above past : ℕ) (c : Bool) : Type 0 where
  pub second_is : second / 2 ^ 7 % 1024 ≡ bit c * 1023
  pub above_is : above / 2 ^ 6 % 8192 ≡ bit c * 8191
  pub past_is : past % 16 ≡ bit c * 15

reads_eight : {lines : Lines} {second above past offset x : ℕ} {c : Bool} → AreRead lines second above past offset x → AreNear second above past c → Reads lines x 8 c
reads_eight {past = past} {offset} {x} {c} r near =
    let top : x + 16 ≡ x + 8 + 8 = omega arith in
    let whole : past / 2 ^ 0 % 2 ^ 4 ≡ bit c * (2 ^ 4 - 1) = omega (arith, near.past_is) in
    record {
      second = part_left 24 (rw top at r.second_is) (omega arith) near.second_is;
      above = part_left 24 (rw top at r.above_is) (omega arith) near.above_is;
      row = part_left (past_bits offset) r.past_is (omega (arith, least offset)) whole;
    }

pub nominal_eight : {lines : Lines} {second above past x : ℕ} {c : Bool} (mode : Mode) → AreRead lines second above past 0 x → AreNear second above past c → StaysUniform mode lines 0 c x 8
nominal_eight {lines} {x = x} mode r near =
    let all = reads_eight r near in
    stays_uniform mode 0 all (nominal_adapts lines x 8 all.above)

pub moved_eight : {lines : Lines} {second above past offset x : ℕ} {c : Bool} (mode : Mode) → 1 ≤ offset → offset ≤ 127 → AreRead lines second above past offset x → AreNear second above past c →
    past / 2 ^ (offset - 8) % 256 ≡ bit c * 255 → StaysUniform mode lines offset c x 8
moved_eight {offset = zero} mode some few r near far = absurd (omega arith)
moved_eight {lines} {offset = suc t} {x} {c} mode some few r near far =
    let columns : AreLeft lines.row x (suc t - 8) 8 c = part_left 128 r.past_is (omega arith) far in
    stays_uniform mode (suc t) (reads_eight r near) (moved_adapts lines t 8 columns (λ j within under. omega arith) (omega arith))
