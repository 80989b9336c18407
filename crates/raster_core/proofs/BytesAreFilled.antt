-- Bytes of one colour, many in one step.
use Rattle.std.proofs.Common.{◌≡◌, ℕ, zero, suc, ◌+◌, ◌-◌, ◌*◌, ◌/◌, ◌%◌, ◌^◌, ◌<◌, ◌≤◌, Bool, true, false, inl, inr, List, refl, sym, ◌∙◌, ap, arith, replicate}
use Rattle.std.proofs.Math.Nat.{mod-eq_of_lt, div-one}
use Rattle.std.proofs.lemmas.Nat.{pow_pos, pow-add, mod-mul-add}
use Rattle.std.proofs.lemmas.Bool.{cases_lt}
use Rattle.std.proofs.lemmas.List.{replicate-append-replicate}
use Rattle.qm_core.specs.Place.{State, Event, after}
use Rattle.qm_core.specs.Skipping.{IsRun}
use Rattle.raster_core.specs.Raster.{pixel_at}
use Rattle.raster_core.specs.Lines.{Lines, Mode}
use Rattle.raster_core.specs.Machine.Registers.{bit, before, past_bits}
use Rattle.raster_core.specs.Machine.Uniform.{filled, AreFilled, StaysUniform}
use Rattle.raster_core.proofs.PixelNumbersSplit.{before_lt, before_split, before_mod, before_zero, least}
use Rattle.raster_core.proofs.RegistersTakeBytes.{IsIn}
use Rattle.raster_core.proofs.ContextsStayUniform.{AreLeft, Adapts, part_left, seen_at, stays_uniform, nominal_adapts, moved_adapts}
use Rattle.raster_core.proofs.EventsAreDecoded.{after_append}

-- ---- runs after runs

pub filled_join : (colour : Bool) (bytes : List ℕ) (i n m : ℕ) → AreFilled colour bytes i n → AreFilled colour bytes (i + n) m → AreFilled colour bytes i (n + m)
filled_join colour bytes i n m a b j few =
    elim (cases_lt j n) [
      | inl near ↦ a j near
      | inr far ↦
          let e : (i + n) + (j - n) ≡ i + j = omega arith in
          rw (← e) (b (j - n) (omega arith))
    ]

pub after_more : (s : State) (event : Event) (n m : ℕ) → after s (replicate (n + m) event) ≡ after (after s (replicate n event)) (replicate m event)
after_more s event n m = rw (← replicate-append-replicate) (after_append s (replicate n event) (replicate m event))

pub run_join : (s : State) (event : Event) (n m : ℕ) → IsRun s event n → IsRun (after s (replicate n event)) event m → IsRun s event (n + m)
run_join s event n m a b = record {
  quiet = λ k few. elim (cases_lt k n) [
    | inl near ↦ a.quiet k (omega arith)
    | inr far ↦
        let e : k ≡ n + (k - n) = omega arith in
        rw (e, after_more, b.quiet (k - n) (omega arith)) (a.quiet n (omega arith))
  ];
  taught = rw (after_more, b.taught) a.taught;
}

-- ---- pixels of a colour as a number

filled_none : (colour : Bool) → 0 ≡ filled colour 0
filled_none true = refl
filled_none false = refl

-- with one more byte
filled_more : (colour : Bool) (k : ℕ) → filled colour k * 2 ^ 8 + bit colour * 255 ≡ filled colour (k + 8)
filled_more true k = let p = pow-add 2 k 8 in let q = pow_pos k in omega arith
filled_more false k = omega arith

-- the nearest l of d + l pixels
filled_mod : (colour : Bool) (d l : ℕ) → filled colour (d + l) % 2 ^ l ≡ filled colour l
filled_mod true d l =
    let p = pow-add 2 d l in
    let q = pow_pos l in
    let one : 2 ^ d ≡ (2 ^ d - 1) + 1 = let r = pow_pos d in omega arith in
    let parts : 1 * (2 ^ (d + l) - 1) ≡ (2 ^ d - 1) * 2 ^ l + (2 ^ l - 1) = ap (λ z. 1 * (z - 1)) (p ∙ ap (λ z. z * 2 ^ l) one) ∙ apart (2 ^ d - 1) (2 ^ l) q in
    let rest : 2 ^ l - 1 ≡ 1 * (2 ^ l - 1) = omega arith in
    rw (parts, mod-mul-add (2 ^ d - 1) (2 ^ l) (2 ^ l - 1) (omega arith)) rest
  where
    apart : (a b : ℕ) → 0 < b → 1 * ((a + 1) * b - 1) ≡ a * b + (b - 1)
    apart a b some = omega arith
filled_mod false d l =
    let q = pow_pos l in
    let none : 0 * (2 ^ (d + l) - 1) ≡ 0 = omega arith in
    let rest : 0 ≡ 0 * (2 ^ l - 1) = omega arith in
    rw (none, mod-eq_of_lt) rest

-- ---- the pixels of bytes of a colour

byte_small : (colour : Bool) → bit colour * 255 % 256 ≡ bit colour * 255
byte_small true = refl
byte_small false = refl

-- the bytes of a row have this colour, n of them from byte i on
pub record IsFilled (colour : Bool) (row : List Bool) (i n : ℕ) : Type 0 where
  pub byte : (j : ℕ) → j < n → before row (8 * (i + j) + 8) 8 ≡ bit colour * 255

pub is_filled : {colour : Bool} {row : List Bool} {bytes : List ℕ} {i n : ℕ} → IsIn row bytes → AreFilled colour bytes i n → IsFilled colour row i n
is_filled {colour} {i = i} is fill = record { byte = λ j few. rw (is.byte (i + j), fill j few) (byte_small colour) }

-- pixels of a colour before a byte, and bytes of it from there on
filled_on : {colour : Bool} {row : List Bool} {b : ℕ} (k n : ℕ) → IsFilled colour row b n → before row (8 * b) k ≡ filled colour k → before row (8 * (b + n)) (k + 8 * n) ≡ filled colour (k + 8 * n)
filled_on {b = b} k zero fill h =
    let e : 8 * (b + 0) ≡ 8 * b = omega arith in
    let f : k + 8 * 0 ≡ k = omega arith in
    rw (e, f) h
filled_on {colour} {b = b} k (suc n) fill h =
    let e : 8 * (b + suc n) ≡ 8 * (b + n) + 8 = omega arith in
    let f : k + 8 * suc n ≡ (k + 8 * n) + 8 = omega arith in
    let shorter = filled_on k n (record { byte = λ j few. fill.byte j (omega arith) }) h in
    rw (e, f, before_split, shorter, fill.byte n (omega arith)) (filled_more colour (k + 8 * n))

left_filled : {colour : Bool} {row : List Bool} {y m l : ℕ} (k : ℕ) → before row y k ≡ filled colour k → m + l ≤ k → AreLeft row y m l colour
left_filled {colour} {row} {y} {m} k h within = record {
  any = λ j few.
      let e : 0 + (m + j) ≡ m + j = omega arith in
      let low : before row y k / 2 ^ 0 % 2 ^ k ≡ filled colour k = rw (div-one (before row y k), mod-eq_of_lt (before_lt row y k)) h in
      let all : AreLeft row y 0 k colour = part_left k refl (omega arith) low in
      rw (← e) (all.any (m + j) (omega arith));
}

-- the pixels before byte i have a colour, as far as contexts read them
pub record AreBehind (colour : Bool) (lines : Lines) (offset i : ℕ) : Type 0 where
  pub row_is : before lines.row (8 * i) (past_bits offset) ≡ filled colour (past_bits offset)
  pub above_is : before lines.above (8 * i + 8) 24 ≡ filled colour 24
  pub second_is : before lines.second (8 * i + 8) 24 ≡ filled colour 24

adapts_filled : {colour : Bool} (lines : Lines) (offset i n : ℕ) → offset ≤ 127 → before lines.row (8 * i) (past_bits offset) ≡ filled colour (past_bits offset) →
    AreLeft lines.above (8 * i + 8 * n + 8) 6 (8 * n + 5) colour →
    Adapts lines offset (8 * i) (8 * n) colour
adapts_filled lines zero i n high past above = nominal_adapts lines (8 * i) (8 * n) above
adapts_filled {colour} lines (suc t) i n high past above =
    let columns : AreLeft lines.row (8 * i) 0 128 colour = left_filled 128 past (omega arith) in
    moved_adapts lines t (8 * n) columns (λ j within under. omega arith) (omega arith)

-- below bytes of a colour and after pixels of it all contexts are that of the colour, as long as the row stays in it
pub filled_uniform : {colour : Bool} {lines : Lines} {offset i n : ℕ} (mode : Mode) → offset ≤ 127 → AreBehind colour lines offset i → IsFilled colour lines.above (i + 1) n →
    IsFilled colour lines.second (i + 1) n →
    StaysUniform mode lines offset colour (8 * i) (8 * n)
filled_uniform {lines = lines} {offset} {i} {n} mode high behind above second =
    let from : 8 * i + 8 ≡ 8 * (i + 1) = omega arith in
    let top : 8 * ((i + 1) + n) ≡ 8 * i + 8 * n + 8 = omega arith in
    let a = left_filled (24 + 8 * n) (rw top at (filled_on 24 n above (rw from at behind.above_is))) (omega arith) in
    let s = left_filled (24 + 8 * n) (rw top at (filled_on 24 n second (rw from at behind.second_is))) (omega arith) in
    stays_uniform mode offset (record { second = s; above = a; row = left_filled (past_bits offset) behind.row_is (omega (arith, least offset)) }) (adapts_filled lines offset i n high behind.row_is a)

pub own_filled : {colour : Bool} {row : List Bool} {i n : ℕ} → IsFilled colour row i n → (k : ℕ) → k < 8 * n → pixel_at row (8 * i + k) ≡ colour
own_filled {colour} {row} {i} {n} fill k few =
    let start : 0 + 8 * n ≡ 8 * n = omega arith in
    let all : AreLeft row (8 * (i + n)) 0 (8 * n) colour = left_filled (8 * n) (rw start at (filled_on 0 n fill (before_zero row (8 * i) ∙ filled_none colour))) (omega arith) in
    seen_at all (8 * i + k) (omega arith) (omega arith)

-- the same many pixels before, after bytes of their colour
pub past_filled : {colour : Bool} {row : List Bool} {i n : ℕ} (w : ℕ) → IsFilled colour row i n → before row (8 * i) w ≡ filled colour w → before row (8 * i + 8 * n) w ≡ filled colour w
past_filled {colour} {row} {i} {n} w fill h =
    let e : 8 * (i + n) ≡ 8 * i + 8 * n = omega arith in
    let f : w + 8 * n ≡ 8 * n + w = omega arith in
    sym (before_mod row (8 * i + 8 * n) (8 * n) w) ∙ (ap (λ z. z % 2 ^ w) (rw (e, f) at (filled_on w n fill h)) ∙ filled_mod colour (8 * n) w)

-- a register of a row above, after bytes of its colour
pub register_filled : {colour : Bool} {row : List Bool} {register n : ℕ} (i : ℕ) → IsFilled colour row (i + 1) n → register ≡ before row (8 * i + 8) 24 → register ≡ filled colour 24 →
    register ≡ before row (8 * (i + n) + 8) 24
register_filled {n = n} i fill is all =
    let from : 8 * i + 8 ≡ 8 * (i + 1) = omega arith in
    let to : 8 * (i + 1) + 8 * n ≡ 8 * (i + n) + 8 = omega arith in
    rw (all, ← past_filled 24 fill (rw from at (sym is ∙ all)), to) refl
