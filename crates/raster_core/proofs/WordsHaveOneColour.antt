-- Words of one colour.
use Rattle.std.proofs.Common.{◌≡◌, ℕ, zero, suc, ◌+◌, ◌-◌, ◌^◌, ◌<◌, ◌≤◌, Bool, true, false, ◌&&◌, not, refl, sym, ◌∙◌, ap, arith, add-zero, inl, inr, zero-add}
use Rattle.std.specs.Prelude.{count_ones}
use lib.Count.{ones}
use Rattle.raster_core.proofs.BestIsFound.{le_cases}
use Rattle.qm_core.specs.Place.{same}
use Rattle.raster_core.specs.Machine.Words.{word, agreed_from, pixels_from}
use Rattle.raster_core.specs.Machine.Registers.{bit}
use Rattle.std.proofs.lemmas.Bool.{cases_lt}
use Rattle.std.proofs.Math.Bool.{and-true}
use Rattle.raster_core.proofs.CountsAdd.{count_same, same_self}
use Rattle.raster_core.proofs.WordsHoldPixels.{word_not, word_ones}

pub dark : (p : ℕ → Bool) (f n : ℕ) → word p f n ≡ 0 → (i : ℕ) → i < n → p (f + i) ≡ false
unfolding word
dark p f zero e i lt = absurd (omega arith)
dark p f (suc n) e i lt =
    let rest : word p f n ≡ 0 = omega arith in
    let last : bit (p (f + n)) ≡ 0 = omega arith in
    elim (le_cases i n (omega arith)) [
      | inl eq ↦ rw eq (white_bit (p (f + n)) last)
      | inr below ↦ dark p f n rest i below
    ]
  where
    white_bit : (b : Bool) → bit b ≡ 0 → b ≡ false
    white_bit true e = absurd (omega arith)
    white_bit false e = refl

pub lit : (p : ℕ → Bool) (f n : ℕ) → word p f n ≡ 2 ^ n - 1 → (i : ℕ) → i < n → p (f + i) ≡ true
lit p f n e i lt =
    let none : word (λ k. not (p k)) f n ≡ 0 = sym (word_not p f n) ∙ omega arith in
    black (p (f + i)) (dark (λ k. not (p k)) f n none i lt)
  where
    black : (b : Bool) → not b ≡ false → b ≡ true
    black true e = refl
    black false e = sym e

-- what holds in each of three words holds in all
pub in_all : (p : ℕ → Bool) (place : ℕ) (b : Bool) → ((i : ℕ) → i < 64 → p (place + i) ≡ b) → ((i : ℕ) → i < 64 → p (place + 64 + i) ≡ b) → ((i : ℕ) → i < 64 → p (place + 128 + i) ≡ b) →
    (i : ℕ) → i < 192 → p (place + i) ≡ p place
in_all p place b one two three i lt =
    rw (there i lt, ← one 0 (omega arith), add-zero) refl
  where
    at : (i k : ℕ) → k ≤ i → place + i ≡ place + k + (i - k)
    at i k h = omega arith

    there : (i : ℕ) → i < 192 → p (place + i) ≡ b
    there i lt =
        elim (cases_lt i 64) [
          | inl h ↦ one i h
          | inr h ↦ elim (cases_lt i 128) [
            | inl k ↦ ap p (at i 64 h) ∙ two (i - 64) (omega arith)
            | inr k ↦ ap p (at i 128 k) ∙ three (i - 128) (omega arith)
          ]
        ]

pub even_agreed : (p m : ℕ → Bool) (place c lag n : ℕ) → ((i : ℕ) → i < 192 → p (place + i) ≡ p place) → lag ≤ 127 → n ≤ 64 →
    count_ones (word m c n) ≡ agreed_from (pixels_from p (place + 128)) (pixels_from p (place + 128 - lag)) (pixels_from m c) n
unfolding agreed_from
even_agreed p m place c lag n h high le =
    word_ones m c n
    ∙ count_same m (λ i. m (c + i) && same (p (place + 128 + i)) (p ((place + 128 - lag) + i))) c 0 n (λ i lt. sym (here i lt))
  where
    here : (i : ℕ) → i < n → m (c + (0 + i)) && same (p (place + 128 + (0 + i))) (p ((place + 128 - lag) + (0 + i))) ≡ m (c + i)
    here i lt =
        let one_at : place + 128 + (0 + i) ≡ place + (128 + i) = omega arith in
        let other_at : (place + 128 - lag) + (0 + i) ≡ place + (128 - lag + i) = omega arith in
        let one : p (place + 128 + (0 + i)) ≡ p place = ap p one_at ∙ h (128 + i) (omega arith) in
        let other : p ((place + 128 - lag) + (0 + i)) ≡ p place = ap p other_at ∙ h (128 - lag + i) (omega arith) in
        rw (one, other, same_self, and-true, zero-add) refl
