-- The context of a pixel depends only on the pixels before it.
use Rattle.std.proofs.Common.{◌≡◌, ℕ, zero, suc, ◌+◌, ◌-◌, ◌*◌, ◌%◌, ◌^◌, ◌<◌, ◌≤◌, Bool, true, false, inl, inr, List, [], ◌∷◌, ◌++◌, length, refl, sym, ◌∙◌, ap, arith, append_assoc}
use Rattle.std.specs.Prelude.{if◌then◌else◌, nat_lt, ◌==◌, map}
use Rattle.std.proofs.lemmas.Bool.Decides.{nat_tests}
use Rattle.std.proofs.lemmas.Bool.{cases_lt}
use Rattle.std.proofs.lemmas.List.{length-append, map-append, get_or_append_left, append-nil}
use Rattle.std.proofs.Math.Seq.{get_or-append_seam}
use Rattle.qm_core.specs.Place.{Event}
use Rattle.raster_core.specs.Raster.{pixel_at, pixel_left}
use Rattle.raster_core.specs.Lines.{Lines, Mode, numbers_from, binary, context_at, three_line, two_line, adaptive, pixel_events}
use Rattle.raster_core.specs.Machine.Decoded.{with_row}
use Rattle.raster_core.specs.Machine.Registers.{bit, before, past_bits}
use Rattle.raster_core.proofs.PixelNumbersSplit.{before_suc, before_none, before_zero}
use Rattle.raster_core.proofs.ByteHoldsPixels.{past_on}
use Rattle.raster_core.proofs.EventListsJoin.{event_is}

pub numbers_from_last : (k n : ℕ) → numbers_from k (suc n) ≡ numbers_from k n ++ (k + n) ∷ []
numbers_from_last k zero = ap (λ m. m ∷ []) (let e : k ≡ k + 0 = omega arith in e)
numbers_from_last k (suc n) =
    let tail = numbers_from_last (k + 1) n in
    let same : (k + 1) + n ≡ k + suc n = omega arith in
    rw (tail, same) refl

pub map_same : {A : Type 0} (f g : ℕ → A) (k n : ℕ) → ((x : ℕ) → x < k + n → f x ≡ g x) → map f (numbers_from k n) ≡ map g (numbers_from k n)
map_same f g k zero h = refl
map_same f g k (suc n) h =
    let here = h k (omega arith) in
    let rest = map_same f g (k + 1) n (λ x l. h x (omega arith)) in
    cc

pub at_front : (xs ys : List Bool) (x : ℕ) → x < length xs → pixel_at (xs ++ ys) x ≡ pixel_at xs x
at_front xs ys x h = get_or_append_left xs ys false x h

pub left_front : (xs ys : List Bool) (x k : ℕ) → x ≤ length xs → pixel_left (xs ++ ys) x (suc k) ≡ pixel_left xs x (suc k)
left_front xs ys x k h =
    elim (cases_lt x (suc k)) [
      | inl near ↦ let test : nat_lt x (suc k) ≡ true = grind (arith, nat_tests) in rw test refl
      | inr far ↦
          let test : nat_lt x (suc k) ≡ false = grind (arith, nat_tests) in
          let inside : x - suc k < length xs = omega arith in
          rw test (at_front xs ys (x - suc k) inside)
    ]

pub adaptive_front : (lines : Lines) (xs ys : List Bool) (offset x : ℕ) → x ≤ length xs → adaptive (with_row lines (xs ++ ys)) offset x ≡ adaptive (with_row lines xs) offset x
adaptive_front lines xs ys zero x h = refl
adaptive_front lines xs ys (suc t) x h =
    let test : (suc t == 0) ≡ false = grind (arith, nat_tests) in
    rw test (left_front xs ys x t h)

pub context_front : (mode : Mode) (lines : Lines) (xs ys : List Bool) (offset x : ℕ) → x ≤ length xs →
    context_at mode (with_row lines (xs ++ ys)) offset x ≡ context_at mode (with_row lines xs) offset x
context_front mode lines xs ys offset x h =
    let a = adaptive_front lines xs ys offset x h in
    let l1 = left_front xs ys x 0 h in
    let l2 = left_front xs ys x 1 h in
    let l3 = left_front xs ys x 2 h in
    let l4 = left_front xs ys x 3 h in
    let three : three_line (with_row lines (xs ++ ys)) offset x ≡ three_line (with_row lines xs) offset x = cc in
    let two : two_line (with_row lines (xs ++ ys)) offset x ≡ two_line (with_row lines xs) offset x = cc in
    elim mode.two_line
    as (λ b. binary (if b then two_line (with_row lines (xs ++ ys)) offset x else three_line (with_row lines (xs ++ ys)) offset x)
    ≡ binary (if b then two_line (with_row lines xs) offset x else three_line (with_row lines xs) offset x))
    [ true ↦ ap binary two | false ↦ ap binary three ]

-- ---- the events of a row that grows

pub pixel_events_more : (mode : Mode) (lines : Lines) (offset : ℕ) (xs : List Bool) (b : Bool) →
    pixel_events mode (with_row lines (xs ++ b ∷ [])) offset
    ≡ pixel_events mode (with_row lines xs) offset ++ record { context = context_at mode (with_row lines xs) offset (length xs); pixel = b } ∷ []
pixel_events_more mode lines offset xs b =
    let f : ℕ → Event = λ x. record { context = context_at mode (with_row lines (xs ++ b ∷ [])) offset x; pixel = pixel_at (xs ++ b ∷ []) x } in
    let g : ℕ → Event = λ x. record { context = context_at mode (with_row lines xs) offset x; pixel = pixel_at xs x } in
    let long : length (xs ++ b ∷ []) ≡ suc (length xs) = length-append xs (b ∷ []) ∙ (let e : length xs + 1 ≡ suc (length xs) = omega arith in e) in
    let split : map f (numbers_from 0 (suc (length xs))) ≡ map f (numbers_from 0 (length xs)) ++ f (0 + length xs) ∷ [] =
    ap (map f) (numbers_from_last 0 (length xs)) ∙ map-append f (numbers_from 0 (length xs)) ((0 + length xs) ∷ []) in
    let same = map_same f g 0 (length xs) (λ x l. event_is _ _ _ _ (context_front mode lines xs (b ∷ []) offset x (omega arith)) (at_front xs (b ∷ []) x (omega arith))) in
    let zero' : 0 + length xs ≡ length xs = omega arith in
    let last : f (0 + length xs) ≡ record { context = context_at mode (with_row lines xs) offset (length xs); pixel = b } =
    ap f zero' ∙ event_is _ _ _ _ (context_front mode lines xs (b ∷ []) offset (length xs) (omega arith)) (get_or-append_seam xs b [] false) in
    rw (long, split, same, last) refl

-- the events of a longer row begin with those of its front
pub pixel_events_front : (mode : Mode) (lines : Lines) (offset : ℕ) (xs ys : List Bool) → (rest : List Event) ×
    (pixel_events mode (with_row lines (xs ++ ys)) offset ≡ pixel_events mode (with_row lines xs) offset ++ rest)
pixel_events_front mode lines offset xs [] = ([], ap (λ r. pixel_events mode (with_row lines r) offset) (append-nil xs) ∙ sym (append-nil _))
pixel_events_front mode lines offset xs (y ∷ ys) =
    let r = pixel_events_front mode lines offset (xs ++ y ∷ []) ys in (
      record { context = context_at mode (with_row lines xs) offset (length xs); pixel = y } ∷ r.0,
      ap (λ row. pixel_events mode (with_row lines row) offset) (sym (append_assoc xs (y ∷ []) ys))
          ∙ (rw (r.1, pixel_events_more mode lines offset xs y)
          (append_assoc (pixel_events mode (with_row lines xs) offset) (record { context = context_at mode (with_row lines xs) offset (length xs); pixel = y } ∷ []) r.0)),
    )

-- ---- the pixels before

pub before_front : (xs ys : List Bool) (x k : ℕ) → x ≤ length xs → before (xs ++ ys) x k ≡ before xs x k
before_front xs ys x zero h = before_zero (xs ++ ys) x ∙ sym (before_zero xs x)
before_front xs ys zero (suc k) h = before_none (xs ++ ys) (suc k) ∙ sym (before_none xs (suc k))
before_front xs ys (suc x) (suc k) h =
    let inside : x < length xs = omega arith in
    before_suc (xs ++ ys) x k ∙ (rw (before_front xs ys x k (omega arith), at_front) (sym (before_suc xs x k)))

pub past_next : {past : ℕ} (xs : List Bool) (b : Bool) (offset : ℕ) → past ≡ before xs (length xs) (past_bits offset) →
    past % 2 ^ (past_bits offset - 1) * 2 + bit b ≡ before (xs ++ b ∷ []) (length (xs ++ b ∷ [])) (past_bits offset)
past_next {past} xs b offset h =
    let here : past ≡ before (xs ++ b ∷ []) (length xs) (past_bits offset) = rw (before_front xs (b ∷ []) (length xs) (past_bits offset) (omega arith)) h in
    let seam = get_or-append_seam xs b [] false in
    rw length-append (rw seam at (past_on (xs ++ b ∷ []) offset (length xs) here))
