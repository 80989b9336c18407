-- A row of one word moves to the right, and white pixels follow.
use Rattle.std.proofs.Common.{◌≡◌, ℕ, ◌+◌, ◌-◌, ◌*◌, ◌/◌, ◌^◌, ◌<◌, ◌≤◌, ◌≢◌, ◌∙◌, sym, refl, Bool, false, List, length, get_or, set, get_or-set_other, get_or-set_same, ap, arith, lit≤, if◌then◌else◌}
use Rattle.std.proofs.lemmas.Nat.{div-mul-add}
use Rattle.raster_core.specs.Raster.{pixel_at}
use Rattle.raster_core.specs.Machine.Words.{word, led}
use Rattle.raster_core.proofs.BytesMakeWords.{white}
use Rattle.raster_core.proofs.WordsAgree.{is_lt}
use Rattle.raster_core.proofs.WordsHoldPixels.{second_part, word_cat, word_lt}

white_left : (line : List Bool) (x : ℕ) → x < 128 → led line x ≡ false
white_left line x h = ap (λ b. if b then false else pixel_at line (x - 128)) (is_lt x 128 h)

-- by a pixel more
pub moves_on : (line : List Bool) (d : ℕ) → d < 128 → word (led line) (128 - d) 64 / 2 ^ 1 ≡ word (led line) (128 - (d + 1)) 64
moves_on line d h =
    let f : ℕ = 127 - d in
    let at : 128 - d ≡ f + 1 = omega arith in
    let next : 128 - (d + 1) ≡ f = omega arith in
    let all = word_cat (led line) f 1 63 in
    let first = white (led line) f 1 (λ i lt. white_left line (f + i) (omega arith)) in
    let rest = second_part (led line) (f + 1) 1 (lit≤ tt) in
    rw (at, next, rest) (omega (arith, all, first))

-- ---- one count changes

pub same_else : (xs : List ℕ) (k v j : ℕ) → j ≢ k → get_or (set xs k v) j 0 ≡ get_or xs j 0
same_else xs k v j ne = rw get_or-set_other refl

pub same_here : (xs : List ℕ) (k v : ℕ) → k < length xs → get_or (set xs k v) k 0 ≡ v
same_here xs k v lt = rw get_or-set_same refl

-- ---- a row of two words

pub moves_wide : (line : List Bool) (d : ℕ) → d < 128 → word (led line) (128 - d) 128 / 2 ^ 1 ≡ word (led line) (128 - (d + 1)) 128
moves_wide line d h =
    let f : ℕ = 127 - d in
    let at : 128 - d ≡ f + 1 = omega arith in
    let next : 128 - (d + 1) ≡ f = omega arith in
    let all = word_cat (led line) f 1 127 in
    let first = white (led line) f 1 (λ i lt. white_left line (f + i) (omega arith)) in
    let whole = word_cat (led line) (f + 1) 127 1 in
    let last = word_lt (led line) (f + 1 + 127) 1 in
    rw (at, next) (omega (arith, all, first, whole, last))

nothing : (x y : ℕ) → 0 * x + y ≡ y
nothing x y = omega arith

-- by some pixels at once
pub moved_wide : (line : List Bool) (d : ℕ) → d ≤ 128 → word (led line) 128 128 / 2 ^ d ≡ word (led line) (128 - d) 128
moved_wide line d h =
    let n : (128 - d) + d ≡ 128 = omega arith in
    let m : d + (128 - d) ≡ 128 = omega arith in
    let at : (128 - d) + d ≡ 128 = omega arith in
    let front : word (led line) 128 128 ≡ word (led line) 128 (128 - d) * 2 ^ d + word (led line) (128 + (128 - d)) d =
    ap (word (led line) 128) (sym n) ∙ word_cat (led line) 128 (128 - d) d in
    let moved : word (led line) (128 - d) 128 ≡ word (led line) (128 - d) d * 2 ^ (128 - d) + word (led line) 128 (128 - d) =
    ap (word (led line) (128 - d)) (sym m) ∙ word_cat (led line) (128 - d) d (128 - d) ∙ ap (λ k. word (led line) (128 - d) d * 2 ^ (128 - d) + word (led line) k (128 - d)) at in
    let zero = white (led line) (128 - d) d (λ i lt. white_left line ((128 - d) + i) (omega arith)) in
    ap (λ x. x / 2 ^ d) front
    ∙ div-mul-add (word (led line) 128 (128 - d)) (2 ^ d) (word (led line) (128 + (128 - d)) d) (word_lt (led line) (128 + (128 - d)) d)
    ∙ sym (moved ∙ ap (λ x. x * 2 ^ (128 - d) + word (led line) 128 (128 - d)) zero ∙ nothing (2 ^ (128 - d)) (word (led line) 128 (128 - d)))
