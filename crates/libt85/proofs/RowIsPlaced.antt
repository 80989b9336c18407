-- A row that is put among rows that stand some way apart.
use Rattle.std.proofs.Common.{◌≡◌, ◌≤◌, ◌<◌, ◌+◌, ◌-◌, ◌*◌, ℕ, zero, suc, List, [], ◌++◌, length, take, drop, refl, sym, ap, ◌∙◌, arith, append_assoc, append-nil, length-append, length-drop, take-append-drop}
use Rattle.std.proofs.lemmas.Grind.{common_steps}
use Rattle.std.proofs.lemmas.List.{take-take, drop-take, drop-drop, take-append-le, length-take-le}
use Rattle.std.proofs.Math.Seq.{take-append_seam, drop-append_seam, take-append-add, drop-append-add}
use Rattle.libt85.specs.Delivered.{lined, outside}

-- these bytes put over those from a place on
abbrev pub place : List ℕ → ℕ → List ℕ → List ℕ
place bytes at chunk = take at bytes ++ (chunk ++ drop (at + length chunk) bytes)

module _ (bytes : List ℕ) (at : ℕ) (chunk : List ℕ) (within : at + length chunk ≤ length bytes) where
  front_length : length (take at bytes ++ chunk) ≡ at + length chunk
  front_length = length-append (take at bytes) chunk ∙ ap (λ n. n + length chunk) (length-take-le at bytes (omega arith))

  placed_is : place bytes at chunk ≡ (take at bytes ++ chunk) ++ drop (at + length chunk) bytes
  placed_is = sym (append_assoc (take at bytes) chunk (drop (at + length chunk) bytes))

  pub length_placed : length (place bytes at chunk) ≡ length bytes
  length_placed = ap length placed_is ∙ length-append (take at bytes ++ chunk) (drop (at + length chunk) bytes) ∙ omega (arith, front_length, length-drop (at + length chunk) bytes)

  -- behind the chunk
  drop_placed : (m : ℕ) → at + length chunk ≤ m → drop m (place bytes at chunk) ≡ drop m bytes
  drop_placed m far =
      let e = at + length chunk in
      let sum : length (take at bytes ++ chunk) + (m - e) ≡ m = omega (arith, front_length) in
      let back : e + (m - e) ≡ m = omega arith in
      ap (drop m) placed_is ∙ ap (λ n. drop n ((take at bytes ++ chunk) ++ drop e bytes)) (sym sum) ∙ drop-append-add (take at bytes ++ chunk) (drop e bytes) (m - e)
      ∙ drop-drop (m - e) e bytes ∙ ap (λ n. drop n bytes) back

  -- before it
  take_placed : (m : ℕ) → m ≤ at → take m (place bytes at chunk) ≡ take m bytes
  take_placed m near =
      let long : m ≤ length (take at bytes) = omega (arith, length-take-le at bytes (omega arith)) in
      take-append-le m (take at bytes) (chunk ++ drop (at + length chunk) bytes) long ∙ take-take m at bytes near

-- seen from a later place on
place_later : (bytes : List ℕ) (m at : ℕ) (chunk : List ℕ) → m + at + length chunk ≤ length bytes → drop m (place bytes (m + at) chunk) ≡ place (drop m bytes) at chunk
place_later bytes m at chunk within =
    let front : length (take m bytes) ≡ m = length-take-le m bytes (omega arith) in
    let cut : take (m + at) bytes ≡ take m bytes ++ take at (drop m bytes) =
    ap (take (m + at)) (sym (take-append-drop m bytes)) ∙ ap (λ n. take (n + at) (take m bytes ++ drop m bytes)) (sym front) ∙ take-append-add (take m bytes) (drop m bytes) at in
    let behind : drop (m + at + length chunk) bytes ≡ drop (at + length chunk) (drop m bytes) = sym (drop-drop (at + length chunk) m bytes ∙ ap (λ n. drop n bytes) (omega arith)) in
    let rest = chunk ++ drop (m + at + length chunk) bytes in
    ap (λ l. drop m (l ++ rest)) cut ∙ ap (drop m) (append_assoc (take m bytes) (take at (drop m bytes)) rest) ∙ ap (λ n. drop n (take m bytes ++ (take at (drop m bytes) ++ rest))) (sym front)
    ∙ drop-append_seam (take m bytes) (take at (drop m bytes) ++ rest) ∙ ap (λ l. take at (drop m bytes) ++ (chunk ++ l)) behind

module _ (row stride : ℕ) (apart : row ≤ stride) (chunk : List ℕ) (whole : length chunk ≡ row) where
  -- the first row
  first_outside : (n : ℕ) (bytes : List ℕ) → row ≤ length bytes → outside (suc n) row stride (place bytes 0 chunk) ≡ outside (suc n) row stride bytes
  first_outside n bytes within =
      let far = drop_placed bytes 0 chunk (omega arith) in
      let k = stride - row in
      let sum : row + k ≡ stride = omega arith in
      let gap : drop row (take stride (place bytes 0 chunk)) ≡ drop row (take stride bytes) =
      ap (λ m. drop row (take m (place bytes 0 chunk))) (sym sum) ∙ drop-take row k (place bytes 0 chunk) ∙ ap (take k) (far row (omega arith)) ∙ sym (drop-take row k bytes)
      ∙ ap (λ m. drop row (take m bytes)) sum in
      ap (λ l. l ++ outside n row stride (drop stride (place bytes 0 chunk))) gap ∙ ap (λ l. drop row (take stride bytes) ++ outside n row stride l) (far stride (omega arith))

  pub placed_outside : (n y start : ℕ) (bytes : List ℕ) → start ≡ y * stride → y < n → start + row ≤ length bytes →
      outside n row stride (place bytes start chunk) ≡ outside n row stride bytes
  placed_outside zero y start bytes is few within = absurd (omega arith)
  placed_outside (suc n) zero start bytes is few within =
      let none : start ≡ 0 = omega arith in
      ap (λ at. outside (suc n) row stride (place bytes at chunk)) none ∙ first_outside n bytes (omega arith)
  placed_outside (suc n) (suc y) start bytes is few within =
      let s : ℕ = y * stride in
      let sum : start ≡ stride + s = omega arith in
      let fits : stride + s + length chunk ≤ length bytes = omega arith in
      let before = take_placed bytes (stride + s) chunk fits stride (omega arith) in
      let later = place_later bytes stride s chunk fits in
      let rec = placed_outside n y s (drop stride bytes) refl (omega arith) (omega (arith, length-drop stride bytes)) in
      ap (λ at. outside (suc n) row stride (place bytes at chunk)) sum
      ∙ ap (λ l. drop row l ++ outside n row stride (drop stride (place bytes (stride + s) chunk))) before
      ∙ ap (λ l. drop row (take stride bytes) ++ outside n row stride l) later
      ∙ ap (λ l. drop row (take stride bytes) ++ l) rec

  -- the row behind y rows
  pub placed_lined : (y start : ℕ) (bytes : List ℕ) → start ≡ y * stride → start + row ≤ length bytes →
      lined (suc y) row stride (place bytes start chunk) ≡ lined y row stride bytes ++ chunk
  placed_lined zero start bytes is within =
      let none : start ≡ 0 = omega arith in
      ap (λ at. take row (place bytes at chunk) ++ []) none ∙ append-nil (take row (place bytes 0 chunk)) ∙ ap (λ n. take n (place bytes 0 chunk)) (sym whole)
      ∙ take-append_seam chunk (drop (0 + length chunk) bytes)
  placed_lined (suc y) start bytes is within =
      let s : ℕ = y * stride in
      let sum : start ≡ stride + s = omega arith in
      let fits : stride + s + length chunk ≤ length bytes = omega arith in
      let placed = place bytes (stride + s) chunk in
      let before = take_placed bytes (stride + s) chunk fits row (omega arith) in
      let later = place_later bytes stride s chunk fits in
      let rec = placed_lined y s (drop stride bytes) refl (omega (arith, length-drop stride bytes)) in
      ap (λ at. lined (suc (suc y)) row stride (place bytes at chunk)) sum
      ∙ ap (λ l. l ++ lined (suc y) row stride (drop stride placed)) before
      ∙ ap (λ l. take row bytes ++ lined (suc y) row stride l) later
      ∙ ap (λ l. take row bytes ++ l) rec
      ∙ sym (append_assoc (take row bytes) (lined y row stride (drop stride bytes)) chunk)

module _ (row stride : ℕ) where
  -- what stands outside of rows is as long, whatever the bytes
  pub length_outside : (n : ℕ) (a b : List ℕ) → length a ≡ length b → length (outside n row stride a) ≡ length (outside n row stride b)
  length_outside zero a b same = same
  length_outside (suc n) a b same =
      let first : length (drop row (take stride a)) ≡ length (drop row (take stride b)) = grind (arith, common_steps) in
      let rest = length_outside n (drop stride a) (drop stride b) (omega (arith, length-drop stride a, length-drop stride b)) in
      length-append (drop row (take stride a)) (outside n row stride (drop stride a)) ∙ omega (arith, first, rest)
      ∙ sym (length-append (drop row (take stride b)) (outside n row stride (drop stride b)))

  -- whole rows are as long as they are many
  pub length_lined : (n : ℕ) (bytes : List ℕ) → ((y : ℕ) → y < n → y * stride + row ≤ length bytes) → length (lined n row stride bytes) ≡ n * row
  length_lined zero bytes each = (let e : 0 ≡ 0 * row = omega arith in e)
  length_lined (suc n) bytes each =
      let first : 0 * stride + row ≤ length bytes = each 0 (omega arith) in
      let rec = length_lined n (drop stride bytes)
      (λ y less. (let far : suc y * stride + row ≤ length bytes = each (suc y) (omega arith) in omega (arith, far, length-drop stride bytes))) in
      let sum : suc n * row ≡ row + n * row = omega arith in
      length-append (take row bytes) (lined n row stride (drop stride bytes)) ∙ omega (arith, length-take-le row bytes (omega arith), rec, sum)
