-- Three rows in bytes, at places in a ring.
use Rattle.std.proofs.Common.{◌≡◌, ℕ, zero, suc, ◌+◌, ◌*◌, ◌-◌, ◌<◌, ◌≤◌, List, [], ◌∷◌, ◌++◌, length, take, drop, refl, sym, ◌∙◌, ap, arith, replicate}
use Rattle.std.specs.List.{copy_within}
use Rattle.std.proofs.lemmas.List.{append_assoc, drop-drop, take_at, drop_at, drop-take, drop-replicate, take-replicate, length-take-le, length-drop}
use Rattle.std.proofs.lemmas.Slice.{take-put_mid_below, drop-put_mid}
use Rattle.raster_core.specs.Packed.{Held, row_placed, with_part, row_bytes, rows_at, with_current, next_place, HasLines, white_lines}
use Rattle.raster_core.specs.Window.{turned, repeated}
use Rattle.raster_core.proofs.ZerosAreWhite.{white_held}
use Rattle.std.proofs.Math.Nat.{mul-le-mul_right}
use Rattle.std.proofs.lemmas.Bool.Decides.{nat_tests}

-- what a window of these rows holds
abbrev pub three : ℕ → List ℕ → List ℕ → List ℕ → Held
three width current above second = record { width = width; current = current; above = above; second = second }

pub same_rows : {c a s c' a' s' : List ℕ} (width : ℕ) → c ≡ c' → a ≡ a' → s ≡ s' → three width c a s ≡ three width c' a' s'
same_rows width e f g = rw (e, f, g) refl

-- bytes with another row in place of the one at p
abbrev with_row : ℕ → ℕ → List ℕ → List ℕ → List ℕ
with_row n p bytes row = take (p * n) bytes ++ (row ++ drop n (drop (p * n) bytes))

-- it is there
put_here : (n p : ℕ) (bytes row : List ℕ) → p * n + n ≤ length bytes → length row ≡ n → row_placed n (with_row n p bytes row) p ≡ row
put_here n p bytes row inside long =
    rw (drop_at (take (p * n) bytes) (row ++ drop n (drop (p * n) bytes)) (p * n) (length-take-le (p * n) bytes (omega arith))) (take_at row (drop n (drop (p * n) bytes)) n long)

-- a row before it stays
put_before : (n p q : ℕ) (bytes row : List ℕ) → p * n + n ≤ length bytes → q * n + n ≤ p * n → row_placed n (with_row n p bytes row) q ≡ row_placed n bytes q
put_before n p q bytes row inside before =
    rw (← drop-take, take-put_mid_below (p * n) n bytes row (q * n + n) before (omega arith)) (drop-take (q * n) n bytes)

-- a row behind it stays
put_behind : (n p q : ℕ) (bytes row : List ℕ) → p * n + n ≤ length bytes → length row ≡ n → p * n + n ≤ q * n → row_placed n (with_row n p bytes row) q ≡ row_placed n bytes q
put_behind n p q bytes row inside long behind = ap (take n) (drop-put_mid (p * n) n bytes row (q * n) behind (omega arith) long)

put_row : (p width : ℕ) (bytes row : List ℕ) → p < 3 → length bytes ≡ 3 * row_bytes width → length row ≡ row_bytes width →
    rows_at p width (with_row (row_bytes width) p bytes row) ≡ with_current (rows_at p width bytes) row
put_row zero width bytes row small long wide =
    let n = row_bytes width in
    same_rows width (put_here n 0 bytes row (omega arith) wide) (put_behind n 0 1 bytes row (omega arith) wide (omega arith)) (put_behind n 0 2 bytes row (omega arith) wide (omega arith))
put_row (suc zero) width bytes row small long wide =
    let n = row_bytes width in
    same_rows width (put_here n 1 bytes row (omega arith) wide) (put_behind n 1 2 bytes row (omega arith) wide (omega arith)) (put_before n 1 0 bytes row (omega arith) (omega arith))
put_row (suc (suc zero)) width bytes row small long wide =
    let n = row_bytes width in
    same_rows width (put_here n 2 bytes row (omega arith) wide) (put_before n 2 0 bytes row (omega arith) (omega arith)) (put_before n 2 1 bytes row (omega arith) (omega arith))
put_row (suc (suc (suc p))) width bytes row small long wide = absurd (omega arith)

-- with another current row the two above it stay
pub put_current : {start end : ℕ} (p width : ℕ) (bytes row : List ℕ) → start ≡ p * row_bytes width → end ≡ p * row_bytes width + row_bytes width →
    p < 3 → length bytes ≡ 3 * row_bytes width → length row ≡ row_bytes width →
    rows_at p width (with_part start end bytes row) ≡ with_current (rows_at p width bytes) row
put_current {start} {end} p width bytes row at to small long wide =
    let n = row_bytes width in
    let e : end - start ≡ n = omega arith in
    ap (λ k. rows_at p width (take start bytes ++ (row ++ drop k (drop start bytes)))) e
    ∙ ap (λ k. rows_at p width (take k bytes ++ (row ++ drop n (drop k bytes)))) at
    ∙ put_row p width bytes row small long wide

inside : (q n : ℕ) → q < 3 → q * n + n ≤ 3 * n
inside q n small = omega (arith, mul-le-mul_right n small)

next_small : (q : ℕ) → q < 3 → next_place q < 3
next_small q small = grind (arith, nat_tests)

-- the place before is the second next
next_last : (q : ℕ) → q < 3 → next_place (next_place (next_place q)) ≡ q
next_last q small = grind (arith, nat_tests)

zeros_at : (n q : ℕ) (bytes : List ℕ) → bytes ≡ replicate (3 * n) 0 → q < 3 → row_placed n bytes q ≡ replicate n 0
zeros_at n q bytes e small =
    let _within = inside q n small in
    ap (λ l. row_placed n l q) e ∙ ap (take n) (drop-replicate (q * n) (3 * n) 0) ∙ take-replicate n (3 * n - q * n) 0 (omega arith)

-- zeros are three white rows
pub zeros_held : (p width : ℕ) (bytes : List ℕ) → p < 3 → bytes ≡ replicate (3 * row_bytes width) 0 → HasLines (rows_at p width bytes) (white_lines width)
zeros_held p width bytes small e =
    let n = row_bytes width in
    white_held width _ _ _ (zeros_at n p bytes e small) (zeros_at n (next_place p) bytes e (next_small p small))
    (zeros_at n (next_place (next_place p)) bytes e (next_small (next_place p) (next_small p small)))

le_at : {a b c : ℕ} → b ≡ c → a ≤ c → a ≤ b
le_at e h = omega arith

-- a part that was copied to another place
copied : (bytes : List ℕ) (i j at : ℕ) → copy_within bytes i j at ≡ with_part at (at + (j - i)) bytes (take (j - i) (drop i bytes))
copied bytes i j at =
    let e : at + (j - i) - at ≡ j - i = omega arith in
    append_assoc (take at bytes) (take (j - i) (drop i bytes)) (drop (at + (j - i)) bytes)
    ∙ ap (λ l. take at bytes ++ (take (j - i) (drop i bytes) ++ l)) (sym (drop-drop (j - i) at bytes) ∙ ap (λ k. drop k (drop at bytes)) (sym e))

-- a row down, and the row above copied into the current one
pub repeats : {p q width start end to : ℕ} {new : List ℕ} (bytes : List ℕ) (h : Held) → p < 3 → q ≡ next_place (next_place p) → length bytes ≡ 3 * row_bytes width →
    start ≡ p * row_bytes width → end ≡ p * row_bytes width + row_bytes width → to ≡ q * row_bytes width → rows_at q width bytes ≡ turned h → new ≡ copy_within bytes start end to →
    rows_at q width new ≡ repeated h
repeats {p} {q} {width} {start} {end} {to} bytes h small down long from until at turned_is new_is =
    let n = row_bytes width in
    let k = end - start in
    let same : k ≡ n = omega arith in
    let q_small : q < 3 = rw down (next_small (next_place p) (next_small p small)) in
    let _within = inside p n small in
    let row_is : take k (drop start bytes) ≡ row_placed n bytes p = rw (same, from) refl in
    let above_is : row_placed n bytes p ≡ h.current = ap (λ r. row_placed n bytes r) (sym (ap next_place down ∙ next_last p small)) ∙ ap (λ w. w.above) turned_is in
    let wide : length (take k (drop start bytes)) ≡ n = length-take-le k (drop start bytes) (le_at (length-drop start bytes) (omega arith)) ∙ same in
    ap (rows_at q width) (new_is ∙ copied bytes start end to)
    ∙ put_current {end = to + k} q width bytes (take k (drop start bytes)) at (omega arith) q_small long wide
    ∙ ap (with_current (rows_at q width bytes)) (row_is ∙ above_is)
    ∙ ap (λ w. with_current w h.current) turned_is

-- the rows of bytes that are cut at a place: what is in front of the row there, the row, and what is behind it
pub rows_cut : {n : ℕ} {above second : List ℕ} (p width : ℕ) (front row back : List ℕ) → n ≡ row_bytes width → length front ≡ p * n → length row ≡ n →
    ((row : List ℕ) → length row ≡ n → row_placed n (front ++ (row ++ back)) (next_place p) ≡ above) →
    ((row : List ℕ) → length row ≡ n → row_placed n (front ++ (row ++ back)) (next_place (next_place p)) ≡ second) → rows_at p width (front ++ (row ++ back)) ≡ three width row above second
rows_cut {n} p width front row back long lf lr is_above is_second =
    rw (← long)
    (same_rows width (ap (take n) (drop_at front (row ++ back) (p * n) lf) ∙ take_at row back n lr) (is_above row lr) (is_second row lr))

-- a row of nothing in front
none_of : (l : List ℕ) → length l ≡ 0 → l ≡ []
none_of [] h = refl
none_of (x ∷ l) h = absurd (omega arith)
