-- Windows over a C caller's memory.
use Rattle.std.proofs.Common.{◌≡◌, ◌<◌, ◌≤◌, ◌+◌, ◌*◌, ℕ, zero, suc, List, ◌++◌, length, take, drop, take_all, take-append-drop, drop-drop, length-drop, sym, ap, ◌∙◌, arith}
use Rattle.std.specs.Int.{div_ceil}
use Rattle.raster_core.specs.Packed.{row_placed, rows_at}
use Rattle.raster_core.specs.Window.{current_place, held as rows_held, width_of}
use Rattle.raster_core.specs.declared.window.Window.{Window}
use Rattle.libt85.specs.Decoded.{window_bytes}

-- the window has this memory, with the current row at this place
pub record IsOver (window : Window) (place width : ℕ) (memory : List ℕ) : Type 0 where
  pub place_is : current_place window ≡ place
  pub width_is : width_of window ≡ width
  pub rows_are : memory ≡ window.rows.now

-- its rows are those of its memory, at its place
pub window_rows : {window : Window} {place width : ℕ} {memory : List ℕ} → IsOver window place width memory → rows_held window ≡ rows_at place width memory
window_rows over = rw (over.place_is, over.width_is, over.rows_are)

-- memory as long as a window is used whole
pub rows_whole : {width wide : ℕ} (place : ℕ) (memory : List ℕ) → width ≡ wide → length memory ≡ window_bytes width →
    rows_at place wide (take (window_bytes wide) memory) ≡ rows_at place width memory
rows_whole {width} place memory same long = rw (← same, take_all (window_bytes width) memory (omega (arith, long)))

-- the memory of a window is its three rows
three_rows : (l : ℕ) (m : List ℕ) → length m ≡ 3 * l → row_placed l m 0 ++ (row_placed l m 1 ++ row_placed l m 2) ≡ m
three_rows l m long =
    let first : 0 * l ≡ 0 = omega arith in
    let next : 1 * l ≡ l = omega arith in
    let last : 2 * l ≡ l + l = omega arith in
    let short : length (drop l (drop l m)) ≤ l = omega (arith, length-drop l (drop l m), length-drop l m, long) in
    rw (first, next, last, ← drop-drop l l m, take_all l (drop l (drop l m)) short, take-append-drop l (drop l m)) (take-append-drop l m)

same_three : {m m' : List ℕ} (l : ℕ) → length m ≡ 3 * l → length m' ≡ 3 * l → row_placed l m 0 ≡ row_placed l m' 0 → row_placed l m 1 ≡ row_placed l m' 1 →
    row_placed l m 2 ≡ row_placed l m' 2 → m ≡ m'
same_three {m} {m'} l long long' first next last = sym (three_rows l m long) ∙ rw (first, next, last) (three_rows l m' long')

-- so the same rows are in the same memory
pub same_memory : {m m' : List ℕ} (width place : ℕ) → place < 3 → length m ≡ 3 * div_ceil width 8 → length m' ≡ 3 * div_ceil width 8 → rows_at place width m ≡ rows_at place width m' → m ≡ m'
same_memory width zero small long long' same = same_three (div_ceil width 8) long long' (ap (λ w. w.current) same) (ap (λ w. w.above) same) (ap (λ w. w.second) same)
same_memory width (suc zero) small long long' same = same_three (div_ceil width 8) long long' (ap (λ w. w.second) same) (ap (λ w. w.current) same) (ap (λ w. w.above) same)
same_memory width (suc (suc zero)) small long long' same = same_three (div_ceil width 8) long long' (ap (λ w. w.above) same) (ap (λ w. w.second) same) (ap (λ w. w.current) same)
same_memory width (suc (suc (suc place))) small long long' same = absurd (omega (arith, small))
