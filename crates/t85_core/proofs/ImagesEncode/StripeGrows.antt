-- A row more of a stripe that is written.
use Rattle.std.proofs.Common.{◌≡◌, ◌+◌, ℕ, suc, Bool, List, [], ◌∷◌, ◌++◌, length, Option, refl, ap, ◌∙◌, arith}
use Rattle.raster_core.specs.Lines.{Mode}
use Rattle.t85_core.specs.States.State.{RowStart, lines_with, after_row}
use Rattle.t85_core.specs.States.Written.{next_flag, after_rows, lines_down}

-- rows after rows
pub after_more : (mode : Mode) (move : Option (ℕ × ℕ)) (r : ℕ) (b : RowStart) (rows more : List (List Bool)) →
    after_rows mode move r b (rows ++ more) ≡ after_rows mode move (r + length rows) (after_rows mode move r b rows) more
after_more mode move r b [] more = let at : r ≡ r + 0 = omega arith in ap (λ n. after_rows mode move n b more) at
after_more mode move r b (row ∷ rows) more =
    let at : (r + 1) + length rows ≡ r + suc (length rows) = omega arith in
    let next = after_row mode move r b row (next_flag mode b row) in
    after_more mode move (r + 1) next rows more ∙ ap (λ n. after_rows mode move n (after_rows mode move (r + 1) next rows) more) at

-- the lines of rows, and of more
pub lines_append : (mode : Mode) (move : Option (ℕ × ℕ)) (r : ℕ) (b : RowStart) (rows more : List (List Bool)) →
    lines_down b.above b.second (rows ++ more)
    ≡ lines_down b.above b.second rows ++ lines_down (after_rows mode move r b rows).above (after_rows mode move r b rows).second more
lines_append mode move r b [] more = refl
lines_append mode move r b (first ∷ rows) more = rw (lines_append mode move (r + 1) (after_row mode move r b first (next_flag mode b first)) rows more)

-- the lines of a row more
pub lines_more : (mode : Mode) (move : Option (ℕ × ℕ)) (r : ℕ) (b : RowStart) (rows : List (List Bool)) (row : List Bool) →
    lines_down b.above b.second (rows ++ row ∷ []) ≡ lines_down b.above b.second rows ++ lines_with (after_rows mode move r b rows) row ∷ []
lines_more mode move r b rows row = lines_append mode move r b rows (row ∷ [])
