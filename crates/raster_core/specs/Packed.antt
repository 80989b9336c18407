-- Rows in bytes, and the rows in the memory of a window.
use Rattle.std.specs.Prelude.{ℕ, ◌+◌, ◌-◌, ◌*◌, ◌≡◌, ◌==◌, Bool, List, ◌++◌, length, take, drop, map, if◌then◌else◌}
use Rattle.std.specs.Int.{div_ceil}
use Rattle.raster_core.specs.Raster.{pixel_at, white_row}
use Rattle.raster_core.specs.Lines.{Lines, numbers_from, binary}

abbrev pub row_bytes : ℕ → ℕ
row_bytes width = div_ceil width 8

-- a row in bytes, the first pixel in the most significant bit, padded with white
abbrev pub packed_row : List Bool → List ℕ
packed_row row = map (λ k. binary (map (pixel_at row) (numbers_from (8 * k) 8))) (numbers_from 0 (row_bytes (length row)))

-- the contents of a window: a row in bytes and the two above it
pub record Held : Type 0 where
  pub width : ℕ
  pub current : List ℕ
  pub above : List ℕ
  pub second : List ℕ

abbrev pub held_rows : ℕ → List ℕ → List ℕ → List ℕ → Held
held_rows width current above second = record { width = width; current = current; above = above; second = second }

-- the row at a position in bytes that are rows of this length
abbrev pub row_placed : ℕ → List ℕ → ℕ → List ℕ
row_placed long bytes place = take long (drop (place * long) bytes)

-- bytes of which those from start to end are replaced
abbrev pub with_part : ℕ → ℕ → List ℕ → List ℕ → List ℕ
with_part start end bytes part = take start bytes ++ (part ++ drop (end - start) (drop start bytes))

-- the next of three positions in a ring
abbrev pub next_place : ℕ → ℕ
next_place place = if place == 2 then 0 else place + 1

-- the contents of a window whose current row is at this position of its bytes, and the two rows above at the next two positions
abbrev pub rows_at : ℕ → ℕ → List ℕ → Held
rows_at place width bytes =
    record {
      width = width;
      current = row_placed (row_bytes width) bytes place;
      above = row_placed (row_bytes width) bytes (next_place place);
      second = row_placed (row_bytes width) bytes (next_place (next_place place));
    }

-- the same for bytes that are split before and after the current row
abbrev pub rows_beside : ℕ → ℕ → List ℕ → List ℕ → List ℕ → Held
rows_beside place width front row back = rows_at place width (front ++ (row ++ back))

-- the same contents with another current row
abbrev pub with_current : Held → List ℕ → Held
with_current w row = record { width = w.width; current = row; above = w.above; second = w.second }

-- the contents are these lines, padded with white
pub record HasLines (w : Held) (lines : Lines) : Type 0 where
  pub row_is : w.current ≡ packed_row lines.row
  pub above_is : w.above ≡ packed_row lines.above
  pub second_is : w.second ≡ packed_row lines.second
  pub row_wide : length lines.row ≡ w.width
  pub above_wide : length lines.above ≡ w.width
  pub second_wide : length lines.second ≡ w.width

-- three white rows
abbrev pub white_lines : ℕ → Lines
white_lines width = record { row = white_row width; above = white_row width; second = white_row width }

-- the row k above the current one
abbrev pub row_of : Held → ℕ → List ℕ
row_of w k = if k == 0 then w.current else if k == 1 then w.above else w.second

-- both have the same two rows above the current one
pub record SameAbove (old new : Held) : Type 0 where
  pub width_is : new.width ≡ old.width
  pub above_is : new.above ≡ old.above
  pub second_is : new.second ≡ old.second
