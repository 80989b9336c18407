-- The rows that a choice has counted.
use Rattle.std.specs.Int.{div_ceil}
use Rattle.std.specs.Prelude.{ℕ, ◌+◌, ◌%◌, ◌*◌, ◌^◌, ◌≡◌, ◌≤◌, ◌==◌, ◌&&◌, ◌||◌, nat_le, not, min, Bool, List, map, slice_index}
use Rattle.raster_core.specs.Lines.{Lines, numbers_from}
use Rattle.raster_core.specs.Choice.{Counting, PixelCounts, counts_of}
use Rattle.raster_core.specs.Packed.{packed_row}
use Rattle.raster_core.specs.Raster.{pixel_at}
use Rattle.raster_core.specs.Tally.{least_lag}
use Rattle.raster_core.specs.Machine.Words.{is_between, part_among}
use Rattle.raster_core.specs.declared.choice.Choice.{Choice}
use Rattle.raster_core.specs.declared.columns.Columns.{Columns}

-- how it counts; numbers above the limits count as the limits
abbrev pub counting_of : Choice → Counting
counting_of c = record {
  mode = record { two_line = not (c.two_line == 0); typical = not (c.typical == 0) };
  most = min c.most 127;
  width = min c.width (2 ^ 20);
}

-- whether the offset is reset after each stripe
abbrev pub is_reset : Choice → Bool
is_reset c = not (c.reset == 0)

-- whether the offset may be chosen: 0 is the nominal position
abbrev pub is_offered : Counting → ℕ → Bool
is_offered c offset = (offset == 0) || (nat_le (least_lag c.mode.two_line) offset && nat_le offset c.most)

-- the stored counts
abbrev pub counts_in : Choice → PixelCounts
counts_in c = record { pixels = c.pixels; at = slice_index c.counts }

-- it has these counts, for the nominal position and for each lag
pub record HasCounts (c : Choice) (n : PixelCounts) : Type 0 where
  pub pixels : c.pixels ≡ n.pixels
  pub nominal : slice_index c.counts 0 ≡ n.at 0
  pub lags : (lag : ℕ) → least_lag (not (c.two_line == 0)) ≤ lag → lag ≤ min c.most 127 → slice_index c.counts lag ≡ n.at lag

-- it has counted these rows of a stripe
abbrev pub HasCounted : Choice → List Lines → Type 0
HasCounted c stripe = HasCounts c (counts_of (counting_of c) stripe)

-- a row of this width: the first pixels, and white ones behind the last
abbrev pub fit_row : ℕ → List Bool → List Bool
fit_row width row = map (pixel_at row) (numbers_from 0 width)

-- the same for a row and the row above it
abbrev pub fit_lines : ℕ → Lines → Lines
fit_lines width lines = record lines { row = fit_row width lines.row; above = fit_row width lines.above }

-- the bytes of a row and of the row above it are these lines, padded with white
pub record AreLines (row above : List ℕ) (lines : Lines) : Type 0 where
  pub row_is : row ≡ packed_row lines.row
  pub above_is : above ≡ packed_row lines.above

-- the pixels of a row in these columns are added to the count at an offset
abbrev pub AddsAt : Columns → Choice → Choice → List ℕ → List ℕ → ℕ → Type 0
AddsAt columns old new row above offset = (lines : Lines) → row ≡ packed_row lines.row → above ≡ packed_row lines.above →
    slice_index new.counts offset ≡ (slice_index old.counts offset + part_among (is_between columns.first columns.end) lines offset 0 (64 * div_ceil columns.end 64)) % 2 ^ 32
