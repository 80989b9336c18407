-- The rows that a tally has counted.
use Rattle.std.specs.Prelude.{ℕ, ◌+◌, ◌*◌, ◌%◌, ◌^◌, ◌≡◌, ◌≤◌, ◌<◌, min, max, Bool, List, length, slice_index, take, ◌==◌, if◌then◌else◌}
use Rattle.std.specs.List.{AllByRecursion}
use Rattle.raster_core.specs.Lines.{Lines}
use Rattle.raster_core.specs.Offset.{agreement}
use Rattle.raster_core.specs.Machine.Words.{AgreesAt, AgreesBelowItself}
use Rattle.raster_core.specs.declared.counted.Counted.{Counted}
use Rattle.raster_core.specs.declared.tally.Tally.{Tally}

-- the template of the contexts, and the greatest offset that may be chosen
abbrev pub is_two_line : Tally → Bool
is_two_line t = t.two_line == 1

abbrev pub most_of : Tally → ℕ
most_of t = min t.most 127

-- the number of rows added
abbrev pub row_count : Tally → ℕ
row_count t = t.rows

-- the least offset that may be chosen
abbrev pub least_lag : Bool → ℕ
least_lag two_line = if two_line then 5 else 3

-- the last offset that is counted: beyond the width, every adaptive pixel is white, and all offsets agree equally
abbrev pub last_lag : Bool → ℕ → ℕ → ℕ
last_lag two_line most width = min most (max width (least_lag two_line))

-- the count at a lag, modulo 2 ^ 64, including the last row as often as it was added since its counts were
abbrev pub counted_at : Tally → ℕ → ℕ
counted_at t lag = (slice_index t.counts lag + t.times * slice_index t.last.agreed lag) % 2 ^ 64

-- the tallies differ only in their counts
pub record SameButCounts (old new : Tally) : Type 0 where
  pub agreeing : new.agreeing ≡ old.agreeing
  pub rows : new.rows ≡ old.rows
  pub two_line : new.two_line ≡ old.two_line
  pub most : new.most ≡ old.most

-- both tallies have the same counts at these lags, and differ only in how they store them
pub record CountsAlike (low high : ℕ) (old new : Tally) : Type 0 where
  pub counted : (lag : ℕ) → low ≤ lag → lag ≤ high → counted_at new lag ≡ counted_at old lag
  pub agreeing : new.agreeing ≡ old.agreeing
  pub rows : new.rows ≡ old.rows
  pub two_line : new.two_line ≡ old.two_line
  pub most : new.most ≡ old.most

-- the counts are those of the row in these bytes
abbrev pub CountsRow : Counted → List ℕ → Type 0
CountsRow c bytes = AgreesAt bytes c.width c.least c.most c.agreed

-- The stored numbers are those of the stored row, if there is one: its counts, and the count below itself, if that was made.
pub record KeepsCounts (c : Counted) : Type 0 where
  pub counts : c.len ≤ 1408 → CountsRow c (take c.len c.row)
  pub below : c.len ≤ 1408 → c.below_itself ≤ 2 ^ 32 → AgreesBelowItself (take c.len c.row) c.width c.below_itself

-- The tally has counted these rows, at this width and offset. It stores the right numbers for the last row, for adding it again.
pub record CountsLines (t : Tally) (width current : ℕ) (rows : List Lines) : Type 0 where
  pub number : t.rows ≡ length rows
  pub width_is : 0 < length rows → t.width ≡ width
  pub wide : AllByRecursion (λ lines. length lines.row ≡ width) rows
  pub none : length rows ≡ 0 → (lag : ℕ) → counted_at t lag ≡ 0
  pub each : (lag : ℕ) → least_lag (is_two_line t) ≤ lag → lag ≤ last_lag (is_two_line t) (most_of t) width → counted_at t lag ≡ agreement rows lag
  pub agreeing : t.agreeing ≡ agreement rows current
  pub kept : KeepsCounts t.last
