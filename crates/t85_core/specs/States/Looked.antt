-- The state carried to a stripe, looked up in the whole raster.
use Rattle.std.specs.Prelude.{ℕ, zero, suc, ◌-◌, ◌*◌, ◌≡◌, Bool, false, List, [], map, if◌then◌else◌, ◌==◌, slice_index_or, filter_map}
use Rattle.raster_core.specs.Raster.{Raster, row_above}
use Rattle.raster_core.specs.Lines.{Lines, numbers_from}
use Rattle.t85_core.specs.Coding.{Coding, fresh_stripe, rows_of, lines_of, moved_at, last_or, learned_at}
use Rattle.t85_core.specs.States.State.{StripeStart}
use Rattle.t85_core.specs.Jbg.{Settings, cut, coding_of, current_offset, move_before}
use Rattle.t85_core.specs.States.Written.{EncoderStart, next_move}

-- ---- the state before row y, if all rows above row t are white
abbrev pub offset_before : Coding → ℕ → ℕ → ℕ
offset_before c t y = last_or 0 (filter_map (moved_at c) (numbers_from t (y - t)))

abbrev pub flag_before : Coding → ℕ → ℕ → Bool
flag_before c t y = if t == y then false else slice_index_or c.flags (y - 1) false

-- The row above which stripe i sees white.
abbrev pub top : Coding → ℕ → ℕ
top c i = fresh_stripe c i * c.stripe_rows

-- The state carried to stripe i, which begins at row y.
pub record CarryAt (c : Coding) (i y : ℕ) (b : StripeStart) : Type 0 where
  pub learned : b.learned ≡ learned_at c i
  pub offset : b.offset ≡ offset_before c (top c i) y
  pub previous : b.previous ≡ flag_before c (top c i) y
  pub above : b.above ≡ row_above c.raster (top c i) y 1
  pub second : b.second ≡ row_above c.raster (top c i) y 2

-- The lines of the stripe before stripe i.
abbrev pub lines_before : Settings → Raster → ℕ → List Lines
lines_before s raster zero = []
lines_before s raster (suc i) = map (lines_of (cut s raster)) (rows_of (cut s raster) i)

-- The offset carried to stripe i.
abbrev pub offset_to : Settings → Raster → ℕ → ℕ
offset_to s raster zero = 0
offset_to s raster (suc i) = current_offset s (cut s raster) i

-- The state that an encoder carries to stripe i of a raster.
pub record CourseAt (s : Settings) (raster : Raster) (i : ℕ) (at : EncoderStart) : Type 0 where
  pub stripe : at.stripe ≡ i
  pub carry : CarryAt (coding_of s raster) i (i * s.stripe_rows) at.carry
  pub counted : at.counted ≡ lines_before s raster i
  pub offset : at.carry.offset ≡ offset_to s raster i
  -- The move before stripe i is the named one or, if none is named, the one chosen by the rows of the stripe before.
  pub move : next_move s raster.width at ≡ move_before s (cut s raster) i
