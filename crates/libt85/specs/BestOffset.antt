-- The best offset for the next stripe, for a C caller that has all its rows.
use Rattle.std.specs.Prelude.{ℕ, ◌/◌, ◌-◌, ◌≡◌, ◌≢◌, ◌==◌, ◌||◌, ◌&&◌, not, nat_lt, min, Bool, true, List, ◌++◌, length, drop, Option, None, unwrap_or}
use Rattle.std.specs.Int.{div_ceil}
use Rattle.raster_core.specs.Raster.{Raster, height}
use Rattle.t85_core.specs.BestOffset.{IsBestFor}
use Rattle.t85_core.specs.Coding.{has_bit}
use Rattle.t85_core.specs.RowImage.{MayCome, may_name}
use Rattle.t85_core.specs.States.Trial.{packed_rows}
use Rattle.libt85.specs.Decoded.{window_bytes}
use Rattle.libt85.specs.Encoded.{or_else, status_if}
use Rattle.libt85.specs.Encoder.{EncoderHold, HasBeenEnded, EncoderIsNotBegun, OfEach, encoder_hold, name_refusal}
use Rattle.libt85.specs.declared.encoder.T85Encoder.{T85Encoder}

-- the greatest number of rows that the next stripe may have
abbrev pub most_rows : T85Encoder → ℕ
most_rows d = min d.stripe_rows (d.height - d.rows)

-- the number of whole rows in this many bytes
abbrev pub whole_rows : T85Encoder → ℕ → ℕ
whole_rows d len = len / div_ceil d.width 8

-- the number of rows of the next stripe in this many bytes: rows behind the stripe, and an incomplete last row, are ignored
abbrev pub stripe_rows_in : T85Encoder → ℕ → ℕ
stripe_rows_in d len = min (whole_rows d len) (most_rows d)

-- whether the rows are too few: none, or fewer than the stripe has, if no height was announced
abbrev pub are_too_few : T85Encoder → ℕ → Bool
are_too_few d len = (whole_rows d len == 0) || ((d.announces_height == 0) && nat_lt (whole_rows d len) (most_rows d))

-- The first error for rows, a window and scratch memory of these lengths: all rows were received, a stripe is in progress, rows
-- are missing, or the window or the scratch memory is short.
abbrev pub best_refusal : T85Encoder → ℕ → ℕ → ℕ → Option ℕ
best_refusal d rows window scratch =
    or_else (status_if (d.rows == d.height) 54)
    (or_else (status_if (not (d.in_stripe == 0)) 56)
    (or_else (status_if (are_too_few d rows) 36)
    (status_if (nat_lt window (window_bytes d.width) || nat_lt scratch (window_bytes d.width)) 19)))

-- The offset is the best one for the next stripe, if these are its rows: of each raster that may follow, with these rows next.
abbrev pub IsBestNext : EncoderHold → List (List Bool) → ℕ → Type 0
IsBestNext hold part offset = OfEach hold (λ image rows sent. (raster : Raster) → MayCome image (rows ++ part) raster → length part ≡ min image.settings.stripe_rows (height raster - length rows) →
    IsBestFor image.settings raster (length rows / image.settings.stripe_rows) offset)

-- the memory that a call borrows: the window, the scratch memory and the offset
pub record BestMemory : Type 0 where
  pub window : List ℕ
  pub scratch : List ℕ
  pub offset : ℕ

abbrev pub best_memory : List ℕ → List ℕ → ℕ → BestMemory
best_memory window scratch offset = record { window = window; scratch = scratch; offset = offset }

-- The effect of `t85_best_offset`. `t85_encode_offset` accepts the result, if it accepts the offset in use.
pub record FindsBest (d : T85Encoder) (rows : List ℕ) (old new : BestMemory) (answer : ℕ) : Type 0 where
  pub status_is : (window : List ℕ) → OfEach (encoder_hold d window) (λ image come sent. answer ≡ unwrap_or (best_refusal d (length rows) (length old.window) (length old.scratch)) 0)
  pub ended : HasBeenEnded d → answer ≡ 54
  pub not_begun : EncoderIsNotBegun d → answer ≡ 53
  pub window : new.window ≡ old.window
  pub refused : answer ≢ 0 → new ≡ old
  pub beyond : drop (window_bytes d.width) new.scratch ≡ drop (window_bytes d.width) old.scratch
  pub best : answer ≡ 0 → IsBestNext (encoder_hold d old.window) (packed_rows d.width rows (stripe_rows_in d (length rows))) new.offset
  pub named : answer ≡ 0 → may_name (has_bit d.options 6) d.most_offset d.offset ≡ true → name_refusal d new.offset ≡ None
