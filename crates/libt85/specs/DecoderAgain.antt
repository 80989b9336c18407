-- The effect of `t85_decode_again`.
use Rattle.std.specs.Prelude.{ℕ, ◌*◌, ◌+◌, ◌≡◌, ◌≤◌, ◌<◌, List, ◌++◌, length, take}
use Rattle.std.specs.Int.{div_ceil}
use Rattle.raster_core.specs.Packed.{rows_at}
use Rattle.t85_core.specs.Lent.{decoder_view}
use Rattle.t85_core.specs.Repeats.{CanRepeat}
use Rattle.t85_core.specs.RowSink.{copies}
use Rattle.libt85.specs.Decoded.{window_bytes}
use Rattle.libt85.specs.Decoder.{DecoderIsNotBegun, LacksWindow, StandAt}
use Rattle.libt85.specs.DecoderState.{CountsRows, HasRead, Hold, InRows}

-- The row at the struct's place in the window was returned so many times more. It is at the new place, too.
pub record ReturnsAgain (old new : Hold) (count : ℕ) (stream out : List ℕ) : Type 0 where
  pub row : List ℕ
  pub stands : StandAt (old.decoder.place * length row) row old.window
  pub stays : StandAt (new.decoder.place * length row) row new.window
  pub has : CountsRows new stream (out ++ copies count row)
  pub whole : length row ≡ div_ceil has.rows.decoder.image.header.xd 8

-- A row was returned, and the consumed bytes determine that the next row equals it. The limit and the window allow that row.
pub record MustGiveAgain (hold : Hold) : Type 0 where
  pub given : 0 < hold.decoder.given
  pub within : hold.decoder.given < hold.decoder.max_rows
  pub stream : List ℕ
  pub out : List ℕ
  pub rows : InRows hold stream out
  pub long : window_bytes rows.decoder.image.header.xd ≤ length hold.window
  pub repeats : CanRepeat (decoder_view rows.decoder
      (rows_at hold.decoder.place rows.decoder.image.header.xd (take (window_bytes rows.decoder.image.header.xd) hold.window)) hold.decoder.learned)

-- the effect of the call, and the number of rows that it returns
pub record GivesAgain (old new : Hold) (count : ℕ) : Type 0 where
  pub rows : 0 < count → (stream out : List ℕ) → HasRead old stream out → ReturnsAgain old new count stream out
  -- it does not stop while the bytes determine that the next row equals the last
  pub all : (stream out : List ℕ) → HasRead old stream out → MustGiveAgain new → ⊥
  pub none : count ≡ 0 → new ≡ old
  pub within : 0 < count → new.decoder.given ≤ new.decoder.max_rows
  -- an earlier call has returned a row
  pub after_a_row : 0 < count → 0 < old.decoder.given
  -- the caller's limit is unchanged
  pub limit : new.decoder.max_rows ≡ old.decoder.max_rows
  pub not_begun : DecoderIsNotBegun old.decoder → count ≡ 0
  pub ended : old.decoder.next ≡ 3 → count ≡ 0
  pub short : LacksWindow old → count ≡ 0
