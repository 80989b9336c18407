-- The limit of rows of a decoder in a C caller's struct.
use Rattle.std.specs.Prelude.{ℕ, ◌*◌, ◌≡◌, ◌≤◌, ◌<◌, ⊤, ◌⊎◌, false, List, ◌++◌, length}
use Rattle.std.specs.Int.{div_ceil}
use Rattle.t85_core.specs.Header.{Fields, HeaderOf, is_variable}
use Rattle.t85_core.specs.Options.{fields_of}
use Rattle.t85_core.specs.Pieces.{IsLeastHeight}
use Rattle.libt85.specs.declared.decoder.T85Decoder.{T85Decoder}
use Rattle.libt85.specs.declared.decoder.Answer.{Answer}
use Rattle.libt85.specs.declared.decoder.Answer.TheVariants as answer
use Rattle.libt85.specs.DecoderState.{Hold, hold_of, InRows}

-- a stream's header, without VLENGTH, announces more rows than the limit
pub record AnnouncesMore (stream : List ℕ) (rows : ℕ) : Type 0 where
  pub header : Fields
  pub header_of : HeaderOf stream header
  pub fixed : is_variable header ≡ false
  pub more : rows < header.yd

-- More rows than the limit are certain for a decoder in this state.
pub record IsCertainOfMore {hold : Hold} {stream out : List ℕ} (has : InRows hold stream out) (limit : ℕ) : Type 0 where
  pub rows : ℕ
  pub certain : IsLeastHeight (fields_of has.decoder.image.header) has.has.decoded rows
  pub more : limit < rows

-- The stream is rejected in place of a row: these bytes determine one more row. With it, more rows than the limit are certain, or
-- as many as the limit had been returned.
pub record ReplacesRow (d : T85Decoder) (stream out : List ℕ) : Type 0 where
  pub hold : Hold
  pub row : List ℕ
  pub has : InRows hold stream (out ++ row)
  pub whole : length row ≡ div_ceil has.decoder.image.header.xd 8
  pub why : IsCertainOfMore has d.max_rows ⊎ (d.max_rows * div_ceil has.decoder.image.header.xd 8 ≤ length out)
  pub height_is : d.numbers.height ≡ hold.decoder.numbers.height

-- no more rows than the limit are certain
abbrev pub IsWithinLimit : T85Decoder → Type 0
IsWithinLimit d = (window stream out : List ℕ) (k : InRows (hold_of d window) stream out) (rows : ℕ) → IsLeastHeight (fields_of k.decoder.image.header) k.has.decoded rows → rows ≤ d.max_rows

-- This holds if the stream goes on.
abbrev pub StaysWithinLimit : Answer → T85Decoder → Type 0
StaysWithinLimit answer.Row d = IsWithinLimit d
StaysWithinLimit answer.More d = IsWithinLimit d
StaysWithinLimit answer.Header d = ⊤
StaysWithinLimit answer.Done d = ⊤
StaysWithinLimit (answer.Broken fault) d = ⊤
StaysWithinLimit answer.TooManyRows d = ⊤
StaysWithinLimit answer.ShortWindow d = ⊤
StaysWithinLimit answer.NotBegun d = ⊤
StaysWithinLimit (answer.Ended status) d = ⊤
