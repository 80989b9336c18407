-- The states of a decoder in a C caller's struct.
use Rattle.std.specs.Prelude.{ℕ, ◌*◌, ◌≡◌, ◌≤◌, ◌<◌, ◌⊎◌, ◌==◌, ◌||◌, not, if◌then◌else◌, false, List, [], ◌++◌, length, take}
use Rattle.std.specs.Int.{div_ceil}
use Rattle.raster_core.specs.Packed.{rows_at}
use Rattle.t85_core.specs.declared.pieces.PieceDecoder.{PieceDecoder}
use Rattle.t85_core.specs.Header.{Fields, HeaderOf, is_variable}
use Rattle.t85_core.specs.Lent.{decoder_view}
use Rattle.t85_core.specs.Numbers.{ArePieceNumbers}
use Rattle.t85_core.specs.Options.{fields_of}
use Rattle.t85_core.specs.Feeds.{HasFed}
use Rattle.libt85.specs.Decoded.{window_bytes}
use Rattle.libt85.specs.declared.decoder.T85Decoder.{T85Decoder}

-- the bytes that were consumed and are not decoded yet
abbrev pub bytes_held_by : T85Decoder → List ℕ
bytes_held_by d = take d.held_len d.held

-- the reported height
abbrev pub height_of_decoder : T85Decoder → ℕ
height_of_decoder d = if not (d.version == 2) || (d.next == 0) then 0 else d.numbers.height

-- the state between two calls: the struct, and the bytes of the window
pub record Hold : Type 0 where
  pub decoder : T85Decoder
  pub window : List ℕ

abbrev pub hold_of : T85Decoder → List ℕ → Hold
hold_of decoder window = record { decoder = decoder; window = window }

-- ---- the states of a decoder that has consumed these bytes of a stream, and has returned these rows, packed

-- in the header
pub record InHeader (d : T85Decoder) (stream out : List ℕ) : Type 0 where
  pub version_is : d.version ≡ 2
  pub next_is : d.next ≡ 0
  pub few : d.header_len < 20
  pub height_is : d.numbers.height ≡ 0
  pub stream_is : stream ≡ take d.header_len d.header
  pub out_is : out ≡ []

-- behind the header, which without VLENGTH announces no more rows than the limit
pub record BehindHeader (d : T85Decoder) (stream out : List ℕ) : Type 0 where
  pub version_is : d.version ≡ 2
  pub next_is : d.next ≡ 1
  pub header : Fields
  pub header_of : HeaderOf d.header header
  pub within : is_variable header ≡ false → header.yd ≤ d.max_rows
  pub height_is : d.numbers.height ≡ header.yd
  pub stream_is : stream ≡ d.header
  pub out_is : out ≡ []

-- among the rows: the struct contains the numbers of a decoder that has decoded these bytes except the last ones
pub record InRows (hold : Hold) (stream out : List ℕ) : Type 0 where
  pub version_is : hold.decoder.version ≡ 2
  pub next_is : hold.decoder.next ≡ 2
  pub place_to : hold.decoder.place < 3
  pub decoder : PieceDecoder
  pub header_of : HeaderOf hold.decoder.header (fields_of decoder.image.header)
  pub numbers_are : ArePieceNumbers hold.decoder.numbers decoder
  pub text : List ℕ
  pub stream_is : stream ≡ hold.decoder.header ++ text
  pub has : HasFed (decoder_view decoder (rows_at hold.decoder.place decoder.image.header.xd (take (window_bytes decoder.image.header.xd) hold.window)) hold.decoder.learned)
      (bytes_held_by hold.decoder) text out

-- among the rows, where the struct counts those that were returned
pub record CountsRows (hold : Hold) (stream out : List ℕ) : Type 0 where
  pub rows : InRows hold stream out
  pub count_is : length out ≡ hold.decoder.given * div_ceil rows.decoder.image.header.xd 8

-- The struct and the window are as calls leave them that consumed these bytes of a stream, and returned these rows, packed.
abbrev pub HasRead : Hold → List ℕ → List ℕ → Type 0
HasRead hold stream out = InHeader hold.decoder stream out ⊎ BehindHeader hold.decoder stream out ⊎ CountsRows hold stream out
