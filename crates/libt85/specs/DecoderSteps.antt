-- The effects of the steps of a decoder in a C caller's struct.
use Rattle.std.specs.Prelude.{ℕ, ◌*◌, ◌+◌, ◌-◌, ◌≡◌, ◌≤◌, ◌<◌, ◌++◌, ⊤, length, min, take, ◌⊎◌, Bool, true, false, List, [], Some}
use Rattle.std.specs.Int.{div_ceil}
use Rattle.qm_core.specs.Place.{Estimate}
use Rattle.raster_core.specs.Packed.{Held, rows_at}
use Rattle.t85_core.specs.declared.fault.Fault.TheVariants.{ShortHeader}
use Rattle.t85_core.specs.declared.pieces.Outcome.{Outcome}
use Rattle.t85_core.specs.declared.pieces.Outcome.TheVariants as outcome
use Rattle.t85_core.specs.declared.pieces.PieceDecoder.{PieceDecoder}
use Rattle.t85_core.specs.Fault.{fault_number}
use Rattle.t85_core.specs.Feeds.{HasFed}
use Rattle.t85_core.specs.Header.{HeaderOf, header_fault}
use Rattle.t85_core.specs.Lent.{decoder_view}
use Rattle.t85_core.specs.Numbers.{ArePieceNumbers}
use Rattle.t85_core.specs.Options.{fields_of}
use Rattle.t85_core.specs.Pieces.{HasDecoded}
use Rattle.t85_core.specs.declared.header.Header.{Header}
use Rattle.libt85.specs.Decoder.{HasEnded}
use Rattle.libt85.specs.DecoderLimit.{AnnouncesMore}
use Rattle.libt85.specs.DecoderState.{BehindHeader, Hold, bytes_held_by}
use Rattle.libt85.specs.declared.decoder.T85Decoder.{T85Decoder}
use Rattle.libt85.specs.declared.decoder.Answer.{Answer}
use Rattle.libt85.specs.declared.decoder.Answer.TheVariants as answer

-- everything but the numbers of the engine, the place of the row, and the stored bytes
pub record KeepsRest (d d' : T85Decoder) : Type 0 where
  pub version : d'.version ≡ d.version
  pub next : d'.next ≡ d.next
  pub limit : d'.max_rows ≡ d.max_rows
  pub header : d'.header ≡ d.header
  pub learned : d'.learned ≡ d.learned
  pub given : d'.given ≡ d.given

-- a row more is counted, and nothing else is changed
pub record CountsOneMore (d d' : T85Decoder) : Type 0 where
  pub version : d'.version ≡ d.version
  pub next : d'.next ≡ d.next
  pub limit : d'.max_rows ≡ d.max_rows
  pub header : d'.header ≡ d.header
  pub learned : d'.learned ≡ d.learned
  pub place : d'.place ≡ d.place
  pub numbers : d'.numbers ≡ d.numbers
  pub held : bytes_held_by d' ≡ bytes_held_by d
  pub given : d'.given ≡ d.given + 1

-- The result of parsing twenty bytes as a header. A header that is rejected leaves the height as it is.
abbrev pub IsJudged : T85Decoder → T85Decoder → Answer → Type 0
IsJudged d d' answer.Header = BehindHeader d' d.header []
IsJudged d d' answer.TooManyRows = HasEnded d' 24 × AnnouncesMore d.header d'.max_rows × (d'.numbers.height ≡ d.numbers.height)
IsJudged d d' (answer.Broken fault) = HasEnded d' (fault_number fault) × (header_fault d.header ≡ Some fault) × (d'.numbers.height ≡ d.numbers.height)
IsJudged d d' answer.Row = ⊥
IsJudged d d' answer.More = ⊥
IsJudged d d' answer.Done = ⊥
IsJudged d d' answer.ShortWindow = ⊥
IsJudged d d' answer.NotBegun = ⊥
IsJudged d d' (answer.Ended status) = ⊥

-- A decoder among the rows of the stream with this header, which may return rows.
pub record MayTakeRows (header : Header) (d : T85Decoder) : Type 0 where
  pub version_is : d.version ≡ 2
  pub next_is : d.next ≡ 2
  pub place_to : d.place < 3
  pub header_of : HeaderOf d.header (fields_of header)

-- These bytes of a stream were consumed, and these rows returned, packed, and this decoder of the engine goes on.
pub record ContinuesRows (header : Header) (decoder : PieceDecoder) (hold : Hold) (stream out : List ℕ) : Type 0 where
  pub text : List ℕ
  pub stream_is : stream ≡ hold.decoder.header ++ text
  pub has : HasFed (decoder_view decoder (rows_at hold.decoder.place header.xd hold.window) hold.decoder.learned) (bytes_held_by hold.decoder) text out
  pub count_is : length out ≡ hold.decoder.given * div_ceil header.xd 8

-- This decoder has decoded whatever a decoder with the numbers of the struct has.
abbrev pub IsResumed : Header → PieceDecoder → T85Decoder → Type 0
IsResumed header decoder d =
    (other : PieceDecoder) (rows : Held) (learned : List Estimate) (text out : List ℕ) → HasDecoded (decoder_view other rows learned) text out → fields_of other.image.header ≡ fields_of header →
    ArePieceNumbers d.numbers other → HasDecoded (decoder_view decoder rows learned) text out

-- The decoder is behind the header, or among the rows.
pub record MayEnterRows (header : Header) (d : T85Decoder) : Type 0 where
  pub version_is : d.version ≡ 2
  pub next_is : (d.next ≡ 1) ⊎ ((d.next ≡ 2) × (d.place < 3))
  pub header_of : HeaderOf d.header (fields_of header)

-- The header is incomplete.
abbrev pub IsAwaited : T85Decoder → T85Decoder → Bool → Answer → Type 0
IsAwaited d d' is_all answer.More = (is_all ≡ false) × (d' ≡ d)
IsAwaited d d' is_all (answer.Broken fault) = (is_all ≡ true) × (fault ≡ ShortHeader) × HasEnded d' (fault_number fault) × (d'.numbers.height ≡ d.numbers.height)
IsAwaited d d' is_all answer.Header = ⊥
IsAwaited d d' is_all answer.Row = ⊥
IsAwaited d d' is_all answer.Done = ⊥
IsAwaited d d' is_all answer.TooManyRows = ⊥
IsAwaited d d' is_all answer.ShortWindow = ⊥
IsAwaited d d' is_all answer.NotBegun = ⊥
IsAwaited d d' is_all (answer.Ended status) = ⊥

-- The stream is rejected for the limit. The height stays.
pub record IsOverLimit (d d' : T85Decoder) (what : Answer) : Type 0 where
  pub what_is : what ≡ answer.TooManyRows
  pub ended : HasEnded d' 24
  pub height_is : d'.numbers.height ≡ d.numbers.height
  pub limit_is : d'.max_rows ≡ d.max_rows

-- a row is returned, where this many are certain
pub record IsCounted (d d' : T85Decoder) (certain : ℕ) (what : Answer) : Type 0 where
  pub what_is : what ≡ answer.Row
  pub counts : CountsOneMore d d'
  pub certain_to : certain ≤ d.max_rows
  pub given_to : d'.given ≤ d.max_rows

-- more bytes are needed, where this many rows are certain
pub record IsAsked (d d' : T85Decoder) (certain : ℕ) (what : Answer) : Type 0 where
  pub what_is : what ≡ answer.More
  pub same : d' ≡ d
  pub certain_to : certain ≤ d.max_rows

abbrev pub IsRowTold : T85Decoder → T85Decoder → ℕ → Answer → Type 0
IsRowTold d d' certain what = IsCounted d d' certain what ⊎ (IsOverLimit d d' what × ((d.max_rows < certain) ⊎ (d.max_rows ≤ d.given)))

abbrev pub IsMoreTold : T85Decoder → T85Decoder → ℕ → Answer → Type 0
IsMoreTold d d' certain what = IsAsked d d' certain what ⊎ (IsOverLimit d d' what × (d.max_rows < certain))

-- The result for one of the engine, where this many rows are certain. After an end, the height stays. After a whole image, the
-- other numbers and the stored bytes stay too.
abbrev pub IsToldOf : Outcome → T85Decoder → T85Decoder → ℕ → Answer → Type 0
IsToldOf outcome.Row d d' certain what = IsRowTold d d' certain what
IsToldOf outcome.More d d' certain what = IsMoreTold d d' certain what
IsToldOf (outcome.Done height) d d' certain what = (what ≡ answer.Done) × HasEnded d' 0 × (d'.numbers.height ≡ d.numbers.height) × (d'.numbers ≡ d.numbers) × (bytes_held_by d' ≡ bytes_held_by d)
IsToldOf (outcome.Broken fault) d d' certain what = (what ≡ answer.Broken fault) × HasEnded d' (fault_number fault) × (d'.numbers.height ≡ d.numbers.height)

-- this many of these bytes were added to those of the header
pub record IsFilled (d d' : T85Decoder) (bytes : List ℕ) (count : ℕ) : Type 0 where
  pub version_is : d'.version ≡ d.version
  pub next_is : d'.next ≡ d.next
  pub limit_is : d'.max_rows ≡ d.max_rows
  pub height_is : d'.numbers.height ≡ d.numbers.height
  pub count_is : count ≡ min (length bytes) (20 - d.header_len)
  pub len_is : d'.header_len ≡ d.header_len + count
  pub long : length d'.header ≡ 20
  pub filled : take d'.header_len d'.header ≡ take d.header_len d.header ++ take count bytes

-- a result among the rows
abbrev pub IsOfEngine : Answer → Type 0
IsOfEngine answer.Row = ⊤
IsOfEngine answer.More = ⊤
IsOfEngine answer.Done = ⊤
IsOfEngine (answer.Broken fault) = ⊤
IsOfEngine answer.Header = ⊥
IsOfEngine answer.TooManyRows = ⊤
IsOfEngine answer.ShortWindow = ⊥
IsOfEngine answer.NotBegun = ⊥
IsOfEngine (answer.Ended status) = ⊥
