-- The effect of the calls of a decoder in a C caller's struct.
use Rattle.std.specs.Prelude.{ℕ, ◌+◌, ◌*◌, ◌≡◌, ◌≢◌, ◌≤◌, ◌<◌, ◌⊎◌, ◌==◌, ◌||◌, ◌&&◌, not, if◌then◌else◌, Bool, true, false, List, [], ◌++◌, length, take, drop, Some}
use Rattle.std.specs.Int.{div_ceil}
use Rattle.t85_core.specs.declared.fault.Fault.{Fault}
use Rattle.t85_core.specs.declared.fault.Fault.TheVariants.{Truncated}
use Rattle.t85_core.specs.Fault.{fault_number}
use Rattle.t85_core.specs.Header.{Fields, HeaderOf, header_fault, is_variable}
use Rattle.t85_core.specs.Options.{fields_of}
use Rattle.t85_core.specs.Pieces.{AwaitsHeight, HandsOut, HoldsImage, IsLeastHeight, MayFollow, is_last_piece}
use Rattle.t85_core.specs.Consumed.{ConsumesImage}
use Rattle.t85_core.specs.declared.pieces.More.{More}
use Rattle.t85_core.specs.declared.pieces.PieceDecoder.{PieceDecoder}
use Rattle.t85_core.specs.Numbers.{ArePieceNumbers, StaysInImage}
use Rattle.libt85.specs.Decoded.{window_bytes}
use Rattle.libt85.specs.declared.decoder.T85Decoder.{T85Decoder}
use Rattle.libt85.specs.declared.decoder.Answer.{Answer}
use Rattle.libt85.specs.declared.decoder.Answer.TheVariants as answer
use Rattle.libt85.specs.DecoderState.{Hold, hold_of, BehindHeader, InRows, CountsRows, HasRead, bytes_held_by}
use Rattle.libt85.specs.DecoderLimit.{AnnouncesMore, IsCertainOfMore, ReplacesRow, StaysWithinLimit}

-- a call: the bytes, whether they are the last, the number of consumed bytes, and the place of the row in the window
pub record BytesCall : Type 0 where
  pub bytes : List ℕ
  pub is_all : Bool
  pub taken : ℕ
  pub row : ℕ

abbrev pub bytes_call : List ℕ → Bool → ℕ → ℕ → BytesCall
bytes_call bytes is_all taken row = record { bytes = bytes; is_all = is_all; taken = taken; row = row }

-- the same, if more bytes may come or not
abbrev pub more_call : List ℕ → More → ℕ → ℕ → BytesCall
more_call bytes more taken row = bytes_call bytes (is_last_piece more) taken row

abbrev pub bytes_of_call : BytesCall → List ℕ
bytes_of_call call = take call.taken call.bytes

-- ---- the effect of a call

-- whether the decoder needs the bytes behind an end marker, or a height before the first stripe
abbrev pub is_waiting : T85Decoder → Bool
is_waiting d = not (d.numbers.is_open == 0) && not (d.numbers.waits == 0)

-- the stream has ended, with this status
pub record HasEnded (d : T85Decoder) (status : ℕ) : Type 0 where
  pub version_is : d.version ≡ 2
  pub next_is : d.next ≡ 3
  pub status_is : d.status ≡ status

-- nothing was consumed or changed
pub record KeepsHold (old new : Hold) (call : BytesCall) : Type 0 where
  pub same : new ≡ old
  pub none : call.taken ≡ 0

-- bytes are part of others, after this many of them
pub record StandAt (place : ℕ) (bytes others : List ℕ) : Type 0 where
  pub front : List ℕ
  pub back : List ℕ
  pub others_are : others ≡ front ++ (bytes ++ back)
  pub place_is : length front ≡ place

-- One more row was returned, and with it no more than the limit. It is in the window, packed, at the struct's place.
pub record GivesRowAt (new : Hold) (call : BytesCall) (stream out : List ℕ) : Type 0 where
  pub row : List ℕ
  pub stands : StandAt call.row row new.window
  pub place_is : call.row ≡ new.decoder.place * length row
  pub has : CountsRows new stream (out ++ row)
  pub whole : length row ≡ div_ceil has.rows.decoder.image.header.xd 8
  pub within : new.decoder.given ≤ new.decoder.max_rows

-- a stream with a whole image, of this height and with these rows
pub record IsImageOf (stream : List ℕ) (height : ℕ) (out : List ℕ) : Type 0 where
  pub header : Fields
  pub header_of : HeaderOf stream header
  pub holds : HoldsImage header (drop 20 stream) height out

-- A stream that is broken or ends too early, in its header or after it. These are the rows that it determines.
pub record BreaksBehindHeader (stream : List ℕ) (height : ℕ) (fault : Fault) (out : List ℕ) : Type 0 where
  pub header : Fields
  pub header_of : HeaderOf stream header
  pub hands : HandsOut header (drop 20 stream) height fault out

abbrev pub IsBrokenStream : List ℕ → ℕ → Fault → List ℕ → Type 0
IsBrokenStream stream height fault out = ((header_fault stream ≡ Some fault) × (out ≡ []) × (height ≡ 0)) ⊎ BreaksBehindHeader stream height fault out

-- It is not known whether a height follows the end marker of this many stripes, or precedes the first. These rows were returned.
abbrev pub AwaitsBehindHeader : List ℕ → ℕ → List ℕ → Type 0
AwaitsBehindHeader stream stripes out = (header : Fields) × HeaderOf stream header × AwaitsHeight header (drop 20 stream) stripes out

-- These bytes of a stream were consumed when its image was complete: the header, those of the image, and the ones that are stored.
-- A decoder that is still waiting has found the height behind the last stripe.
pub record ConsumesStream (d : T85Decoder) (stream whole : List ℕ) : Type 0 where
  pub header : Fields
  pub header_of : HeaderOf stream header
  pub consumed : List ℕ
  pub stream_is : drop 20 stream ≡ consumed ++ bytes_held_by d
  pub image : ConsumesImage header (is_waiting d) d.numbers.height consumed (drop 20 whole)

-- a window is shorter than three rows of a stream
pub record IsShort (window stream : List ℕ) : Type 0 where
  pub header : Fields
  pub header_of : HeaderOf stream header
  pub short : length window < window_bytes header.xd

abbrev pub status_told : Answer → ℕ
status_told answer.Done = 0
status_told (answer.Broken fault) = fault_number fault
status_told answer.ShortWindow = 19
status_told answer.TooManyRows = 24
status_told answer.NotBegun = 53
status_told answer.Header = 60
status_told answer.Row = 61
status_told answer.More = 62
status_told (answer.Ended status) = status

-- the number of stripes whose end marker a waiting decoder has read
abbrev pub stripes_ended_by : T85Decoder → ℕ
stripes_ended_by d = if (d.numbers.stage.next == 2) || (d.numbers.stage.next == 3) then d.numbers.entities + 1 else d.numbers.entities

-- All rows that these bytes determine were returned; or, behind an end marker, all that the bytes before the marker determine.
abbrev pub ReturnedAllRows : T85Decoder → List ℕ → List ℕ → Type 0
ReturnedAllRows d stream out =
    (is_waiting d ≡ false → BreaksBehindHeader stream d.numbers.height Truncated out) × (is_waiting d ≡ true → AwaitsBehindHeader stream (stripes_ended_by d) out)

-- The stream is rejected in place of a request for bytes: all bytes of the call were consumed and are not the last ones, and the
-- rows that they determine were returned. More rows than the limit are certain.
pub record ReplacesMore (d : T85Decoder) (call : BytesCall) (stream out : List ℕ) : Type 0 where
  pub hold : Hold
  pub has : InRows hold (stream ++ call.bytes) out
  pub all : call.taken ≡ length call.bytes
  pub not_last : call.is_all ≡ true → ⊥
  pub fixed : ReturnedAllRows hold.decoder (stream ++ call.bytes) out
  pub why : IsCertainOfMore has d.max_rows
  pub height_is : d.numbers.height ≡ hold.decoder.numbers.height

-- Why a call rejects the stream for its limit: with its header, or in place of a row or a request for bytes, and so never in place
-- of an error of the stream.
abbrev pub IsAboveLimit : T85Decoder → BytesCall → List ℕ → List ℕ → Type 0
IsAboveLimit d call stream out =
    (AnnouncesMore (stream ++ bytes_of_call call) d.max_rows × (d.numbers.height ≡ 0)) ⊎ ReplacesRow d (stream ++ bytes_of_call call) out ⊎ ReplacesMore d call stream out

-- The meaning of a result, where `Has` holds for each stream that the decoder may have consumed, and the rows that it returned.
abbrev pub TellsAnswer : (Has : List ℕ → List ℕ → Type 0) → Hold → Hold → BytesCall → Answer → Type 0
TellsAnswer Has old new call answer.Header = (stream out : List ℕ) → Has stream out → BehindHeader new.decoder (stream ++ bytes_of_call call) out
TellsAnswer Has old new call answer.Row = (stream out : List ℕ) → Has stream out → GivesRowAt new call (stream ++ bytes_of_call call) out
TellsAnswer Has old new call answer.More =
    (call.taken ≡ length call.bytes) × ((stream out : List ℕ) → Has stream out → HasRead new (stream ++ bytes_of_call call) out) × (call.is_all ≡ true → ⊥)
    × (new.decoder.next ≡ 2 → (stream out : List ℕ) → Has stream out → ReturnedAllRows new.decoder (stream ++ call.bytes) out)
TellsAnswer Has old new call answer.Done =
    HasEnded new.decoder 0 × ((stream out rest : List ℕ) → Has stream out → MayFollow call.is_all rest → IsImageOf ((stream ++ call.bytes) ++ rest) new.decoder.numbers.height out)
    -- only bytes of earlier calls are stored, and then none of this call was consumed
    × ((bytes_held_by new.decoder ≡ []) ⊎ (call.taken ≡ 0))
    × ((stream out rest : List ℕ) → Has stream out → MayFollow call.is_all rest → ConsumesStream new.decoder (stream ++ bytes_of_call call) ((stream ++ call.bytes) ++ rest))
TellsAnswer Has old new call (answer.Broken fault) =
    HasEnded new.decoder (fault_number fault) × ((stream out rest : List ℕ) → Has stream out → MayFollow call.is_all rest →
    IsBrokenStream ((stream ++ call.bytes) ++ rest) new.decoder.numbers.height fault out)
TellsAnswer Has old new call answer.TooManyRows = HasEnded new.decoder 24 × ((stream out : List ℕ) → Has stream out → IsAboveLimit new.decoder call stream out)
TellsAnswer Has old new call answer.ShortWindow = KeepsHold old new call × ((stream out : List ℕ) → Has stream out → IsShort old.window stream)
TellsAnswer Has old new call answer.NotBegun = KeepsHold old new call × ((stream out : List ℕ) → Has stream out → ⊥)
TellsAnswer Has old new call (answer.Ended status) = KeepsHold old new call × HasEnded old.decoder status

-- the effect of a call with this result
pub record Answers (Has : List ℕ → List ℕ → Type 0) (old new : Hold) (call : BytesCall) (what : Answer) : Type 0 where
  pub bound : call.taken ≤ length call.bytes
  pub tells : TellsAnswer Has old new call what

-- No decoder of the engine that stays in its image has the header and the numbers of the struct, or its rows have no place in the window.
abbrev pub HasNoDecoder : T85Decoder → Type 0
HasNoDecoder d = (2 < d.place) ⊎ ((decoder : PieceDecoder) → HeaderOf d.header (fields_of decoder.image.header) → ArePieceNumbers d.numbers decoder → StaysInImage decoder → ⊥)

-- No call leaves this struct: its version or its next event is unknown, its header is complete before it was read, or rejected, or its
-- numbers are those of no decoder.
abbrev pub DecoderIsNotBegun : T85Decoder → Type 0
DecoderIsNotBegun d =
    (d.version ≢ 2) ⊎ (3 < d.next) ⊎ ((d.next ≡ 0) × (20 ≤ d.header_len)) ⊎ (((d.next ≡ 1) ⊎ (d.next ≡ 2)) × ((header : Fields) → HeaderOf d.header header → ⊥))
    ⊎ ((d.next ≡ 2) × HasNoDecoder d)

-- The window is too short for the next rows.
pub record LacksWindow (old : Hold) : Type 0 where
  pub next_is : (old.decoder.next ≡ 1) ⊎ (old.decoder.next ≡ 2)
  pub window : List ℕ
  pub stream : List ℕ
  pub out : List ℕ
  pub read : HasRead (hold_of old.decoder window) stream out
  pub short : IsShort old.window stream

-- The header is complete with these bytes, and without VLENGTH announces no more rows than the limit.
pub record ReadsHeader (old : Hold) (bytes : List ℕ) : Type 0 where
  pub next_is : old.decoder.next ≡ 0
  pub stream : List ℕ
  pub out : List ℕ
  pub read : HasRead old stream out
  pub header : Fields
  pub header_of : HeaderOf (stream ++ bytes) header
  pub within : is_variable header ≡ false → header.yd ≤ old.decoder.max_rows

-- the effect of a call, and its status
pub record IsAnswered (old new : Hold) (call : BytesCall) (status : ℕ) : Type 0 where
  pub what : Answer
  pub status_is : status ≡ status_told what
  pub answers : Answers (HasRead old) old new call what
  pub not_begun : DecoderIsNotBegun old.decoder → what ≡ answer.NotBegun
  pub ended : old.decoder.version ≡ 2 → old.decoder.next ≡ 3 → what ≡ answer.Ended old.decoder.status
  -- the caller's limit is unchanged
  pub limit : new.decoder.max_rows ≡ old.decoder.max_rows
  -- the header is reported by the call with its last byte, and by no other
  pub once : what ≡ answer.Header → old.decoder.next ≡ 0
  pub header : ReadsHeader old call.bytes → what ≡ answer.Header
  pub short : LacksWindow old → what ≡ answer.ShortWindow
  pub within : StaysWithinLimit what new.decoder

-- This many rows are certain: no height that can still arrive is lower, and one is equal.
abbrev pub TellsCertain : T85Decoder → ℕ → Type 0
TellsCertain d rows = (window stream out : List ℕ) (k : InRows (hold_of d window) stream out) → IsLeastHeight (fields_of k.decoder.image.header) k.has.decoded rows
