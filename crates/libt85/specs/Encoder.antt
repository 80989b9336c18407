-- An encoder in a C caller's struct, which receives the rows of an image one by one.
use Rattle.t85_core.specs.Coding.{has_bit}
use Rattle.std.specs.Prelude.{ℕ, ◌+◌, ◌*◌, ◌/◌, ◌%◌, ◌≡◌, ◌≢◌, ◌≤◌, ◌⊎◌, ◌==◌, ◌||◌, ◌&&◌, not, nat_lt, Bool, false, List, [], ◌∷◌, ◌++◌, length, take, Option, Some, None, unwrap_or, if◌then◌else◌}
use Rattle.std.specs.Int.{div_ceil}
use Rattle.pbm_core.specs.Image.{pixels_of}
use Rattle.raster_core.specs.Packed.{rows_at}
use Rattle.t85_core.specs.Denotes.{Denotes}
use Rattle.t85_core.specs.Encode.{raster_of}
use Rattle.t85_core.specs.Jbg.{AreSettings, Settings, head_of, is_low, jbg}
use Rattle.t85_core.specs.RowNumbers.{row_numbers}
use Rattle.t85_core.specs.States.ByRow.{MayGoOn, Stands, view_of}
use Rattle.t85_core.specs.RowImage.{Image, image_of, may_name, named_after}
use Rattle.t85_core.specs.States.Sent.{behind}
use Rattle.t85_core.specs.declared.encoding.by_row.RowEncoder.{RowEncoder}
use Rattle.t85_core.specs.declared.encoding.by_row.numbers.RowNumbers.{RowNumbers}
use Rattle.libt85.specs.Decoded.{window_bytes}
use Rattle.libt85.specs.Delivered.{Lending}
use Rattle.libt85.specs.Encoded.{or_else, refusal_told, settings_chosen, status_if}
use Rattle.libt85.specs.declared.encoder.T85Encoder.{T85Encoder}
use Rattle.libt85.specs.declared.options.T85Options.{T85Options}

-- the numbers of the engine's encoder in the struct
abbrev pub numbers_of_encoder : T85Encoder → RowNumbers
numbers_of_encoder d = record {
  rows = d.rows;
  in_stripe = d.in_stripe;
  is_counted = not (d.is_counted == 0);
  offset = d.offset;
  is_previous_typical = not (d.is_previous_typical == 0);
  named = if not (d.has_name == 0) then Some d.named else None;
  encoder = record {
    low = d.low;
    span = d.span;
    bits = d.bits;
    zeros = d.zeros;
    has_held = not (d.has_held == 0);
    held = d.held;
    ones = d.ones;
    events = d.events;
    has_failed = not (d.has_failed == 0);
  };
}

-- the settings in the struct, which are all but the comment and the chosen offsets
abbrev pub settings_kept : T85Encoder → Settings
settings_kept d = record {
  options = d.options;
  stripe_rows = d.stripe_rows;
  most_offset = d.most_offset;
  announced = if not (d.announces_height == 0) then Some d.announced_height else None;
  reset = not (d.reset == 0);
  comment = None;
  named = [];
}

-- the same settings without a comment and chosen offsets
abbrev pub without_comment : Settings → Settings
without_comment s = record s { comment = None; named = [] }

-- the state between two calls: the struct, and the bytes of the window
pub record EncoderHold : Type 0 where
  pub encoder : T85Encoder
  pub window : List ℕ

abbrev pub encoder_hold : T85Encoder → List ℕ → EncoderHold
encoder_hold encoder window = record { encoder = encoder; window = window }

-- The struct and the window are as calls leave them that started the stream of an image, received these rows of it, and wrote
-- these bytes.
pub record HasCome (image : Image) (hold : EncoderHold) (rows : List (List Bool)) (sent : List ℕ) : Type 0 where
  pub version_is : hold.encoder.version ≡ 1
  pub next_is : hold.encoder.next ≡ 1
  pub width_is : hold.encoder.width ≡ image.width
  pub limit_is : hold.encoder.height ≡ image.limit
  pub rows_are : hold.encoder.rows ≡ length rows
  pub settings_are : settings_kept hold.encoder ≡ without_comment image.settings
  pub proper : AreSettings image.settings
  pub not_low : is_low image.settings image.limit ≡ false
  pub some : 1 ≤ image.limit
  -- row n, counted from 1, is at this of the three places of the window
  pub place_is : hold.encoder.place ≡ 2 * length rows % 3
  pub engine : RowEncoder
  pub ready : MayGoOn engine
  pub numbers_are : numbers_of_encoder hold.encoder ≡ row_numbers engine
  pub stands : (text : Option (List ℕ)) →
      Stands image rows (view_of engine hold.encoder.learning) (rows_at hold.encoder.place image.width (take (window_bytes image.width) hold.window)) (behind sent text) text

-- a statement about each image whose stream the caller may have started, the rows passed, and the bytes written
abbrev pub OfEach : EncoderHold → (Image → List (List Bool) → List ℕ → Type 0) → Type 0
OfEach hold Q = (image : Image) (rows : List (List Bool)) (sent : List ℕ) → HasCome image hold rows sent → Q image rows sent

-- the stream was ended
pub record HasBeenEnded (d : T85Encoder) : Type 0 where
  pub version_is : d.version ≡ 1
  pub next_is : d.next ≡ 2

-- the struct was not initialized, as its first numbers show
abbrev pub EncoderIsNotBegun : T85Encoder → Type 0
EncoderIsNotBegun d = (d.version ≢ 1) ⊎ ((d.next ≢ 1) × (d.next ≢ 2))

-- The greatest number of bytes that the next call writes: twice the code bytes held back, since stuffing may double them; four
-- for each pixel of a row, and for the SLNTP pseudo-pixel; and ten for a move or a new height, and end markers.
abbrev pub room_told : T85Encoder → ℕ
room_told d = 2 * ((d.zeros + ((if not (d.has_held == 0) then 1 else 0) + d.ones)) + (d.bits + 7) / 8) + 4 * (d.width + 1) + 10

-- The effect of a rejected call: all memory is unchanged.
pub record LeavesAll (old new : EncoderHold) (l : Lending) : Type 0 where
  pub same : new ≡ old
  pub nothing : l.written ≡ 0
  pub stream : l.new ≡ l.old

-- ---- the start

-- the number of bytes before the first stripe: the header, and the comment with its length
abbrev pub head_length : T85Options → ℕ → ℕ
head_length choice comment_len = if choice.has_comment then 26 + comment_len else 20

-- the arguments of a start: the size of the caller's struct, the image, the options and the comment
pub record StartCall : Type 0 where
  pub size : ℕ
  pub width : ℕ
  pub height : ℕ
  pub choice : T85Options
  pub comment : List ℕ

abbrev pub start_call : ℕ → ℕ → ℕ → T85Options → List ℕ → StartCall
start_call size width height choice comment = record { size = size; width = width; height = height; choice = choice; comment = comment }

-- whether a caller's struct may have this size: it has room for the state, and is not longer than that of t85.h
abbrev pub may_be_size : ℕ → Bool
may_be_size size = not (nat_lt size 4664) && not (nat_lt 5360 size)

-- the first error, in this order: the size of the struct, the errors of an encoding call, and the length of the buffer for the
-- head
abbrev pub start_refusal : StartCall → ℕ → ℕ → Option ℕ
start_refusal call window room =
    or_else (status_if (not (may_be_size call.size)) 50)
    (or_else (refusal_told call.choice call.comment call.width call.height (div_ceil call.width 8) window)
    (status_if (nat_lt room (head_length call.choice (length call.comment))) 18))

-- The head of an image's stream was written, and no row has been received.
pub record BeginsStream (image : Image) (new : EncoderHold) (bytes : List ℕ) : Type 0 where
  pub head : bytes ≡ head_of image.settings image.width image.limit
  pub come : HasCome image new [] bytes

-- the effect of `t85_encode_start`
pub record StartsStream (call : StartCall) (old new : EncoderHold) (l : Lending) : Type 0 where
  pub status_is : l.answer ≡ unwrap_or (start_refusal call (length old.window) (length l.old)) 0
  pub refused : l.answer ≢ 0 → LeavesAll old new l
  pub begun : l.answer ≡ 0 → BeginsStream (image_of (settings_chosen call.choice call.comment) call.width call.height) new (take l.written l.new)
  pub within : l.written ≤ length l.new

-- ---- a row

-- the first error for a row of this length: all rows were received, the row is short, so is the window, or the buffer
abbrev pub row_refusal : T85Encoder → ℕ → ℕ → ℕ → Option ℕ
row_refusal d row window room =
    or_else (status_if (d.rows == d.height) 54)
    (or_else (status_if (nat_lt row (div_ceil d.width 8)) 55)
    (or_else (status_if (nat_lt window (window_bytes d.width)) 19)
    (status_if (nat_lt room (room_told d)) 18)))

-- A row was received, and the next bytes of the stream were written.
abbrev pub TakesOne : EncoderHold → EncoderHold → List ℕ → List ℕ → Type 0
TakesOne old new row bytes = OfEach old (λ image rows sent. HasCome image new (rows ++ pixels_of image.width (take (div_ceil image.width 8) row) ∷ []) (sent ++ bytes))

-- the effect of `t85_encode_row`
pub record PutsRow (old new : EncoderHold) (row : List ℕ) (l : Lending) : Type 0 where
  pub status_is : (window : List ℕ) → OfEach (encoder_hold old.encoder window) (λ image rows sent. l.answer ≡ unwrap_or (row_refusal old.encoder (length row) (length old.window) (length l.old)) 0)
  pub ended : HasBeenEnded old.encoder → l.answer ≡ 54
  pub not_begun : EncoderIsNotBegun old.encoder → l.answer ≡ 53
  pub refused : l.answer ≢ 0 → LeavesAll old new l
  pub taken : l.answer ≡ 0 → TakesOne old new row (take l.written l.new)
  pub within : l.written ≤ length l.new

-- ---- an offset

-- the first error for an offset: all rows were received, a stripe is in progress, or the options do not allow the offset
abbrev pub name_refusal : T85Encoder → ℕ → Option ℕ
name_refusal d offset =
    or_else (status_if (d.rows == d.height) 54)
    (or_else (status_if (not (d.in_stripe == 0)) 56)
    (status_if (not (may_name (has_bit d.options 6) d.most_offset offset)) 22))

-- The offset is chosen for the stripe that begins with the next row.
abbrev pub TakesName : EncoderHold → EncoderHold → ℕ → Type 0
TakesName old new offset = OfEach old (λ image rows sent. (length rows % image.settings.stripe_rows ≡ 0) × HasCome (named_after offset (length rows) image) new rows sent)

-- the effect of `t85_encode_offset`, whatever the window contains
pub record NamesNext (old new : T85Encoder) (offset answer : ℕ) : Type 0 where
  pub status_is : (window : List ℕ) → OfEach (encoder_hold old window) (λ image rows sent. answer ≡ unwrap_or (name_refusal old offset) 0)
  pub ended : HasBeenEnded old → answer ≡ 54
  pub not_begun : EncoderIsNotBegun old → answer ≡ 53
  pub refused : answer ≢ 0 → new ≡ old
  pub named : answer ≡ 0 → (window : List ℕ) → TakesName (encoder_hold old window) (encoder_hold new window) offset

-- ---- the end

-- whether an image may not end after this many rows
abbrev pub are_missing : T85Encoder → Bool
are_missing d = (d.rows == 0) || ((d.announces_height == 0) && not (d.rows == d.height))

-- the first error of the end: rows are missing, the window is short, or the buffer
abbrev pub end_refusal : T85Encoder → ℕ → ℕ → Option ℕ
end_refusal d window room =
    or_else (status_if (are_missing d) 36)
    (or_else (status_if (nat_lt window (window_bytes d.width)) 19)
    (status_if (nat_lt room (room_told d)) 18))

-- These bytes are the stream of an image of these rows, and denote it.
pub record IsStreamOfRows (image : Image) (rows : List (List Bool)) (bytes : List ℕ) : Type 0 where
  pub is : bytes ≡ jbg image.settings (raster_of image.width rows)
  pub denotes : Denotes bytes (raster_of image.width rows)

-- The last bytes of the stream were written.
abbrev pub EndsStream : EncoderHold → List ℕ → Type 0
EndsStream old bytes = OfEach old (λ image rows sent. IsStreamOfRows image rows (sent ++ bytes))

-- the effect of `t85_encode_end`
pub record PutsEnd (old new : EncoderHold) (l : Lending) : Type 0 where
  pub status_is : (window : List ℕ) → OfEach (encoder_hold old.encoder window) (λ image rows sent. l.answer ≡ unwrap_or (end_refusal old.encoder (length old.window) (length l.old)) 0)
  pub was_ended : HasBeenEnded old.encoder → l.answer ≡ 54
  pub not_begun : EncoderIsNotBegun old.encoder → l.answer ≡ 53
  pub refused : l.answer ≢ 0 → LeavesAll old new l
  pub ends : l.answer ≡ 0 → EndsStream old (take l.written l.new)
  pub ended : l.answer ≡ 0 → HasBeenEnded new.encoder
  pub within : l.written ≤ length l.new

-- ---- the reports

-- how many more rows are accepted
abbrev pub TellsLeft : T85Encoder → ℕ → Type 0
TellsLeft d left = (window : List ℕ) → OfEach (encoder_hold d window) (λ image rows sent. left + length rows ≡ image.limit)

-- the buffer length that is enough for the next call
abbrev pub TellsRoom : T85Encoder → ℕ → Type 0
TellsRoom d room = (window : List ℕ) → OfEach (encoder_hold d window) (λ image rows sent. room ≡ room_told d)
