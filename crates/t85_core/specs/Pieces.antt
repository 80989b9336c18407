-- The effect of a decoder's calls for a stream in pieces.
use Rattle.std.specs.Prelude.{ℕ, ◌+◌, ◌*◌, ◌≡◌, ◌≢◌, ◌≤◌, ⊤, Bool, true, false, List, [], ◌∷◌, ◌++◌, length, take, Some, None, flat_map}
use Rattle.raster_core.specs.Packed.{packed_row}
use Rattle.t85_core.specs.declared.fault.Fault.{Fault}
use Rattle.t85_core.specs.declared.fault.Fault.TheVariants.{Truncated}
use Rattle.t85_core.specs.Lent.{PieceView, waits_behind}
use Rattle.t85_core.specs.declared.pieces.End.{End}
use Rattle.t85_core.specs.declared.pieces.More.{More}
use Rattle.t85_core.specs.declared.pieces.More.TheVariants as more
use Rattle.t85_core.specs.declared.pieces.Outcome.{Outcome}
use Rattle.t85_core.specs.declared.pieces.Progress.{Progress}
use Rattle.t85_core.specs.declared.pieces.Outcome.TheVariants as outcome
use Rattle.t85_core.specs.Header.{Fields}
use Rattle.t85_core.specs.Options.{fields_of}
use Rattle.t85_core.specs.Grammar.{Stripe, marker_bytes, stripe_bytes}
use Rattle.t85_core.specs.Consumed.{ConsumesImage}
use Rattle.t85_core.specs.Height.{IsHeight, IsOpen}
use Rattle.t85_core.specs.Denotes.{DenotesAt}
use Rattle.t85_core.specs.Fixed.{Fixes}
use Rattle.t85_core.specs.Outcomes.{end_in, end_told}
use Rattle.t85_core.specs.States.Pieces.{HasMarker}
use Rattle.t85_core.specs.States.PieceStands.{DecoderStands, entities_behind}

-- the header of the stream that a decoder decodes
abbrev pub stream_of : PieceView → Fields
stream_of d = fields_of d.header

-- the decoder's current height
abbrev pub height_in_use : PieceView → ℕ
height_in_use d = d.height

-- the row that it returned last, packed
abbrev pub row_held : PieceView → List ℕ
row_held d = d.walk.carried.held.current

-- The state of a decoder that can continue. It has consumed these bytes, and has returned these rows, packed.
pub record HasDecoded (d : PieceView) (text out : List ℕ) : Type 0 where
  pub going : d.end ≡ None
  pub stands : DecoderStands d text out

-- Each height of a body is this one; a body of bytes has one.
abbrev pub HasHeight : Fields → List ℕ → ℕ → Type 0
HasHeight h body height = (n : ℕ) → IsHeight h body n → n ≡ height

-- The least height of the bodies that begin with these bytes: this many first rows are the image's, whatever follows.
pub record IsLeastHeight (h : Fields) (text : List ℕ) (least : ℕ) : Type 0 where
  pub below : (rest : List ℕ) (height : ℕ) → IsHeight h (text ++ rest) height → least ≤ height
  pub reached : (rest : List ℕ) × IsHeight h (text ++ rest) least

-- exactly this many first rows are certain
abbrev pub AreCertain : PieceView → ℕ → Type 0
AreCertain d rows = (text out : List ℕ) → HasDecoded d text out → IsLeastHeight (stream_of d) text rows

-- A body that is broken, or ends too early: its height, its error, and the rows that it fixes, packed.
pub record HandsOut (h : Fields) (body : List ℕ) (height : ℕ) (fault : Fault) (out : List ℕ) : Type 0 where
  pub height_is : HasHeight h body height
  pub rows : List (List Bool)
  pub fixes : Fixes h height body fault rows
  pub out_is : out ≡ flat_map packed_row rows

-- A body that denotes an image: its height, and rows, packed, of which the first ones, as many as the height, are the image's.
pub record HoldsImage (h : Fields) (body : List ℕ) (height : ℕ) (out : List ℕ) : Type 0 where
  pub height_is : HasHeight h body height
  pub rows : List (List Bool)
  pub denotes : DenotesAt h height body (record { width = h.xd; rows = take height rows })
  pub out_is : out ≡ flat_map packed_row rows

-- The rows that the bytes before the end marker of the last of these stripes fix are the first of these rows, packed.
pub record HoldsFixedRows (h : Fields) (stripes : List Stripe) (out : List ℕ) : Type 0 where
  pub front : List ℕ
  pub reset : Bool
  pub bytes_are : flat_map stripe_bytes stripes ≡ front ++ marker_bytes reset
  pub first : List ℕ
  pub more : List ℕ
  pub out_is : out ≡ first ++ more
  pub hands_out : HandsOut h front h.yd Truncated first

-- The bytes end behind the end marker of this many stripes, or before the first one, in marker segments: it is not known yet
-- whether a height is among these. These rows were returned, packed: each row that the bytes before the marker fix is one of
-- them.
pub record AwaitsHeight (h : Fields) (body : List ℕ) (stripes : ℕ) (out : List ℕ) : Type 0 where
  pub unknown : IsOpen h body
  pub many : length unknown.stripes ≡ stripes
  pub no_code : unknown.code ≡ []
  pub fixed : 1 ≤ stripes → HoldsFixedRows h unknown.stripes out

-- the number of stripes whose end marker a waiting decoder has read
abbrev pub stripes_ended : PieceView → ℕ
stripes_ended d = entities_behind d.walk.stage d.walk.entities

-- the bytes that may follow a piece: none after the last
abbrev pub MayFollow : Bool → List ℕ → Type 0
MayFollow is_all rest = is_all ≡ true → rest ≡ []

-- ---- a call with a piece

-- the piece, whether it is the last, the number of its consumed bytes, the result, and the decoder after it
pub record Call : Type 0 where
  pub piece : List ℕ
  pub is_all : Bool
  pub taken : ℕ
  pub answer : Outcome
  pub new : PieceView

-- whether a piece is the last
abbrev pub is_last_piece : More → Bool
is_last_piece more.Comes = false
is_last_piece more.None = true

abbrev pub call_of : List ℕ → Bool → Progress → PieceView → Call
call_of piece is_all progress new = record { piece = piece; is_all = is_all; taken = progress.taken; answer = progress.outcome; new = new }

-- ---- the effect, where `Before` and `After` say which bytes were consumed, and which rows returned, before and with the call

-- one more row was returned
abbrev pub GivesRow : (Before After : List ℕ → List ℕ → Type 0) → Call → Type 0
GivesRow Before After call =
    call.answer ≡ outcome.Row → (text out : List ℕ) → Before text out → After (text ++ take call.taken call.piece) (out ++ row_held call.new)

-- the number of rows returned, up to the last one of the stripe whose code is being decoded
abbrev pub rows_given : PieceView → ℕ
rows_given d = d.walk.entities * d.header.l0 + d.walk.row

-- A row that the end marker of its code determines waits for the bytes behind the marker, while a height may follow: no such
-- height is lower than the number of returned rows.
abbrev pub RowsWait : (Before : List ℕ → List ℕ → Type 0) → PieceView → Call → Type 0
RowsWait Before old call =
    call.answer ≡ outcome.Row → call.new.is_open ≡ true → HasMarker call.new.walk → (text out rest : List ℕ) (height : ℕ) → Before text out → MayFollow call.is_all rest → IsHeight (stream_of old) ((text ++ call.piece) ++ rest) height →
    rows_given call.new ≤ height

-- No row is returned. If no row waits, and nothing follows the piece, the stream ends too early, and fixes exactly the returned
-- rows. A row waits only if the bytes before the end marker of its stripe do not fix it, and only as long as it is not known
-- whether a height follows the marker.
abbrev pub WantsMore : (Before After : List ℕ → List ℕ → Type 0) → PieceView → Call → Type 0
WantsMore Before After old call =
    call.answer ≡ outcome.More → (text out : List ℕ) → Before text out →
    After (text ++ take call.taken call.piece) out × (waits_behind call.new ≡ false → HandsOut (stream_of old) (text ++ call.piece) call.new.height Truncated out)
    × (waits_behind call.new ≡ true → AwaitsHeight (stream_of old) (text ++ call.piece) (stripes_ended call.new) out)

-- the image is whole at this height, whatever follows the piece
abbrev pub IsWhole : (Before : List ℕ → List ℕ → Type 0) → PieceView → Call → Type 0
IsWhole Before old call =
    (height : ℕ) → call.answer ≡ outcome.Done height → (call.new.height ≡ height) × ((text out rest : List ℕ) → Before text out → MayFollow call.is_all rest → HoldsImage (stream_of old) ((text ++ call.piece) ++ rest) height out)

-- These bytes were consumed when the image was complete, except the last ones, which are stored. A decoder that is still
-- waiting has found the height behind the last stripe.
abbrev pub ConsumesWhole : (Before : List ℕ → List ℕ → Type 0) (stored : List ℕ) → PieceView → Call → Type 0
ConsumesWhole Before stored old call =
    (height : ℕ) → call.answer ≡ outcome.Done height → (text out rest : List ℕ) → Before text out → MayFollow call.is_all rest →
    (consumed : List ℕ) × (text ++ take call.taken call.piece ≡ consumed ++ stored) × ConsumesImage (stream_of old) (waits_behind call.new) height consumed ((text ++ call.piece) ++ rest)

-- the returned rows are those that the stream fixes, whatever follows the piece
abbrev pub IsBroken : (Before : List ℕ → List ℕ → Type 0) → PieceView → Call → Type 0
IsBroken Before old call =
    (fault : Fault) → call.answer ≡ outcome.Broken fault → (text out rest : List ℕ) → Before text out → MayFollow call.is_all rest → HandsOut (stream_of old) ((text ++ call.piece) ++ rest) call.new.height fault out

-- after an end nothing changes
abbrev pub EndsAgain : PieceView → Call → Type 0
EndsAgain old call = (end : End) → old.end ≡ Some end → (call.answer ≡ end_told end old.height) × (call.taken ≡ 0) × (call.new ≡ old)

pub record IsCallBy (Before After : List ℕ → List ℕ → Type 0) (stored : List ℕ) (old : PieceView) (call : Call) : Type 0 where
  pub same : stream_of call.new ≡ stream_of old
  pub bound : call.taken ≤ length call.piece
  pub ends : call.is_all ≡ true → call.answer ≢ outcome.More
  -- the unconsumed bytes begin an escape code or a marker segment
  pub few_left : call.answer ≡ outcome.More → length call.piece ≤ call.taken + 7
  -- an end is stored, for the next call
  pub ended : call.new.end ≡ end_in call.answer
  pub again : EndsAgain old call
  pub row : GivesRow Before After call
  pub waits : RowsWait Before old call
  pub more : WantsMore Before After old call
  pub done : IsWhole Before old call
  pub consumed : ConsumesWhole Before stored old call
  pub broken : IsBroken Before old call

-- the effect of a call of `next`
abbrev pub IsCall : PieceView → Call → Type 0
IsCall old call = IsCallBy (HasDecoded old) (HasDecoded call.new) [] old call

-- ---- calls one after another

-- the bytes that a call consumed, and the row that it returned, if any
abbrev pub bytes_taken : Call → List ℕ
bytes_taken call = take call.taken call.piece

abbrev pub given_with : Outcome → List ℕ → List ℕ
given_with outcome.Row row = row
given_with outcome.More row = []
given_with (outcome.Done height) row = []
given_with (outcome.Broken fault) row = []

abbrev pub row_given : Call → List ℕ
row_given call = given_with call.answer (row_held call.new)

-- whether the stream continues after it
abbrev pub StreamGoesOn : Outcome → Type 0
StreamGoesOn outcome.Row = ⊤
StreamGoesOn outcome.More = ⊤
StreamGoesOn (outcome.Done height) = ⊥
StreamGoesOn (outcome.Broken fault) = ⊥

-- successive calls, with any pieces, up to the end
abbrev pub AreCalls : PieceView → List Call → Type 0
AreCalls d [] = ⊤
AreCalls d (call ∷ calls) = IsCall d call × StreamGoesOn call.answer × AreCalls call.new calls

-- the decoder after them
abbrev pub decoder_after : PieceView → List Call → PieceView
decoder_after d [] = d
decoder_after d (call ∷ calls) = decoder_after call.new calls

-- However a stream is cut: after any calls, a new decoder has consumed their bytes, and has returned their rows.
abbrev pub PiecesTaken : Type 0
PiecesTaken =
    (d : PieceView) (calls : List Call) → HasDecoded d [] [] → AreCalls d calls →
    HasDecoded (decoder_after d calls) (flat_map bytes_taken calls) (flat_map row_given calls)

-- The result of a call after some calls: for all consumed bytes, and for all bytes passed.
abbrev pub PiecesWhole : Type 0
PiecesWhole =
    (d : PieceView) (calls : List Call) (last : Call) (height : ℕ) (rest : List ℕ) → HasDecoded d [] [] → AreCalls d calls → IsCall (decoder_after d calls) last →
    last.answer ≡ outcome.Done height → MayFollow last.is_all rest → HoldsImage (stream_of d) ((flat_map bytes_taken calls ++ last.piece) ++ rest) height (flat_map row_given calls)

-- the bytes that were consumed with it
abbrev pub PiecesConsumed : Type 0
PiecesConsumed =
    (d : PieceView) (calls : List Call) (last : Call) (height : ℕ) (rest : List ℕ) → HasDecoded d [] [] → AreCalls d calls → IsCall (decoder_after d calls) last → last.answer ≡ outcome.Done height → MayFollow last.is_all rest →
    ConsumesImage (stream_of d) (waits_behind last.new) height (flat_map bytes_taken calls ++ bytes_taken last) ((flat_map bytes_taken calls ++ last.piece) ++ rest)

abbrev pub PiecesBroken : Type 0
PiecesBroken =
    (d : PieceView) (calls : List Call) (last : Call) (fault : Fault) (rest : List ℕ) → HasDecoded d [] [] → AreCalls d calls → IsCall (decoder_after d calls) last →
    last.answer ≡ outcome.Broken fault → MayFollow last.is_all rest → HandsOut (stream_of d) ((flat_map bytes_taken calls ++ last.piece) ++ rest) last.new.height fault (flat_map row_given calls)

abbrev pub PiecesMore : Type 0
PiecesMore =
    (d : PieceView) (calls : List Call) (last : Call) → HasDecoded d [] [] → AreCalls d calls → IsCall (decoder_after d calls) last → last.answer ≡ outcome.More → waits_behind last.new ≡ false →
    HandsOut (stream_of d) (flat_map bytes_taken calls ++ last.piece) last.new.height Truncated (flat_map row_given calls)

abbrev pub PiecesAwait : Type 0
PiecesAwait =
    (d : PieceView) (calls : List Call) (last : Call) → HasDecoded d [] [] → AreCalls d calls → IsCall (decoder_after d calls) last → last.answer ≡ outcome.More → waits_behind last.new ≡ true →
    AwaitsHeight (stream_of d) (flat_map bytes_taken calls ++ last.piece) (stripes_ended last.new) (flat_map row_given calls)

abbrev pub PiecesWait : Type 0
PiecesWait =
    (d : PieceView) (calls : List Call) (last : Call) (height : ℕ) (rest : List ℕ) → HasDecoded d [] [] → AreCalls d calls → IsCall (decoder_after d calls) last → last.answer ≡ outcome.Row → last.new.is_open ≡ true → HasMarker last.new.walk →
    MayFollow last.is_all rest → IsHeight (stream_of d) ((flat_map bytes_taken calls ++ last.piece) ++ rest) height → rows_given last.new ≤ height
