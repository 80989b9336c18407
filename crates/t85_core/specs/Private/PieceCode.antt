-- The position of a decoder in the code of a stripe, whose pieces arrive one by one.
use Rattle.std.specs.Prelude.{ℕ, ◌+◌, ◌≡◌, ◌≤◌, ◌<◌, Bool, true, List, [], ◌++◌, length, Option, Some, None, flat_map}
use Rattle.std.specs.List.{AllByRecursion}
use Rattle.qm_core.specs.Code.{stuffed}
use Rattle.qm_core.specs.Source.{bytes_of, heard_of, Agrees}
use Rattle.qm_core.specs.declared.source.Pulled.{Pulled}
use Rattle.qm_core.specs.declared.source.Heard.TheVariants.{More}
use Rattle.qm_core.specs.declared.decoder.Decoder.{Decoder}
use Rattle.raster_core.specs.Packed.{packed_row}
use Rattle.raster_core.specs.declared.place.RowPlace.{RowPlace}
use Rattle.raster_core.specs.declared.shape.Shape.{Shape}
use Rattle.t85_core.specs.declared.fault.Fault.{Fault}
use Rattle.t85_core.specs.declared.fault.Fault.TheVariants.{Truncated}
use Rattle.raster_core.specs.declared.shape.Kept.{Kept}
use Rattle.t85_core.specs.declared.lent.Lent.{Lent}
use Rattle.t85_core.specs.declared.pieces.piece.PieceCode.{PieceCode}
use Rattle.t85_core.specs.declared.segments.Code.{Code}
use Rattle.t85_core.specs.declared.segments.Code.TheVariants as code
use Rattle.t85_core.specs.Lent.{Carried, carried_by}
use Rattle.t85_core.specs.Header.{Fields}
use Rattle.t85_core.specs.Grammar.{Segment, marker_bytes}
use Rattle.t85_core.specs.Failures.{counted_as}
use Rattle.t85_core.specs.Private.Entity.{CodeEnds}
use Rattle.t85_core.specs.States.PieceCode.{RowsKnown, CodeText, MarkerRead, open_row, RowBegun}
use Rattle.t85_core.specs.Private.Segments.{RestFault}
use Rattle.t85_core.specs.States.State.{StripeStart}
use Rattle.t85_core.specs.States.Cut.{OpenStripe, open_stripe}
use Rattle.t85_core.specs.Private.Cut.{BegunRun}
use Rattle.t85_core.specs.States.DecodeRows.{rows_done}

-- A code that breaks after these bytes of it, and what of the piece wasn't looked at.
pub record CodeBreaks (text piece : List ℕ) (bytes : List ℕ) (fault : Fault) : Type 0 where
  pub some : 1 ≤ length bytes
  pub small : AllByRecursion (λ b. b < 256) bytes
  pub rest : List ℕ
  pub unread : List ℕ
  pub text_is : text ++ piece ≡ (stuffed bytes ++ rest) ++ unread
  pub broken : RestFault rest fault
  pub counted : counted_as Truncated fault ≡ fault
  pub at_end : fault ≡ Truncated → unread ≡ []

-- ---- a row

-- The parts of a row decoder that a piece may change.
pub record RowState : Type 0 where
  pub carried : Carried
  pub decoder : Decoder
  pub place : RowPlace
  pub first : Option Code
  pub marker : Option Bool
  pub piece : List ℕ

abbrev pub row_state_at : Carried → Decoder → RowPlace → Option Code → Option Bool → List ℕ → RowState
row_state_at carried decoder place first marker piece = record { carried = carried; decoder = decoder; place = place; first = first; marker = marker; piece = piece }

-- the parts of one that borrows these two, and reads this code
abbrev pub row_state : {F : ℕ} → Lent → Kept → Decoder → RowPlace → PieceCode F → RowState
row_state {F} lent kept decoder place code = row_state_at (carried_by lent.window.now kept lent.learned.now) decoder place code.first code.marker code.piece.rest.now

-- The bytes of a stripe: those handed out before it, those handed out up to here, and those that were taken for its code.
pub record Handed : Type 0 where
  pub began : List ℕ
  pub out : List ℕ
  pub text : List ℕ

abbrev pub handed : List ℕ → List ℕ → List ℕ → Handed
handed began out text = record { began = began; out = out; text = text }

-- Row `row` was decoded, from these bytes of the piece. It leaves this state.
pub record PieceRowTaken (stripe : OpenStripe) (shape : Shape) (row : ℕ) (left : RowState) (parts : Handed) (piece : List ℕ) : Type 0 where
  pub given : List ℕ
  pub taken : piece ≡ given ++ left.piece
  pub read : RowsKnown stripe shape (rows_done (row + 1) left.carried left.decoder) parts.began (parts.out ++ left.carried.held.current)
  pub code_is : CodeText left.first left.marker read.answers [] (parts.text ++ given)

-- A row breaks, or its piece ends: the rows before it are all that the bytes fix.
pub record RowBroken (stripe : OpenStripe) (count : ℕ) (parts : Handed) (piece : List ℕ) (fault : Fault) : Type 0 where
  pub bytes : List ℕ
  pub breaks : CodeBreaks parts.text piece bytes fault
  pub rows : List (List Bool)
  pub flags : List Bool
  pub begun : BegunRun stripe count bytes rows flags
  pub out_is : parts.out ≡ parts.began ++ flat_map packed_row rows

-- A row waits for what follows these bytes. It leaves this state.
pub record RowWaits (stripe : OpenStripe) (shape : Shape) (row : ℕ) (left : RowState) (parts : Handed) (piece : List ℕ) : Type 0 where
  pub given : List ℕ
  pub taken : piece ≡ given ++ left.piece
  pub begun : RowBegun stripe shape (open_row row left.carried left.decoder left.place) parts.began parts.out
  pub code_is : CodeText left.first left.marker (begun.read.answers ++ begun.since) [] (parts.text ++ given)

-- A row waits at the end marker of its code, which was read ahead: the rows before it are all that the bytes before the marker fix.
pub record RowAtMarker (stripe : OpenStripe) (shape : Shape) (row : ℕ) (left : RowState) (parts : Handed) (piece : List ℕ) : Type 0 where
  pub waits : RowWaits stripe shape row left parts piece
  pub reset : Bool
  pub ahead : left.first ≡ Some (code.Marker reset)
  pub front : List ℕ
  pub given_is : waits.given ≡ front ++ marker_bytes reset
  pub cut : (count : ℕ) → row ≤ count → RowBroken stripe count parts front Truncated

-- what is left of a row that has begun in whatever stripe
abbrev pub FromRow : Shape → RowState → (OpenStripe → ℕ → Handed → Type 0) → Type 0
FromRow shape s Leaves =
    (h : Fields) (c : StripeStart) (segments : List Segment) (row : ℕ) (began out text : List ℕ) →
    (b : RowBegun (open_stripe h c segments) shape (open_row row s.carried s.decoder s.place) began out) → CodeText s.first s.marker (b.read.answers ++ b.since) [] text →
    Leaves (open_stripe h c segments) row (handed began out text)

abbrev pub EndsRow : Bool → Shape → RowState → RowState → Type 0
EndsRow waits shape s t = FromRow shape s (λ stripe row parts. PieceRowTaken stripe shape row t parts s.piece × (waits ≡ true → (MarkerRead s.marker s.first → ⊥) → MarkerRead t.marker t.first → ⊥))

abbrev pub BreaksRow : Shape → RowState → Fault → Type 0
BreaksRow shape s fault = FromRow shape s (λ stripe row parts. (count : ℕ) → row ≤ count → RowBroken stripe count parts s.piece fault)

abbrev pub WaitsInRow : Shape → RowState → RowState → Type 0
WaitsInRow shape s t = FromRow shape s (λ stripe row parts. RowWaits stripe shape row t parts s.piece × (t.first ≡ None) × (t.marker ≡ None))

abbrev pub StopsInRow : Bool → Shape → RowState → RowState → Type 0
StopsInRow waits shape s t = FromRow shape s (λ stripe row parts. (waits ≡ true) × ((MarkerRead s.marker s.first → ⊥) → RowAtMarker stripe shape row t parts s.piece))

-- ---- after the last row of a stripe

-- Bytes of a code were skipped, and its end marker.
pub record SkipsSome (piece piece' : List ℕ) (reset : Bool) : Type 0 where
  pub code : List ℕ
  pub small : AllByRecursion (λ b. b < 256) code
  pub taken : piece ≡ (stuffed code ++ marker_bytes reset) ++ piece'

-- Bytes of a code were skipped, and then it breaks, or the piece ends.
pub record SkipBreaks (piece piece' : List ℕ) (fault : Fault) : Type 0 where
  pub code : List ℕ
  pub small : AllByRecursion (λ b. b < 256) code
  pub taken : piece ≡ stuffed code ++ piece'
  pub ends : CodeEnds piece' fault

-- The end marker of a code, of which the rows were answered so.
pub record MarkerFound (answers : List Pulled) (text piece piece' : List ℕ) (reset : Bool) : Type 0 where
  pub given : List ℕ
  pub taken : piece ≡ given ++ piece'
  pub code : List ℕ
  pub small : AllByRecursion (λ b. b < 256) code
  pub agrees : Agrees answers code
  pub text_is : text ++ given ≡ stuffed code ++ marker_bytes reset

-- however the rows were answered
abbrev pub FindsMarker : Option Code → Option Bool → List ℕ → List ℕ → Bool → Type 0
FindsMarker first marker piece piece' reset = (answers : List Pulled) (extra text : List ℕ) → CodeText first marker answers extra text → MarkerFound answers text piece piece' reset

-- The code breaks after its rows.
pub record MarkerMissing (answers : List Pulled) (text piece : List ℕ) (fault : Fault) : Type 0 where
  pub more : List ℕ
  pub small : AllByRecursion (λ b. b < 256) more
  pub going : heard_of answers ≡ More
  pub breaks : CodeBreaks text piece (bytes_of answers ++ more) fault

abbrev pub MissesMarker : Option Code → Option Bool → List ℕ → Fault → Type 0
MissesMarker first marker piece fault = (answers : List Pulled) (extra text : List ℕ) → CodeText first marker answers extra text → MarkerMissing answers text piece fault

-- The bytes of the code that arrived were skipped.
pub record CodeKept (first : Option Code) (marker : Option Bool) (answers : List Pulled) (text piece piece' : List ℕ) : Type 0 where
  pub given : List ℕ
  pub taken : piece ≡ given ++ piece'
  pub extra : List ℕ
  pub code_is : CodeText first marker answers extra (text ++ given)

abbrev pub KeepsCode : Option Code → Option Code → Option Bool → List ℕ → List ℕ → Type 0
KeepsCode first first' marker piece piece' = (answers : List Pulled) (extra text : List ℕ) → CodeText first marker answers extra text → CodeKept first' marker answers text piece piece'
