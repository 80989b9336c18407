-- A PBM that is read from pieces, in a C caller's struct, and the effect of its calls.
use Rattle.std.specs.Prelude.{ℕ, ◌+◌, ◌≡◌, ◌≢◌, ◌≤◌, ◌<◌, ◌⊎◌, ◌==◌, if◌then◌else◌, Bool, List, [], ◌∷◌, ◌++◌, length, take}
use Rattle.pbm_core.specs.declared.fault.PbmFault.{PbmFault}
use Rattle.pbm_core.specs.declared.fault.PbmFault.TheVariants.{Truncated}
use Rattle.pbm_core.specs.declared.form.Form.{Form}
use Rattle.pbm_core.specs.declared.form.Form.TheVariants.{Raw, Plain}
use Rattle.pbm_core.specs.declared.header_reader.HeaderReader.{HeaderReader}
use Rattle.pbm_core.specs.declared.header_reader.Place.{Place}
use Rattle.pbm_core.specs.declared.header_reader.Place.TheVariants.{Start, Letter, Letters, Gap, Comment, Digits, LastComment}
use Rattle.pbm_core.specs.declared.row_reader.RowReader.{RowReader}
use Rattle.pbm_core.specs.Fault.{pbm_fault_number}
use Rattle.pbm_core.specs.HeaderPieces.{HasScanned}
use Rattle.pbm_core.specs.Image.{packed_row, HoldsRows, IsPbm, HasImageFault}
use Rattle.pbm_core.specs.Outcome.{HasHeader}
use Rattle.pbm_core.specs.Pbm.{bytes_of_row}
use Rattle.pbm_core.specs.Refusal.{HeaderFault}
use Rattle.pbm_core.specs.RowPieces.{HasFilled}
use Rattle.libt85.specs.declared.pbm.PbmAnswer.{PbmAnswer}
use Rattle.libt85.specs.declared.pbm.PbmAnswer.TheVariants as answer
use Rattle.libt85.specs.declared.pbm.T85Pbm.{T85Pbm}

-- ---- the numbers in the struct

abbrev pub header_place : ℕ → Place
header_place n =
    if n == 0 then Start else (if n == 1 then Letter else (if n == 2 then Letters else (if n == 3 then Gap else (if n == 4 then Comment else (if n == 5 then Digits else LastComment)))))

abbrev pub form_of : ℕ → Form
form_of n = if n == 0 then Raw else Plain

-- the number of a form
abbrev pub form_number : Form → ℕ
form_number Raw = 0
form_number Plain = 1

abbrev pub header_reader_of : T85Pbm → HeaderReader
header_reader_of p = record { place = header_place p.place; form = form_of p.is_plain; width = p.width; value = p.value }

abbrev pub row_reader_of : T85Pbm → RowReader
row_reader_of p = record { filled = p.filled; made = p.made }

-- ---- the states of a reader that has consumed these bytes

-- in the header
pub record InPbmHeader (p : T85Pbm) (bytes : List ℕ) : Type 0 where
  pub version_is : p.version ≡ 1
  pub next_is : p.next ≡ 0
  pub scanned : HasScanned (header_reader_of p) bytes

-- behind the header and these rows: the next row is not complete
pub record InPbmRows (p : T85Pbm) (row bytes : List ℕ) (rows : List (List Bool)) : Type 0 where
  pub version_is : p.version ≡ 1
  pub next_is : p.next ≡ 1
  pub body : List ℕ
  pub part : List ℕ
  pub header : HasHeader bytes (form_of p.is_plain) p.width p.height body
  pub holds : HoldsRows (form_of p.is_plain) body p.width rows part
  pub left_is : length rows + p.rows_left ≡ p.height
  pub filled : HasFilled (form_of p.is_plain) (row_reader_of p) p.width (take (bytes_of_row p.width) row) part
  pub done : p.rows_left ≡ 0 → part ≡ []

-- after an error, with this status
pub record PbmHasEnded (p : T85Pbm) (status : ℕ) : Type 0 where
  pub version_is : p.version ≡ 1
  pub next_is : p.next ≡ 2
  pub status_is : p.status ≡ status

-- the struct was not initialized, as its first numbers show
abbrev pub PbmIsNotBegun : T85Pbm → Type 0
PbmIsNotBegun p = (p.version ≢ 1) ⊎ ((p.next ≢ 0) × (p.next ≢ 1) × (p.next ≢ 2))

-- ---- the effect of a call

-- the start: of another size, the struct is unchanged
abbrev pub BeginsPbm : ℕ → T85Pbm → T85Pbm → ℕ → Type 0
BeginsPbm size old new status = ((size ≡ 64) × (status ≡ 0) × InPbmHeader new []) ⊎ ((size ≢ 64) × (status ≡ 50) × (new ≡ old))

-- the status of an error
abbrev pub pbm_status_of : PbmFault → ℕ
pbm_status_of fault = 30 + pbm_fault_number fault

abbrev pub pbm_status : PbmAnswer → ℕ
pbm_status answer.Done = 0
pbm_status (answer.Broken fault) = pbm_status_of fault
pbm_status answer.NotBegun = 53
pbm_status answer.ShortRow = 55
pbm_status answer.Header = 60
pbm_status answer.Row = 61
pbm_status answer.More = 62
pbm_status (answer.Ended status) = status

-- a call: the piece, and how many of its bytes were consumed
pub record PieceCall : Type 0 where
  pub piece : List ℕ
  pub taken : ℕ

abbrev pub pbm_call : List ℕ → ℕ → PieceCall
pbm_call piece taken = record { piece = piece; taken = taken }

-- the bytes consumed so far
abbrev pub with_call : List ℕ → PieceCall → List ℕ
with_call before call = before ++ take call.taken call.piece

-- Nothing was consumed or changed.
abbrev pub KeepsPbm : T85Pbm → T85Pbm → PieceCall → Type 0
KeepsPbm old new call = (new ≡ old) × (call.taken ≡ 0)

-- The result in the header: the header is complete, and the struct has the number of its form; or it is undecided, or has an
-- error.
abbrev pub TellsPbmHeader : List ℕ → T85Pbm → PieceCall → PbmAnswer → Type 0
TellsPbmHeader before new call answer.Header = ((row : List ℕ) → InPbmRows new row (with_call before call) []) × (new.is_plain ≡ form_number (form_of new.is_plain))
TellsPbmHeader before new call answer.More = (call.taken ≡ length call.piece) × InPbmHeader new (with_call before call) × HeaderFault (with_call before call) Truncated
TellsPbmHeader before new call (answer.Broken fault) = HeaderFault (with_call before call) fault × (fault ≢ Truncated) × PbmHasEnded new (pbm_status_of fault)
TellsPbmHeader before new call _ = ⊥

-- the effect of `t85_pbm_header`
pub record ReadsPbmHeader (old new : T85Pbm) (call : PieceCall) (told : PbmAnswer) : Type 0 where
  pub within : call.taken ≤ length call.piece
  pub tells : (before : List ℕ) → InPbmHeader old before → TellsPbmHeader before new call told
  pub again : old.version ≡ 1 → old.next ≡ 1 → (told ≡ answer.Header) × KeepsPbm old new call
  pub ended : (status : ℕ) → PbmHasEnded old status → (told ≡ answer.Ended status) × KeepsPbm old new call
  pub not_begun : PbmIsNotBegun old → (told ≡ answer.NotBegun) × KeepsPbm old new call

-- the struct and the caller's row
pub record PbmHold : Type 0 where
  pub pbm : T85Pbm
  pub row : List ℕ

abbrev pub pbm_hold : T85Pbm → List ℕ → PbmHold
pbm_hold pbm row = record { pbm = pbm; row = row }

abbrev pub KeepsPbmHold : PbmHold → PbmHold → PieceCall → Type 0
KeepsPbmHold old new call = (new ≡ old) × (call.taken ≡ 0)

-- the next row, packed, in the caller's row
pub record HasPbmRow (before : List ℕ) (rows : List (List Bool)) (new : PbmHold) (call : PieceCall) : Type 0 where
  pub pixels : List Bool
  pub reads : InPbmRows new.pbm new.row (with_call before call) (rows ++ pixels ∷ [])
  pub packed : take (bytes_of_row new.pbm.width) new.row ≡ packed_row pixels

-- The result within a row: it is complete, undecided, or has an error.
abbrev pub TellsPart : List ℕ → List (List Bool) → PbmHold → PieceCall → PbmAnswer → Type 0
TellsPart before rows new call answer.Row = HasPbmRow before rows new call
TellsPart before rows new call answer.More =
    (call.taken ≡ length call.piece) × InPbmRows new.pbm new.row (with_call before call) rows × HasImageFault (with_call before call) Truncated
TellsPart before rows new call (answer.Broken fault) = HasImageFault (with_call before call) fault × (fault ≢ Truncated) × PbmHasEnded new.pbm (pbm_status_of fault)
TellsPart before rows new call _ = ⊥

-- The result behind the header: in addition, there may be no more rows, or the caller's row is too short.
abbrev pub TellsRow : List ℕ → List (List Bool) → PbmHold → PbmHold → PieceCall → PbmAnswer → Type 0
TellsRow before rows old new call answer.Done = IsPbm before old.pbm.width rows [] × KeepsPbmHold old new call
TellsRow before rows old new call answer.ShortRow = (length old.row < bytes_of_row old.pbm.width) × KeepsPbmHold old new call
TellsRow before rows old new call told = TellsPart before rows new call told

-- the effect of `t85_pbm_row`
pub record ReadsPbmRow (old new : PbmHold) (call : PieceCall) (told : PbmAnswer) : Type 0 where
  pub within : call.taken ≤ length call.piece
  pub tells : (before : List ℕ) (rows : List (List Bool)) → InPbmRows old.pbm old.row before rows → TellsRow before rows old new call told
  -- after the last row, and before it for a row that is too short, whichever row the calls before were passed
  pub done : (row before : List ℕ) (rows : List (List Bool)) → InPbmRows old.pbm row before rows → length rows ≡ old.pbm.height → (told ≡ answer.Done) × KeepsPbmHold old new call
  pub short : (row before : List ℕ) (rows : List (List Bool)) → InPbmRows old.pbm row before rows → length rows < old.pbm.height → length old.row < bytes_of_row old.pbm.width
      → (told ≡ answer.ShortRow) × KeepsPbmHold old new call
  pub same_form : new.pbm.is_plain ≡ old.pbm.is_plain
  pub ended : (status : ℕ) → PbmHasEnded old.pbm status → (told ≡ answer.Ended status) × KeepsPbmHold old new call
  pub not_begun : PbmIsNotBegun old.pbm ⊎ (old.pbm.next ≡ 0) → (told ≡ answer.NotBegun) × KeepsPbmHold old new call

-- the effect of `t85_pbm_end`
pub record EndsPbm (p : T85Pbm) (status : ℕ) : Type 0 where
  pub in_header : (before : List ℕ) → InPbmHeader p before → (status ≡ 36) × HeaderFault before Truncated
  pub in_rows : (row before : List ℕ) (rows : List (List Bool)) → InPbmRows p row before rows
      → ((status ≡ 0) × IsPbm before p.width rows []) ⊎ ((status ≡ 36) × HasImageFault before Truncated)
  pub ended : (last : ℕ) → PbmHasEnded p last → status ≡ last
  pub not_begun : PbmIsNotBegun p → status ≡ 53

-- a status, and the result of which it is the number
pub record IsPbmStatus (IsAnswer : PbmAnswer → Type 0) (status : ℕ) : Type 0 where
  pub told : PbmAnswer
  pub is_answer : IsAnswer told
  pub status_is : status ≡ pbm_status told
