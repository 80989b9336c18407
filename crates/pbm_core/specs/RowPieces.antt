-- A row that is read from pieces: the state after some of its bytes, and the effect of a call.
use Rattle.std.specs.Prelude.{ℕ, ◌≡◌, ◌≢◌, ◌<◌, ◌*◌, Bool, true, false, List, [], ◌++◌, length, take, slice_index, map, slice_index_or}
use Rattle.std.specs.List.{AllByRecursion}
use Rattle.pbm_core.specs.declared.fault.PbmFault.TheVariants.{Truncated}
use Rattle.pbm_core.specs.declared.form.Form.{Form}
use Rattle.pbm_core.specs.declared.form.Form.TheVariants.{Raw, Plain}
use Rattle.pbm_core.specs.declared.row_reader.RowReader.{RowReader}
use Rattle.pbm_core.specs.declared.row_reader.RowOutcome.{RowOutcome}
use Rattle.pbm_core.specs.declared.row_reader.RowOutcome.TheVariants as outcome
use Rattle.pbm_core.specs.declared.row_reader.RowProgress.{RowProgress}
use Rattle.pbm_core.specs.Pbm.{bytes_of_row, IsWhite}
use Rattle.pbm_core.specs.Image.{binary, packed_row, ArePixels, RowFault, IsRowOf, numbers_from}

-- byte k of a packed row
abbrev pub byte_at : List Bool → ℕ → ℕ
byte_at row k = binary (map (λ x. slice_index_or row x false) (numbers_from (8 * k) 8))

-- Fewer pixels than a row has: those of complete bytes are in the row, and the others in the reader.
pub record HoldsPixels (reader : RowReader) (width : ℕ) (row : List ℕ) (pixels : List Bool) : Type 0 where
  pub bytes : ℕ
  pub whole : List Bool
  pub part : List Bool
  pub pixels_are : pixels ≡ whole ++ part
  pub many : length whole ≡ 8 * bytes
  pub few : length part < 8
  pub filled : reader.filled ≡ length pixels
  pub below : length pixels < width
  pub made : reader.made ≡ binary part
  pub packed : (k : ℕ) → k < bytes → slice_index row k ≡ byte_at whole k

-- pixels, and white space after them
pub record ScansPixels (reader : RowReader) (width : ℕ) (row bytes : List ℕ) : Type 0 where
  pub pixels : List Bool
  pub digits : List ℕ
  pub space : List ℕ
  pub bytes_are : bytes ≡ digits ++ space
  pub are_pixels : ArePixels digits pixels
  pub is_space : AllByRecursion IsWhite space
  pub holds : HoldsPixels reader width row pixels

-- The reader and the row represent these bytes, which are not a complete row.
abbrev pub HasFilled : Form → RowReader → ℕ → List ℕ → List ℕ → Type 0
HasFilled Raw reader width row bytes = (reader.filled ≡ length bytes) × (length bytes < bytes_of_row width) × (bytes ≡ take (length bytes) row)
HasFilled Plain reader width row bytes = ScansPixels reader width row bytes

-- the result of one more pixel: it is the last, or there are others
abbrev pub PutsPixel : RowReader → ℕ → List ℕ → List Bool → Bool → Type 0
PutsPixel new width row pixels true = (length pixels ≡ width) × (row ≡ packed_row pixels) × HasFilled Plain new width row []
PutsPixel new width row pixels false = HoldsPixels new width row pixels

-- The consumed bytes are undecided, a row, or end where their error shows. Undecided bytes are those that would be
-- truncated if no more followed. After a row, the reader is before the next.
abbrev pub DecidesRow : Form → ℕ → List ℕ → RowReader → List ℕ → RowOutcome → Type 0
DecidesRow form width bytes reader row outcome.More = HasFilled form reader width row bytes × RowFault form width bytes Truncated
DecidesRow form width bytes reader row outcome.Row = IsRowOf form width bytes row × HasFilled form reader width row []
DecidesRow form width bytes reader row (outcome.Broken fault) = RowFault form width bytes fault × (fault ≢ Truncated)

-- the state between two pieces: the reader, and the caller's row
pub record PieceRow : Type 0 where
  pub reader : RowReader
  pub row : List ℕ

abbrev pub piece_row : RowReader → List ℕ → PieceRow
piece_row reader row = record { reader = reader; row = row }

-- A piece after the bytes before it: the reader consumes no byte behind the row or behind its error, and leaves none
-- before either.
pub record TakesRowPiece (form : Form) (width : ℕ) (before piece : List ℕ) (new : PieceRow) (progress : RowProgress) : Type 0 where
  pub decides : DecidesRow form width (before ++ take progress.taken piece) new.reader new.row progress.outcome
  pub all_taken : progress.outcome ≡ outcome.More → progress.taken ≡ length piece
