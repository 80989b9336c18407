-- Upper bounds on the bytes that the calls of a row encoder write.
use Rattle.std.specs.Prelude.{ℕ, ◌+◌, ◌*◌, ◌≤◌, List, length, Option, Result, OnOk, OnErr}
use Rattle.std.specs.Io.KnownBytes.{Appends}
use Rattle.qm_core.specs.Encoder.{waiting_bytes}
use Rattle.t85_core.specs.declared.encoding.by_row.RowEncoder.{RowEncoder}

-- Bytes were appended. Together with this number of other bytes they are at most `most`.
pub record AppendsBeside (others most : ℕ) (old new : Option (List ℕ)) : Type 0 where
  pub bytes : List ℕ
  pub appended : Appends old new bytes
  pub few : length bytes + others ≤ most

-- At most this number of bytes were appended.
abbrev pub AppendsAtMost : ℕ → Option (List ℕ) → Option (List ℕ) → Type 0
AppendsAtMost most old new = AppendsBeside 0 most old new

-- The bytes that end the code: stuffing at most doubles the bytes held back.
abbrev pub most_code_bytes : RowEncoder → ℕ
most_code_bytes e = 2 * waiting_bytes e.encoder

-- The bytes that end the stream: the code, its end marker, and a height with an empty data entity.
abbrev pub most_end_bytes : RowEncoder → ℕ
most_end_bytes e = most_code_bytes e + 10

-- The bytes of a row: a move, four bytes for each pixel and for the pseudo-pixel, the end of the code, and its end marker.
abbrev pub most_row_bytes : RowEncoder → ℕ
most_row_bytes e = most_code_bytes e + 4 * (e.size.width + 1) + 10

-- At most as many bytes were appended as a row, or the end, may need.
abbrev pub AppendsRow : RowEncoder → Option (List ℕ) → Option (List ℕ) → Type 0
AppendsRow e old new = AppendsAtMost (most_row_bytes e) old new

abbrev pub AppendsEnd : RowEncoder → Option (List ℕ) → Option (List ℕ) → Type 0
AppendsEnd e old new = AppendsAtMost (most_end_bytes e) old new

-- A row was encoded. Its bytes and those still held back are within the bound; after an error, the bytes written are.
pub record CodesFew {E : Type 0} (e e' : RowEncoder) (old new : Option (List ℕ)) (answer : Result (Unit {0}) E) : Type 0 where
  pub ok : OnOk answer (AppendsBeside (most_code_bytes e') (most_code_bytes e + 4 * (e.size.width + 1)) old new)
  pub err : OnErr answer (AppendsAtMost (most_code_bytes e + 4 * (e.size.width + 1)) old new)
