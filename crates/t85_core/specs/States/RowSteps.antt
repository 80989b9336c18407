-- The results of the steps of a row encoder.
use Rattle.std.specs.Prelude.{ℕ, ◌≡◌, Bool, false, List}
use Rattle.pbm_core.specs.Image.{pixels_of}
use Rattle.t85_core.specs.declared.encoding.by_row.RowEncoder.{RowEncoder}

-- The encoder accepts rows.
abbrev pub IsGoing : RowEncoder → Type 0
IsGoing e = e.is_closed ≡ false

-- The row in these bytes.
abbrev pub given_row : RowEncoder → List ℕ → List Bool
given_row e bytes = pixels_of e.size.width bytes
