-- Rows that were read, as what the bytes begin with.
use Rattle.std.proofs.Common.{◌≡◌, ℕ, Bool, List, [], ◌∷◌, ◌++◌, length, refl}
use Rattle.std.specs.List.{AllByRecursion}
use Rattle.pbm_core.specs.declared.form.Form.{Form}
use Rattle.pbm_core.specs.Image.{AreRows, HoldsRows}
use Rattle.t85_core.proofs.ImagesEncode.EncoderTakesRow.{row_wide}

-- rows that were read precede the rest
pub rows_hold : {form : Form} {width : ℕ} {rest : List ℕ} {rows : List (List Bool)} (given : List ℕ) → AreRows form width given rows → HoldsRows form (given ++ rest) width rows rest
rows_hold given are = record { front = given; bytes_are = refl; are_rows = are }

-- each has its pixels
pub rows_wide : (form : Form) (width : ℕ) (given : List ℕ) (rows : List (List Bool)) → AreRows form width given rows → AllByRecursion (λ row. length row ≡ width) rows
rows_wide form width given [] p = tt
rows_wide form width given (row ∷ rows) p = (row_wide form p.0 row p.3, rows_wide form width p.1 rows p.4)
