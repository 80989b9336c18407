-- The rows that a source produces.
use Rattle.std.specs.Prelude.{ℕ, Option}
use Rattle.pbm_core.specs.declared.form.Form.{Form}

-- The origin of rows: the form of their bytes; the length of a row, if the source has rows of one length only; and the
-- reference to their input, if there is one.
pub record RowOrigin : Type 0 where
  pub form : Form
  pub row : Option ℕ
  pub reference : ℕ
