-- The rows that an encoder reads.
use Rattle.std.specs.Prelude.{ℕ, ◌≡◌, Bool, List, [], ◌∷◌, Option}
use Rattle.std.specs.Io.KnownBytes.{Consumes, IsAtEnd}
use Rattle.pbm_core.specs.Image.{RowFault, AreRows}
use Rattle.pbm_core.specs.declared.form.Form.{Form}
use Rattle.pbm_core.specs.Reading.{fault_of_given}
use Rattle.pbm_core.specs.declared.fault.PbmFault.{PbmFault}
use Rattle.pbm_core.specs.declared.fault.PbmFault.TheVariants as pbm
use Rattle.raster_core.specs.Lines.{Lines}
use Rattle.raster_core.specs.Packed.{Held, HasLines}

-- Rows of an image were read.
pub record ReadsRows (form : Form) (width : ℕ) (old new : Option (List ℕ)) (rows : List (List Bool)) : Type 0 where
  pub given : List ℕ
  pub taken : Consumes old new given
  pub are_rows : AreRows form width given rows

-- The input ended, a read failed, or a byte is no digit, before the row was complete.
pub record EndsInRow (form : Form) (width : ℕ) (old new : Option (List ℕ)) (fault : PbmFault) : Type 0 where
  pub given : List ℕ
  pub taken : Consumes old new given
  pub has_fault : RowFault form width given (fault_of_given fault)
  pub at_end : fault ≡ pbm.Truncated → IsAtEnd new

-- A row was read. It is below the lines of the old window.
pub record RowTaken (form : Form) (width : ℕ) (known known' : Option (List ℕ)) (old new : Held) : Type 0 where
  pub row : List Bool
  pub read : ReadsRows form width known known' (row ∷ [])
  pub below : (lines : Lines) → HasLines old lines → HasLines new (record { row = row; above = lines.row; second = lines.above })
