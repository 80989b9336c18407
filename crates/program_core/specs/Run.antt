-- The start and the end of a run: the file for a name, the type of the file, and the exit status.
use Rattle.std.specs.Prelude.{ℕ, Bool, true, false, not, List, Option, Some, None, codes, Result, Ok, Err}
use Rattle.std.specs.Fs.{IsFile}
use Rattle.std.specs.Str.{bytes_eq}
use Rattle.program_core.specs.declared.files.Readable.{Readable}
use Rattle.program_core.specs.declared.files.Readable.TheVariants as readable
use Rattle.program_core.specs.declared.files.Writable.{Writable}
use Rattle.program_core.specs.declared.files.Writable.TheVariants as writable
use Rattle.t85_core.specs.declared.fault.Fault.{Fault}
use Rattle.devices.specs.Device.{OutputView}
use Rattle.t85_core.specs.Change.{between}
use Rattle.t85_core.specs.ToPbm.{Delivery, delivery}

-- whether there is a name other than `-`
abbrev pub names_file : Option (List ℕ) → Bool
names_file None = false
names_file (Some name) = not (bytes_eq name (codes "-"))

abbrev pub reads_file : Readable → Bool
reads_file (readable.Stream stream) = false
reads_file (readable.File file type) = true

-- a named regular file, whose bytes can be read again
abbrev pub IsRegular : Readable → Type 0
IsRegular (readable.Stream stream) = ⊥
IsRegular (readable.File file None) = ⊥
IsRegular (readable.File file (Some type)) = IsFile type

abbrev pub writes_file : Writable → Bool
writes_file (writable.Stream stream) = false
writes_file (writable.File file) = true

-- the exit status of an outcome of the engine
abbrev pub exit_status : Result (Unit {0}) Fault → ℕ
exit_status (Ok u) = 0
exit_status (Err f) = 1

-- An output before and after a run.
pub record Written : Type 0 where
  pub old : OutputView
  pub new : OutputView

abbrev pub written : {W : Type 0} → (W → OutputView) → W → W → Written
written view old new = record { old = view old; new = view new }

-- the engine's view of it
abbrev pub delivered : Written → Delivery
delivered w = delivery (between w.old.contents w.new.contents w.old.failures w.new.failures) w.new.flushed
