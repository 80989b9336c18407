-- The effect of `decode_rows`.
use Rattle.std.specs.Prelude.{ℕ, ◌≡◌, ◌≢◌, Bool, List, length, Option, None, Some, Result, OnOk, IfErr, IsErrOf, flat_map}
use Rattle.std.specs.List.{AllByRecursion}
use Rattle.std.specs.Io.KnownBytes.{Appends}
use Rattle.devices.specs.Device.{AppendsBeginning}
use Rattle.raster_core.specs.Packed.{packed_row}
use Rattle.t85_core.specs.declared.fault.Fault.{Fault}
use Rattle.t85_core.specs.declared.fault.Fault.TheVariants.{Write}
use Rattle.t85_core.specs.Header.{Fields}
use Rattle.t85_core.specs.Outcome.{IsOutcome, pbm_rows}
use Rattle.t85_core.specs.RowSink.{TargetView, WritesOn}

-- A body has one outcome. Its rows were put, and its error was returned; or the sink failed, and has a beginning of them.
pub record PutsRows (h : Fields) (height : ℕ) (body : List ℕ) (old new : TargetView) (answer : Result (Unit {0}) Fault) : Type 0 where
  pub fault : Option Fault
  pub rows : List (List Bool)
  pub is : IsOutcome h height body fault (pbm_rows h.xd height rows)
  pub wide : AllByRecursion (λ row. length row ≡ h.xd) rows
  pub whole : OnOk answer ((fault ≡ None) × Appends old.text new.text (flat_map packed_row rows))
  pub broken : IfErr answer (λ f. f ≢ Write → (fault ≡ Some f) × Appends old.text new.text (flat_map packed_row rows))
  pub cut : IsErrOf answer Write → AppendsBeginning old.text new.text (flat_map packed_row rows)
  pub writes : WritesOn old new answer
