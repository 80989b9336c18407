-- A stream that ends too early, and the output for it.
use Rattle.std.specs.Prelude.{ℕ, ◌≡◌, ◌≢◌, ◌⊎◌, List, ◌++◌, take, Option, Result, Err, OnOk, IfErr}
use Rattle.std.specs.Io.KnownBytes.{Appends, Keeps}
use Rattle.devices.specs.Device.{AppendsBeginning}
use Rattle.raster_core.specs.Raster.{Raster, IsRaster, height}
use Rattle.t85_core.specs.declared.fault.Fault.{Fault}
use Rattle.t85_core.specs.declared.fault.Fault.TheVariants.{OutOfMemory, Read, Write}
use Rattle.t85_core.specs.Outcome.{pbm_rows, pbm_text}
use Rattle.t85_core.specs.Jbg.{Settings, AreSettings, IsAnnounced, jbg}
use Rattle.t85_core.specs.ToPbm.{IsFixed}

-- the stream of a raster begins with the bytes, which may be all or none of it
pub record Begins (raster : Raster) (bytes : List ℕ) : Type 0 where
  pub chosen : Settings
  pub accepted : AreSettings chosen
  pub proper : IsRaster raster
  pub announced : IsAnnounced chosen (height raster)
  pub more : List ℕ
  pub stream_is : jbg chosen raster ≡ bytes ++ more

-- the image's header and its first rows were written
abbrev pub WritesFirstRows : Raster → Option (List ℕ) → Option (List ℕ) → Type 0
WritesFirstRows raster old new = (count : ℕ) × Appends old new (pbm_rows raster.width (height raster) (take count raster.rows))

-- The output for bytes with which the stream of this raster begins: a prefix of the image, whatever failed.
pub record WritesFirst (raster : Raster) (bytes : List ℕ) (old new : Option (List ℕ)) (answer : Result (Unit {0}) Fault) : Type 0 where
  pub begins : AppendsBeginning old new (pbm_text raster)
  -- the whole image
  pub whole : OnOk answer (Appends old new (pbm_text raster))
  -- whole rows, or nothing, if no write failed
  pub rows : answer ≢ Err Write → Keeps old new ⊎ WritesFirstRows raster old new
  -- rows, if the bytes contain a header with a fixed height, and neither memory nor a device failed
  pub some : IsFixed bytes → IfErr answer (λ f. f ≢ Read → f ≢ Write → f ≢ OutOfMemory → WritesFirstRows raster old new)
