-- The effect of `to_jbg` on its input and output.
use Rattle.std.specs.Prelude.{ℕ, ◌≡◌, ◌≢◌, ◌⊎◌, Bool, true, List, [], Option, IfSome, Result, OnOk, IfErr, IsErrOf, false}
use Rattle.std.specs.Io.KnownBytes.{Appends, Consumes, Keeps}
use Rattle.t85_core.specs.Change.{Change, with_ahead}
use Rattle.pbm_core.specs.Image.{IsPbm}
use Rattle.pbm_core.specs.Outcome.{HasHeader, HasFault}
use Rattle.pbm_core.specs.Refusal.{HeaderFault}
use Rattle.pbm_core.specs.declared.fault.PbmFault.{PbmFault}
use Rattle.pbm_core.specs.declared.fault.PbmFault.TheVariants as pbm
use Rattle.raster_core.specs.Raster.{Raster, IsRaster}
use Rattle.t85_core.specs.declared.fault.Fault.{Fault}
use Rattle.t85_core.specs.declared.fault.Fault.TheVariants.{Write, OutOfMemory, AnnouncedLow, Pbm}
use Rattle.t85_core.specs.Denotes.{Denotes}
use Rattle.t85_core.specs.Jbg.{Settings, is_low, jbg}
use Rattle.t85_core.specs.Failures.{CountsBoth, CountsWrite}
use Rattle.t85_core.specs.Encode.{Layout, WritesCodeBegun, WritesCodeFront}

-- The stream of the raster of a PBM was written, and denotes that raster.
pub record WritesStream (s : Settings) (bytes : List ℕ) (old new : Option (List ℕ)) : Type 0 where
  pub raster : Raster
  pub rest : List ℕ
  pub is : IsPbm bytes raster.width raster.rows rest
  pub proper : IsRaster raster
  pub appends : Appends old new (jbg s raster)
  pub denotes : Denotes (jbg s raster) raster

-- An accepted header, followed by rows with this error.
pub record WritesStreamBegun (s : Settings) (bytes : List ℕ) (fault : PbmFault) (old new : Option (List ℕ)) : Type 0 where
  pub layout : Layout
  pub body : List ℕ
  pub header : HasHeader bytes layout.form layout.width layout.height body
  pub fits : is_low s layout.height ≡ false
  pub writes : WritesCodeBegun s layout body fault old new

-- An accepted header, followed by rows of which a prefix was encoded.
pub record WritesStreamFront (s : Settings) (bytes : List ℕ) (old new : Option (List ℕ)) : Type 0 where
  pub layout : Layout
  pub body : List ℕ
  pub header : HasHeader bytes layout.form layout.width layout.height body
  pub fits : is_low s layout.height ≡ false
  pub writes : WritesCodeFront s layout body old new

-- the bytes are exactly an image
pub record IsImage (bytes : List ℕ) : Type 0 where
  pub width : ℕ
  pub rows : List (List Bool)
  pub is : IsPbm bytes width rows []

-- exactly an accepted header; whether the announced height is too low
pub record HasSize (s : Settings) (low : Bool) (bytes : List ℕ) : Type 0 where
  pub layout : Layout
  pub header : HasHeader bytes layout.form layout.width layout.height []
  pub low_is : is_low s layout.height ≡ low

-- The output for a rejected PBM: nothing for its header, and a prefix if rows are missing.
abbrev pub RefusesPbm : Settings → List ℕ → PbmFault → Option (List ℕ) → Option (List ℕ) → Type 0
RefusesPbm s bytes fault old new = (HasFault bytes fault × Keeps old new) ⊎ WritesStreamBegun s bytes fault old new

-- The effect of a call that consumes no byte of its input after the rows.
pub record ToJbg (s : Settings) (input output : Change) (flushed : Bool) (answer : Result (Unit {0}) Fault) : Type 0 where
  pub whole : OnOk answer (IfSome input.old.bytes (λ bytes. WritesStream s bytes output.old.bytes output.new.bytes))
  pub taken : OnOk answer ((given : List ℕ) × Consumes input.old.bytes input.new.bytes given × IsImage given)
  pub flushed_last : OnOk answer (flushed ≡ true)
  pub refused : (fault : PbmFault) → fault ≢ pbm.Read → IsErrOf answer (Pbm fault) → IfSome input.old.bytes (λ bytes. RefusesPbm s bytes fault output.old.bytes output.new.bytes)
  -- these errors follow an accepted header, with nothing more read and nothing written
  pub low : IsErrOf answer AnnouncedLow → Keeps output.old.bytes output.new.bytes × (given : List ℕ) × Consumes input.old.bytes input.new.bytes given × HasSize s true given
  pub no_memory : IsErrOf answer OutOfMemory → Keeps output.old.bytes output.new.bytes × (given : List ℕ) × Consumes input.old.bytes input.new.bytes given × HasSize s false given
  -- a read failed, and the bytes up to there are no whole image
  pub unread : IsErrOf answer (Pbm pbm.Read) → (given : List ℕ) × Consumes input.old.bytes input.new.bytes given
      × ((HeaderFault given pbm.Truncated × Keeps output.old.bytes output.new.bytes) ⊎ WritesStreamBegun s given pbm.Truncated output.old.bytes output.new.bytes)
  -- a write failed, or the flush: with exactly the consumed bytes
  pub cut : IsErrOf answer Write → (given : List ℕ) × Consumes input.old.bytes input.new.bytes given × WritesStreamFront s given output.old.bytes output.new.bytes
  pub among : IfErr answer (λ f. f ≢ AnnouncedLow → f ≢ OutOfMemory → f ≢ Write → (fault : PbmFault) × (f ≡ Pbm fault))
  pub reads : CountsBoth input.old.failures input.new.failures answer
  pub writes : CountsWrite output.old.failures output.new.failures answer

-- The effect of `to_jbg`: the same for an input in which the bytes read ahead are still left. There are none after a failed
-- read. So the bytes before that read are the needed ones, and no read is made if all of them are buffered.
pub record ToJbgAhead (s : Settings) (input output : Change) (flushed : Bool) (answer : Result (Unit {0}) Fault) : Type 0 where
  pub ahead : List ℕ
  pub leaves : ToJbg s (with_ahead ahead input) output flushed answer
  pub none_unread : (input.new.failures ≡ input.old.failures) ⊎ (ahead ≡ [])
