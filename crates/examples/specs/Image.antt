-- The image after encoding and decoding.
use Rattle.std.specs.Prelude.{⊤, ◌≡◌, ℕ, List, Option}
use Rattle.std.specs.Io.KnownBytes.{Appends}
use Rattle.pbm_core.specs.Image.{IsPbm}
use Rattle.raster_core.specs.Raster.{Raster, IsRaster}
use Rattle.t85_core.specs.declared.fault.Fault.{Fault}
use Rattle.t85_core.specs.declared.fault.Fault.TheVariants.{AnnouncedLow, OutOfMemory, Pbm, Write}
use Rattle.t85_core.specs.Outcome.{pbm_text}

-- the raw form of an image, with white padding, and nothing more
abbrev pub IsRawForm : List ℕ → Type 0
IsRawForm bytes = (raster : Raster) × IsRaster raster × (bytes ≡ pbm_text raster)

-- The bytes begin with an image, and its raw form was written. So bytes in the raw form are unchanged.
pub record WritesRawForm (bytes : List ℕ) (old new : Option (List ℕ)) : Type 0 where
  pub raster : Raster
  pub rest : List ℕ
  pub is : IsPbm bytes raster.width raster.rows rest
  pub appends : Appends old new (pbm_text raster)
  pub unchanged : IsRawForm bytes → Appends old new bytes

-- the possible errors: of an image, of memory, and of an output; none of a stream
abbrev pub IsOfImage : Fault → Type 0
IsOfImage (Pbm fault) = ⊤
IsOfImage AnnouncedLow = ⊤
IsOfImage OutOfMemory = ⊤
IsOfImage Write = ⊤
IsOfImage fault = ⊥
