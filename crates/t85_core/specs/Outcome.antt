-- The output for the body of a stream.
use Rattle.std.specs.Prelude.{ℕ, ◌≡◌, Bool, List, ◌++◌, Option, Some, None, flat_map}
use Rattle.pbm_core.specs.Pbm.{header_text}
use Rattle.raster_core.specs.Raster.{Raster, height}
use Rattle.raster_core.specs.Packed.{packed_row}
use Rattle.t85_core.specs.declared.fault.Fault.{Fault}
use Rattle.t85_core.specs.Header.{Fields}
use Rattle.t85_core.specs.Denotes.{DenotesAt}
use Rattle.t85_core.specs.Fixed.{Fixes}

-- the PBM header of an image of this size, and these rows of it
abbrev pub pbm_rows : ℕ → ℕ → List (List Bool) → List ℕ
pbm_rows width height' rows = header_text width height' ++ flat_map packed_row rows

-- the image of a raster
abbrev pub pbm_text : Raster → List ℕ
pbm_text raster = pbm_rows raster.width (height raster) raster.rows

-- The output for a body: the whole raster that it denotes, or, with an error, the rows that it fixes.
abbrev pub IsOutcome : Fields → ℕ → List ℕ → Option Fault → List ℕ → Type 0
IsOutcome h height' body None text = (raster : Raster) × DenotesAt h height' body raster × (text ≡ pbm_text raster)
IsOutcome h height' body (Some fault) text = (rows : List (List Bool)) × Fixes h height' body fault rows × (text ≡ pbm_rows h.xd height' rows)
