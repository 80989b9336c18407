-- The result and the effect of `t85_set_height`.
use Rattle.std.specs.Prelude.{ℕ, ◌≡◌, ◌⊎◌, ◌↔◌, List, ◌++◌, take, drop, Some}
use Rattle.byteorder.specs.Endian.{big_bytes}
use Rattle.raster_core.specs.Raster.{Raster}
use Rattle.t85_core.specs.declared.fault.Fault.{Fault}
use Rattle.t85_core.specs.Denotes.{Denotes}
use Rattle.t85_core.specs.Fault.{fault_number}
use Rattle.t85_core.specs.Header.{Fields, HeaderOf, header_fault}
use Rattle.t85_core.specs.Height.{IsHeight}

-- the same stream with this height in its header
abbrev pub with_yd : List ℕ → ℕ → List ℕ
with_yd bytes height = take 8 bytes ++ (big_bytes 4 height ++ drop 12 bytes)

-- The header has the actual height, and no other byte has changed. The stream denotes the same rasters.
pub record SetsHeight (old new : List ℕ) (answer : ℕ) : Type 0 where
  pub answer_is : answer ≡ 0
  pub header : Fields
  pub header_of : HeaderOf old header
  pub height : ℕ
  pub height_is : IsHeight header (drop 20 old) height
  pub set : new ≡ with_yd old height
  pub same : HeaderOf new (record header { yd = height })
  pub denotes : (raster : Raster) → Denotes old raster ↔ Denotes new raster

-- The header is rejected, and nothing is set.
pub record KeepsHeight (old new : List ℕ) (answer : ℕ) : Type 0 where
  pub fault : Fault
  pub is : header_fault old ≡ Some fault
  pub answer_is : answer ≡ fault_number fault
  pub kept : new ≡ old

-- the effect of `t85_set_height`
abbrev pub HeightSet : List ℕ → List ℕ → ℕ → Type 0
HeightSet old new answer = SetsHeight old new answer ⊎ KeepsHeight old new answer
