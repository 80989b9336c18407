-- The results of the steps of reading.
use Rattle.std.specs.Prelude.{◌≡◌, ◌≤◌, ◌+◌, ℕ, Bool, List, length, take}
use Rattle.std.specs.Io.KnownBytes.{Consumes}
use Rattle.pbm_core.specs.declared.fault.PbmFault.{PbmFault}
use Rattle.pbm_core.specs.declared.fault.PbmFault.TheVariants.{Truncated}
use Rattle.pbm_core.specs.declared.digits.Found.{Found}
use Rattle.devices.specs.Device.{InputView}
use Rattle.pbm_core.specs.Image.{ArePixels}
use Rattle.pbm_core.specs.RowPieces.{byte_at}

-- the input ended here
abbrev pub IsCut : (List ℕ → Type 0) → List ℕ → PbmFault → Type 0
IsCut P given fault = P given × (fault ≡ Truncated)

-- `count` pixels of the plain form, and the byte that contains them
pub record MakeByte (count : ℕ) (given : List ℕ) (byte : ℕ) : Type 0 where
  pub pixels : List Bool
  pub many : length pixels ≡ count
  pub byte_is : byte ≡ byte_at pixels 0
  pub are_pixels : ArePixels given pixels

-- the first bytes are `count` pixels, which form this byte
pub record FindsPixels (count : ℕ) (bytes : List ℕ) (r : Found) : Type 0 where
  pub within : r.end ≤ length bytes
  pub make : MakeByte count (take r.end bytes) r.byte

-- buffered bytes that are `count` pixels were consumed
pub record TakesPixels (count : ℕ) (old new : InputView) (byte : ℕ) : Type 0 where
  pub given : List ℕ
  pub taken : Consumes old.remaining new.remaining given
  pub left : new.left + length given ≡ old.left
  pub failures : new.failures ≡ old.failures
  pub same_source : new.source ≡ old.source
  pub make : MakeByte count given byte
