-- The effect of `decode` and `find_height` on their input and output.
use Rattle.std.specs.Prelude.{ℕ, ◌≡◌, ◌≢◌, Bool, List, ◌++◌, Option, IfSome, Result, OnOk, IfErr, IsErrOf, ◌≤◌, false, IfOk}
use Rattle.std.specs.Io.KnownBytes.{Appends, Consumes, Keeps}
use Rattle.devices.specs.Device.{AppendsBeginning}
use Rattle.t85_core.specs.Change.{Change}
use Rattle.raster_core.specs.Raster.{Raster}
use Rattle.t85_core.specs.declared.fault.Fault.{Fault}
use Rattle.t85_core.specs.declared.fault.Fault.TheVariants.{Truncated, Read, Write}
use Rattle.t85_core.specs.Header.{Fields, is_variable}
use Rattle.t85_core.specs.Denotes.{DenotesAt}
use Rattle.t85_core.specs.Fixed.{Fixes}
use Rattle.t85_core.specs.Outcome.{IsOutcome, pbm_rows, pbm_text}
use Rattle.t85_core.specs.Info.{IsBodyFault}
use Rattle.t85_core.specs.Failures.{CountsBoth, CountsWrite, CountsRead}
use Rattle.t85_core.specs.Height.{IsHeight, IsOpen}

-- The image of the one raster that a body denotes was written.
pub record WritesRaster (h : Fields) (height : ℕ) (body : List ℕ) (old new : Option (List ℕ)) : Type 0 where
  pub raster : Raster
  pub denotes : DenotesAt h height body raster
  pub only : (other : Raster) → DenotesAt h height body other → other ≡ raster
  pub appends : Appends old new (pbm_text raster)

-- The header and the rows that a broken body fixes were written, and it fixes no other error or rows.
pub record WritesRows (h : Fields) (height : ℕ) (body : List ℕ) (fault : Fault) (old new : Option (List ℕ)) : Type 0 where
  pub rows : List (List Bool)
  pub fixes : Fixes h height body fault rows
  pub only : (other : Fault) (others : List (List Bool)) → Fixes h height body other others → (other ≡ fault) × (others ≡ rows)
  pub appends : Appends old new (pbm_rows h.xd height rows)

-- The output is a prefix of the text for each body that begins with the consumed bytes, however it continues.
pub record WritesImageFront (h : Fields) (height : ℕ) (in_old in_new out_old out_new : Option (List ℕ)) : Type 0 where
  pub given : List ℕ
  pub taken : Consumes in_old in_new given
  pub appends : (rest : List ℕ) (fault : Option Fault) (text : List ℕ) → IsOutcome h height (given ++ rest) fault text → AppendsBeginning out_old out_new text

-- The effect of `decode` for a header and a height, on the known bytes and the count of failures of each device.
pub record Decode (h : Fields) (height : ℕ) (input output : Change) (answer : Result (Unit {0}) Fault) : Type 0 where
  pub whole : OnOk answer (IfSome input.old.bytes (λ body. WritesRaster h height body output.old.bytes output.new.bytes))
  pub broken : IfErr answer (λ f. f ≢ Read → f ≢ Write → IfSome input.old.bytes (λ body. WritesRows h height body f output.old.bytes output.new.bytes))
  -- a read failed, and the bytes up to there are a body that breaks at its end
  pub unread : IsErrOf answer Read → (given : List ℕ) × Consumes input.old.bytes input.new.bytes given × WritesRows h height given Truncated output.old.bytes output.new.bytes
  -- for every result: a write failed, possibly after a failed read
  pub front : WritesImageFront h height input.old.bytes input.new.bytes output.old.bytes output.new.bytes
  pub among : IfErr answer (λ f. f ≢ Write → IsBodyFault f)
  pub reads : CountsBoth input.old.failures input.new.failures answer
  pub writes : CountsWrite output.old.failures output.new.failures answer

-- The effect of `find_height` on the input after this header.
pub record FindHeight (h : Fields) (input : Change) (answer : Result ℕ Fault) : Type 0 where
  -- the height of the body
  pub found : IfOk answer (λ height. IfSome input.old.bytes (λ body. IsHeight h body height))
  -- the height is valid for decoding, whatever the bytes are
  pub from : IfOk answer (λ height. 1 ≤ height)
  pub to : IfOk answer (λ height. height ≤ h.yd)
  pub fixed : IfOk answer (λ height. is_variable h ≡ false → height ≡ h.yd)
  -- the only error is a failed read, if the bytes up to there do not determine the height
  pub among : IfErr answer (λ f. f ≡ Read)
  pub unread : IsErrOf answer Read → (given : List ℕ) × Consumes input.old.bytes input.new.bytes given × IsOpen h given
  pub counts : CountsRead input.old.failures input.new.failures answer
  -- if the height cannot change, nothing is read
  pub idle : is_variable h ≡ false → Keeps input.old.bytes input.new.bytes
