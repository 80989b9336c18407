-- The effect of `to_pbm`. A stream with VLENGTH is read twice, first for its height and then for its rows.
use Rattle.std.specs.Prelude.{ℕ, ◌≡◌, ◌≢◌, ◌≤◌, ◌<◌, ◌⊎◌, Bool, true, false, ◌&&◌, ◌==◌, List, length, Option, Some, None, is_some, IfSome, Result, Ok, Err, OnOk, IfErr, IsErrOf}
use Rattle.std.specs.Io.KnownBytes.{Appends, Consumes, Keeps}
use Rattle.devices.specs.Device.{InputView, OutputView}
use Rattle.t85_core.specs.Change.{Change, between, known_from, output_change}
use Rattle.raster_core.specs.Raster.{Raster}
use Rattle.t85_core.specs.declared.fault.Fault.{Fault}
use Rattle.t85_core.specs.declared.fault.Fault.TheVariants.{ShortHeader, Truncated, Changed, Read, Write, OutOfMemory, TooManyRows, VariableHeight}
use Rattle.t85_core.specs.Header.{Fields, is_variable, HeaderOf, header_fault}
use Rattle.t85_core.specs.Denotes.{Denotes}
use Rattle.t85_core.specs.Outcome.{pbm_text}
use Rattle.t85_core.specs.Info.{IsBodyFault}
use Rattle.t85_core.specs.Decode.{WritesRaster, WritesRows, WritesImageFront, FindHeight}
use Rattle.t85_core.specs.Failures.{CountsBoth, CountsWrite, Ends, reads_after}

-- The effect of a call on an output, and whether it was flushed last.
pub record Delivery : Type 0 where
  pub change : Change
  pub flushed : Bool

abbrev pub delivery : Change → Bool → Delivery
delivery change flushed = record { change = change; flushed = flushed }

abbrev pub delivery_of : {W : Type 0} → (W → OutputView) → W → W → Delivery
delivery_of view old new = delivery (output_change view old new) (view new).flushed

-- A second reading of a stream: whether there is one, what it means that it is unchanged, and the effect of a call on it.
pub record SecondReading : Type 1 where
  pub is_there : Bool
  pub untouched : Type 0
  pub change : Change

abbrev pub second_reading : Bool → Type 0 → Change → SecondReading
second_reading is_there untouched change = record { is_there = is_there; untouched = untouched; change = change }

-- Exactly the twenty bytes of a header were consumed.
pub record TakesHeader (h : Fields) (old new : Option (List ℕ)) : Type 0 where
  pub given : List ℕ
  pub long : length given ≡ 20
  pub taken : Consumes old new given
  pub header_of : HeaderOf given h

-- A header was rejected, or a read of it failed: at most twenty bytes were consumed.
pub record HeaderEnds (input : Change) (fault : Fault) : Type 0 where
  pub ends : Ends ShortHeader input.old.bytes input.new.bytes (λ given f. (length given ≤ 20) × (header_fault given ≡ Some f)) fault
  pub counts : input.new.failures ≡ reads_after fault input.old.failures

-- the view of an output to which nothing was written
pub record Unwritten (output : Change) : Type 0 where
  pub kept : Keeps output.old.bytes output.new.bytes
  pub unfailed : output.new.failures ≡ output.old.failures

-- The effect of writing the image of a body, at this height and within a limit of rows. An image above the limit and lack of
-- memory are reported before anything is read or written.
pub record ToPbmAt (h : Fields) (height limit : ℕ) (input : Change) (out : Delivery) (answer : Result (Unit {0}) Fault) : Type 0 where
  pub whole : OnOk answer (IfSome input.old.bytes (λ body. WritesRaster h height body out.change.old.bytes out.change.new.bytes))
  pub flushed_last : OnOk answer (out.flushed ≡ true)
  pub within : OnOk answer (height ≤ limit)
  pub not_high : IfErr answer (λ f. f ≢ TooManyRows → height ≤ limit)
  pub too_high : IsErrOf answer TooManyRows → (limit < height) × Keeps input.old.bytes input.new.bytes × Keeps out.change.old.bytes out.change.new.bytes
  pub no_memory : IsErrOf answer OutOfMemory → Keeps input.old.bytes input.new.bytes × Keeps out.change.old.bytes out.change.new.bytes
  pub broken : IfErr answer (λ f. f ≢ Read → f ≢ Write → f ≢ TooManyRows → f ≢ OutOfMemory → IfSome input.old.bytes (λ body. WritesRows h height body f out.change.old.bytes out.change.new.bytes))
  -- a read failed, and the bytes up to there are a body that breaks at its end
  pub unread : IsErrOf answer Read → (given : List ℕ) × Consumes input.old.bytes input.new.bytes given × WritesRows h height given Truncated out.change.old.bytes out.change.new.bytes
  -- for every result: a write failed, possibly after a failed read
  pub front : WritesImageFront h height input.old.bytes input.new.bytes out.change.old.bytes out.change.new.bytes
  pub among : IfErr answer (λ f. f ≢ Write → f ≢ TooManyRows → f ≢ OutOfMemory → IsBodyFault f)
  pub reads : CountsBoth input.old.failures input.new.failures answer
  pub writes : CountsWrite out.change.old.failures out.change.new.failures answer

-- the bytes of a second reading, if there is one
abbrev pub again_known : {R : Type 0} → (R → Option (List ℕ)) → Option R → Option (List ℕ)
again_known remaining None = None
again_known remaining (Some reading) = remaining reading

-- and its count of failures
abbrev pub again_failures : {R : Type 0} → (R → ℕ) → Option R → ℕ
again_failures failures None = 0
again_failures failures (Some reading) = failures reading

-- a second reading before and after a call, if there is one
abbrev pub again_change : {R : Type 0} → (R → InputView) → Option R → Option R → Change
again_change view old new =
    between (again_known (λ r. (view r).remaining) old) (again_known (λ r. (view r).remaining) new) (again_failures (λ r. (view r).failures) old) (again_failures (λ r. (view r).failures) new)

abbrev pub second_reading_of : {R : Type 0} → (R → InputView) → Option R → Option R → SecondReading
second_reading_of view old new = second_reading (is_some old) (new ≡ old) (again_change view old new)

-- The header is rejected, or cannot be read: this is reported, and nothing is written.
pub record RefusesHeader (input output : Change) (answer : Result (Unit {0}) Fault) : Type 0 where
  pub fault : Fault
  pub answer_is : answer ≡ Err fault
  pub header : HeaderEnds input fault
  pub nothing : Unwritten output

-- Without VLENGTH: the body after the header is decoded.
pub record ToPbmOnce (limit : ℕ) (input : Change) (out : Delivery) (answer : Result (Unit {0}) Fault) : Type 0 where
  pub header : Fields
  pub body : Option (List ℕ)
  pub taken : TakesHeader header input.old.bytes body
  pub fixed : is_variable header ≡ false
  pub converts : ToPbmAt header header.yd limit (known_from body input) out answer

-- With VLENGTH and without a second reading: this is reported, with nothing read but the header.
pub record WantsReading (input : Change) (twice : Bool) (output : Change) (answer : Result (Unit {0}) Fault) : Type 0 where
  pub header : Fields
  pub taken : TakesHeader header input.old.bytes input.new.bytes
  pub variable : is_variable header ≡ true
  pub once : twice ≡ false
  pub answer_is : answer ≡ Err VariableHeight
  pub unfailed : input.new.failures ≡ input.old.failures
  pub nothing : Unwritten output

-- a read of the first reading failed before the height was known
pub record HeightUnread (header : Fields) (input : Change) (untouched : Type 0) (output : Change) (answer : Result (Unit {0}) Fault) : Type 0 where
  pub finds : FindHeight header input (Err Read)
  pub answer_is : answer ≡ Err Read
  pub again : untouched
  pub nothing : Unwritten output

-- the error if the second reading's header is rejected
abbrev pub told_again : Fault → Fault
told_again Read = Read
told_again fault = Changed

-- the second reading has no header, or cannot be read
pub record AgainRefused (again output : Change) (answer : Result (Unit {0}) Fault) : Type 0 where
  pub fault : Fault
  pub header : HeaderEnds again fault
  pub answer_is : answer ≡ Err (told_again fault)
  pub nothing : Unwritten output

-- whether two headers are equal
abbrev pub is_same_header : Fields → Fields → Bool
is_same_header a b = (a.xd == b.xd) && (a.yd == b.yd) && (a.l0 == b.l0) && (a.mx == b.mx) && (a.options == b.options)

-- it has another header
pub record AgainChanged (header : Fields) (again output : Change) (answer : Result (Unit {0}) Fault) : Type 0 where
  pub other : Fields
  pub taken : TakesHeader other again.old.bytes again.new.bytes
  pub differs : other ≢ header
  pub answer_is : answer ≡ Err Changed
  pub unfailed : again.new.failures ≡ again.old.failures
  pub nothing : Unwritten output

-- it has the same header, and its body is decoded at the first reading's height
pub record AgainConverts (header : Fields) (height limit : ℕ) (again : Change) (out : Delivery) (answer : Result (Unit {0}) Fault) : Type 0 where
  pub body : Option (List ℕ)
  pub taken : TakesHeader header again.old.bytes body
  pub converts : ToPbmAt header height limit (known_from body again) out answer

-- the effect on the second reading
abbrev pub ReadsAgain : Fields → ℕ → ℕ → Change → Delivery → Result (Unit {0}) Fault → Type 0
ReadsAgain header height limit again out answer =
    AgainRefused again out.change answer
    ⊎ AgainChanged header again out.change answer
    ⊎ AgainConverts header height limit again out answer

-- The height is found in the first reading, which is just after this header, and the image is decoded from the second.
abbrev pub ToPbmBehind : Fields → ℕ → Change → SecondReading → Delivery → Result (Unit {0}) Fault → Type 0
ToPbmBehind header limit input again out answer =
    HeightUnread header input again.untouched out.change answer
    ⊎ ((height : ℕ) × FindHeight header input (Ok height) × ReadsAgain header height limit again.change out answer)

-- the effect with VLENGTH and a second reading
pub record ToPbmTwice (limit : ℕ) (input : Change) (again : SecondReading) (out : Delivery) (answer : Result (Unit {0}) Fault) : Type 0 where
  pub header : Fields
  pub body : Option (List ℕ)
  pub taken : TakesHeader header input.old.bytes body
  pub variable : is_variable header ≡ true
  pub second : again.is_there ≡ true
  pub went : ToPbmBehind header limit (known_from body input) again out answer

-- The image of the one raster that a stream denotes was written.
pub record WritesDenoted (bytes : List ℕ) (old new : Option (List ℕ)) : Type 0 where
  pub raster : Raster
  pub denotes : Denotes bytes raster
  pub only : (other : Raster) → Denotes bytes other → other ≡ raster
  pub appends : Appends old new (pbm_text raster)

-- an accepted header, of an image whose height is fixed
pub record IsFixed (bytes : List ℕ) : Type 0 where
  pub header : Fields
  pub header_of : HeaderOf bytes header
  pub height_is_fixed : is_variable header ≡ false

-- The effect of `to_pbm`, in one of four ways.
pub record ToPbm (limit : ℕ) (input : Change) (again : SecondReading) (out : Delivery) (answer : Result (Unit {0}) Fault) : Type 0 where
  pub went : (RefusesHeader input out.change answer × again.untouched)
      ⊎ (ToPbmOnce limit input out answer × again.untouched)
      ⊎ (WantsReading input again.is_there out.change answer × again.untouched)
      ⊎ ToPbmTwice limit input again out answer
  -- for a stream of fixed height, or two equal readings, the output is the image of the raster that the stream denotes
  pub denoted : OnOk answer (IfSome input.old.bytes (λ first. IsFixed first ⊎ (again.change.old.bytes ≡ Some first) → WritesDenoted first out.change.old.bytes out.change.new.bytes))
