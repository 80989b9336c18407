-- The line of `info`.
use Rattle.std.specs.Prelude.{ℕ, List, [], ◌∷◌, ◌++◌, ◌≡◌, ◌≢◌, ◌⊎◌, ◌-◌, ◌^◌, ⊤, Bool, true, length, drop, sum_by, min, IfSome, Result, OnOk, IfOk, IfErr, IsErrOf}
use Rattle.std.specs.Fmt.{decimal}
use Rattle.std.specs.Io.KnownBytes.{Consumes, Appends, Keeps}
use Rattle.devices.specs.Device.{AppendsBeginning}
use Rattle.t85_core.specs.Change.{Change}
use Rattle.t85_core.specs.declared.fault.Fault.{Fault}
use Rattle.t85_core.specs.declared.fault.Fault.TheVariants.{ShortHeader, Truncated, Changed, SecondLength, LengthRefused, SecondMove, MoveRefused, Aborted, BadEscape, Read, Write, OutOfMemory, OptionBits, StripeZero, MoveLarge, AnnouncedLow, TooManyRows, VariableHeight, CommentLong, Pbm}
use Rattle.t85_core.specs.declared.summary.Summary.{Summary}
use Rattle.t85_core.specs.Header.{Fields, HeaderOf}
use Rattle.t85_core.specs.Grammar.{Stripe, Parts, moves_in, comments_in}
use Rattle.t85_core.specs.Height.{IsHeight, IsOpen, StreamFault}
use Rattle.t85_core.specs.Failures.{CountsRead, CountsWrite}

-- decimal numbers, separated by single spaces, and a line feed
abbrev pub line_text : List ℕ → List ℕ
line_text [] = []
line_text (n ∷ []) = decimal n ++ 10 ∷ []
line_text (n ∷ m ∷ more) = decimal n ++ 32 ∷ line_text (m ∷ more)

-- The header's fields, the actual height, the number of stripe data entities, and the numbers of moves and comments before the
-- last of them. Comments are counted up to 2^64 - 1.
abbrev pub numbers_of : Fields → ℕ → List Stripe → List ℕ
numbers_of h height stripes =
    h.xd ∷ h.yd ∷ h.l0 ∷ h.mx ∷ h.options ∷ height ∷ length stripes ∷ sum_by moves_in stripes ∷ min (sum_by comments_in stripes) (2 ^ 64 - 1) ∷ []

-- the numbers of a stream that has its parts
pub record HasNumbers (bytes numbers : List ℕ) : Type 0 where
  pub header : Fields
  pub header_of : HeaderOf bytes header
  pub height : ℕ
  pub height_is : IsHeight header (drop 20 bytes) height
  pub parts : Parts header height (drop 20 bytes)
  pub numbers_are : numbers ≡ numbers_of header height parts.stripes

-- the line of a stream that has its parts
pub record HasLine (bytes text : List ℕ) : Type 0 where
  pub header : Fields
  pub header_of : HeaderOf bytes header
  pub height : ℕ
  pub height_is : IsHeight header (drop 20 bytes) height
  pub parts : Parts header height (drop 20 bytes)
  pub text_is : text ≡ line_text (numbers_of header height parts.stripes)

-- an accepted header, and a body that ends before it is known whether it contains a height
pub record IsHeightUndecided (bytes : List ℕ) : Type 0 where
  pub header : Fields
  pub header_of : HeaderOf bytes header
  pub open_still : IsOpen header (drop 20 bytes)

-- the bytes end within the header, before the end of the last stripe data entity, or before the height is known
abbrev pub IsUnfinished : List ℕ → Type 0
IsUnfinished bytes = StreamFault bytes ShortHeader ⊎ StreamFault bytes Truncated ⊎ IsHeightUndecided bytes

-- the errors that a stream may have, or that reading it may return
abbrev pub IsWalkFault : Fault → Type 0
IsWalkFault Write = ⊥
IsWalkFault OutOfMemory = ⊥
IsWalkFault OptionBits = ⊥
IsWalkFault StripeZero = ⊥
IsWalkFault MoveLarge = ⊥
IsWalkFault AnnouncedLow = ⊥
IsWalkFault TooManyRows = ⊥
IsWalkFault VariableHeight = ⊥
IsWalkFault CommentLong = ⊥
IsWalkFault (Pbm fault) = ⊥
IsWalkFault _ = ⊤

-- the errors that a body may have, or that reading it may return
abbrev pub IsBodyFault : Fault → Type 0
IsBodyFault Truncated = ⊤
IsBodyFault BadEscape = ⊤
IsBodyFault Aborted = ⊤
IsBodyFault MoveRefused = ⊤
IsBodyFault SecondMove = ⊤
IsBodyFault LengthRefused = ⊤
IsBodyFault SecondLength = ⊤
IsBodyFault Changed = ⊤
IsBodyFault Read = ⊤
IsBodyFault _ = ⊥

-- the numbers of a summary, in the order of the line
abbrev pub numbers_in : Summary → List ℕ
numbers_in s =
    s.width ∷ s.announced_height ∷ s.stripe_rows ∷ s.most_offset ∷ s.options ∷ s.height ∷ s.entities ∷ s.moves ∷ s.comments ∷ []

-- The effect of `summarize` on its input.
pub record Summarize (input : Change) (answer : Result Summary Fault) : Type 0 where
  -- the result for a stream that has its parts is its numbers
  pub numbers : IfOk answer (λ s. IfSome input.old.bytes (λ bytes. HasNumbers bytes (numbers_in s)))
  -- the result for any other is its error
  pub refused : IfErr answer (λ f. f ≢ Read → IfSome input.old.bytes (λ bytes. StreamFault bytes f))
  pub among : IfErr answer IsWalkFault
  -- a read failed, and the bytes up to there are no whole stream
  pub unread : IsErrOf answer Read → (given : List ℕ) × Consumes input.old.bytes input.new.bytes given × IsUnfinished given
  pub reads : CountsRead input.old.failures input.new.failures answer

-- The effect of `info` on the known bytes and the count of failures of its input and its output, and whether the output was
-- flushed last.
pub record Info (input output : Change) (flushed : Bool) (answer : Result (Unit {0}) Fault) : Type 0 where
  -- the line of a stream that has its parts is written
  pub line : OnOk answer (IfSome input.old.bytes (λ bytes. (text : List ℕ) × HasLine bytes text × Appends output.old.bytes output.new.bytes text))
  pub flushed_last : OnOk answer (flushed ≡ true)
  -- the error of any other is returned, and nothing is written
  pub refused : IfErr answer (λ f. f ≢ Read → f ≢ Write → IfSome input.old.bytes (λ bytes. StreamFault bytes f))
  pub unwritten : IfErr answer (λ f. f ≢ Write → Keeps output.old.bytes output.new.bytes)
  pub among : IfErr answer (λ f. f ≢ Write → IsWalkFault f)
  -- a read failed, and the bytes up to there are no whole stream
  pub unread : IsErrOf answer Read → (given : List ℕ) × Consumes input.old.bytes input.new.bytes given × IsUnfinished given
  -- a write failed, and the output is a prefix of the line
  pub cut : IsErrOf answer Write → IfSome input.old.bytes (λ bytes. (text : List ℕ) × HasLine bytes text × AppendsBeginning output.old.bytes output.new.bytes text)
  pub reads : CountsRead input.old.failures input.new.failures answer
  pub writes : CountsWrite output.old.failures output.new.failures answer
