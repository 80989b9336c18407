-- A header that is read from pieces: the state after some of its bytes, and the effect of a call.
use Rattle.std.specs.Prelude.{ℕ, zero, suc, ◌≡◌, ◌≢◌, ◌≤◌, ◌⊎◌, ◌+◌, List, [], ◌++◌, length, min, take, codes}
use Rattle.std.specs.List.{AllByRecursion}
use Rattle.pbm_core.specs.declared.fault.PbmFault.{PbmFault}
use Rattle.pbm_core.specs.declared.fault.PbmFault.TheVariants.{Truncated, Read}
use Rattle.pbm_core.specs.declared.form.Form.{Form}
use Rattle.pbm_core.specs.declared.header_reader.HeaderReader.{HeaderReader}
use Rattle.pbm_core.specs.declared.header_reader.HeaderOutcome.{HeaderOutcome}
use Rattle.pbm_core.specs.declared.header_reader.HeaderOutcome.TheVariants as outcome
use Rattle.pbm_core.specs.declared.header_reader.HeaderProgress.{HeaderProgress}
use Rattle.pbm_core.specs.declared.header_reader.Place.{Place}
use Rattle.pbm_core.specs.declared.header_reader.Place.TheVariants.{Start, Letter, Letters, Gap, Comment, Digits, LastComment}
use Rattle.pbm_core.specs.declared.header_reader.Step.{Step}
use Rattle.pbm_core.specs.declared.header_reader.Step.TheVariants as step
use Rattle.pbm_core.specs.Pbm.{letters_of, IsDigit, IsGap, IsPbmHeader, value_of}
use Rattle.pbm_core.specs.Refusal.{most_width, most_height, IsOpenComment, IsOpenGap, IsPart, HeaderFault}

-- the letters; and the width, if it is complete: 0 represents one that is not
abbrev pub IsHeaderFront : Form → ℕ → List ℕ → Type 0
IsHeaderFront form width bytes =
    ((width ≡ 0) × (bytes ≡ letters_of form))
    ⊎ ((first : List ℕ) × (bytes ≡ letters_of form ++ first) × IsPart most_width first width)

-- the limit of the next number
abbrev pub limit_behind : ℕ → ℕ
limit_behind zero = most_width
limit_behind (suc _) = most_height

-- what precedes a number, and a part that is not complete
pub record EndsIn (form : Form) (width : ℕ) (IsRest : List ℕ → Type 0) (bytes : List ℕ) : Type 0 where
  pub front : List ℕ
  pub rest : List ℕ
  pub bytes_are : bytes ≡ front ++ rest
  pub is_front : IsHeaderFront form width front
  pub is_rest : IsRest rest

-- a gap and one or more digits; a number above the limit is the limit plus 1
pub record IsNumberSoFar (limit value : ℕ) (bytes : List ℕ) : Type 0 where
  pub gap : List ℕ
  pub digits : List ℕ
  pub bytes_are : bytes ≡ gap ++ digits
  pub is_gap : IsGap gap
  pub some : 1 ≤ length digits
  pub are_digits : AllByRecursion IsDigit digits
  pub value_is : value ≡ min (value_of digits) (limit + 1)

-- the letters, both numbers, and an open comment
pub record EndsInComment (form : Form) (width height : ℕ) (bytes : List ℕ) : Type 0 where
  pub first : List ℕ
  pub second : List ℕ
  pub rest : List ℕ
  pub bytes_are : bytes ≡ letters_of form ++ (first ++ (second ++ rest))
  pub is_width : IsPart most_width first width
  pub is_height : IsPart most_height second height
  pub is_open : IsOpenComment rest

abbrev pub HasScannedTo : Place → HeaderReader → List ℕ → Type 0
HasScannedTo Start reader bytes = bytes ≡ []
HasScannedTo Letter reader bytes = bytes ≡ codes "P"
HasScannedTo Letters reader bytes = (reader.width ≡ 0) × (bytes ≡ letters_of reader.form)
HasScannedTo Gap reader bytes = EndsIn reader.form reader.width IsGap bytes
HasScannedTo Comment reader bytes = EndsIn reader.form reader.width IsOpenGap bytes
HasScannedTo Digits reader bytes = EndsIn reader.form reader.width (IsNumberSoFar (limit_behind reader.width) reader.value) bytes
HasScannedTo LastComment reader bytes = EndsInComment reader.form reader.width reader.value bytes

-- The reader represents these bytes, the first of a header.
abbrev pub HasScanned : HeaderReader → List ℕ → Type 0
HasScanned reader bytes = HasScannedTo reader.place reader bytes

-- The bytes have an error, however they continue.
abbrev pub HasHeaderError : List ℕ → PbmFault → Type 0
HasHeaderError bytes fault = HeaderFault bytes fault × (fault ≢ Truncated) × (fault ≢ Read)

-- the result of one more byte
abbrev pub IsStep : List ℕ → Step → Type 0
IsStep bytes (step.More reader) = HasScanned reader bytes
IsStep bytes (step.Whole size form) = IsPbmHeader bytes form size.width size.height
IsStep bytes (step.Broken fault) = HasHeaderError bytes fault

-- The consumed bytes are undecided, a header, or end where their error shows. Undecided bytes are those that would be
-- truncated if no more followed.
abbrev pub DecidesHeader : List ℕ → HeaderReader → HeaderOutcome → Type 0
DecidesHeader bytes reader outcome.More = HasScanned reader bytes × HeaderFault bytes Truncated
DecidesHeader bytes reader (outcome.Header size form) = IsPbmHeader bytes form size.width size.height
DecidesHeader bytes reader (outcome.Broken fault) = HasHeaderError bytes fault

-- A piece after the bytes before it: the reader consumes no byte behind the header or behind its error, and leaves none
-- before either.
pub record TakesHeaderPiece (before piece : List ℕ) (new : HeaderReader) (progress : HeaderProgress) : Type 0 where
  pub decides : DecidesHeader (before ++ take progress.taken piece) new progress.outcome
  pub all_taken : progress.outcome ≡ outcome.More → progress.taken ≡ length piece
