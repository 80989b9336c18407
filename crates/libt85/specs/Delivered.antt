-- The contents of caller-supplied memory: rows at a stride, and the effect of a call that writes a text.
use Rattle.std.specs.Prelude.{ℕ, zero, suc, ◌≡◌, ◌≤◌, ◌<◌, ◌⊎◌, List, [], ◌++◌, length, take, drop, Option, Some, None, Result, Ok, Err}
use Rattle.t85_core.specs.declared.fault.Fault.{Fault}
use Rattle.t85_core.specs.Fault.{fault_number}
use Rattle.libt85.specs.declared.memory.Room.{Room}

-- the bytes of n rows, one row after the other; each begins `stride` bytes after the one before, and the last may be truncated
abbrev pub lined : ℕ → ℕ → ℕ → List ℕ → List ℕ
lined zero row stride bytes = []
lined (suc n) row stride bytes = take row bytes ++ lined n row stride (drop stride bytes)

-- the bytes between n rows, and after them
abbrev pub outside : ℕ → ℕ → ℕ → List ℕ → List ℕ
outside zero row stride bytes = bytes
outside (suc n) row stride bytes = drop row (take stride bytes) ++ outside n row stride (drop stride bytes)

-- the status of an error, 0 if there is none
abbrev pub fault_status : Option Fault → ℕ
fault_status None = 0
fault_status (Some fault) = fault_number fault

-- the status of a result of the engine
abbrev pub answer_status : Result (Unit {0}) Fault → ℕ
answer_status (Ok u) = 0
answer_status (Err fault) = fault_number fault

-- The text fits and was written, and the status is this one.
pub record Fits (text : List ℕ) (status : ℕ) (memory : List ℕ) (written answer : ℕ) : Type 0 where
  pub fits : length text ≤ length memory
  pub written_is : written ≡ length text
  pub stands : take written memory ≡ text
  pub answer_is : answer ≡ status

-- The text is longer than the memory, which contains as long a prefix as fits.
pub record IsFull (text memory : List ℕ) (written answer : ℕ) : Type 0 where
  pub longer : length memory < length text
  pub written_is : written ≡ length memory
  pub stands : memory ≡ take (length memory) text
  pub answer_is : answer ≡ 18

-- A text was to be written, with this status.
abbrev pub Delivers : List ℕ → ℕ → List ℕ → ℕ → ℕ → Type 0
Delivers text status memory written answer = Fits text status memory written answer ⊎ IsFull text memory written answer

-- A call was rejected with this status, before anything was written.
pub record Refuses (status : ℕ) (old new : List ℕ) (written answer : ℕ) : Type 0 where
  pub answer_is : answer ≡ status
  pub nothing : written ≡ 0
  pub kept : new ≡ old

-- the effect of a call on caller-supplied memory: its contents before and after, the number of bytes written, and the status
pub record Lending : Type 0 where
  pub old : List ℕ
  pub new : List ℕ
  pub written : ℕ
  pub answer : ℕ

abbrev pub lending : List ℕ → List ℕ → ℕ → ℕ → Lending
lending old new written answer = record { old = old; new = new; written = written; answer = answer }

-- the effect of a rejected call
abbrev pub RefusesLending : ℕ → Lending → Type 0
RefusesLending status l = Refuses status l.old l.new l.written l.answer

-- a buffer to which nothing has been written
abbrev pub IsEmptyRoom : Room → Type 0
IsEmptyRoom room = (room.failures ≡ 0) × (room.len ≡ 0) × (room.spilled ≡ None)
