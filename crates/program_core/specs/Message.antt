-- The message of a program about an error.
use Rattle.std.specs.Prelude.{◌≡◌, ◌≢◌, ◌++◌, ℕ, List, All, Result, Ok, Err, codes}
use Rattle.devices.specs.Device.{OutputView, WritesText}
use Rattle.devices.specs.declared.write.WriteFault.{WriteFault}
use Rattle.t85_core.specs.declared.fault.Fault.{Fault}

-- the line of a program about an error: its name, a colon and a space, the error's text, and a line feed
abbrev pub fault_line : List ℕ → List ℕ → List ℕ
fault_line program text = program ++ codes ": " ++ text ++ codes "\n"

-- a text without a line feed
abbrev pub IsInOneLine : List ℕ → Type 0
IsInOneLine text = All (λ b. b ≢ 10) text

-- A program's line about an error was written, with some text; or a prefix of it if a write failed.
pub record TellsFault (program : List ℕ) (old new : OutputView) : Type 0 where
  pub text : List ℕ
  pub one_line : IsInOneLine text
  pub written : Result (Unit {0}) WriteFault
  pub writes : WritesText (fault_line program text) old new written

-- An error is reported, and otherwise nothing is written.
abbrev pub Reports : List ℕ → Result (Unit {0}) Fault → OutputView → OutputView → Type 0
Reports program (Ok u) old new = new ≡ old
Reports program (Err fault) old new = TellsFault program old new
