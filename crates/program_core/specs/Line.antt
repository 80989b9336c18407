-- The meaning of a command's arguments, in terms of clap's contracts.
use Rattle.std.specs.Prelude.{◌≡◌, ◌≢◌, ◌⊎◌, ⊤, ℕ, Bool, List, false, codes}
use Rattle.std.specs.Option.{option_map_or}
use Rattle.std.specs.Str.{bytes_eq}
use Rattle.clap.specs.declared.error.ErrorKind.{ErrorKind}
use Rattle.clap.specs.declared.error.ErrorKind.TheVariants as kind
use Rattle.clap.specs.Words.{IsAmong, Kinds, Row, Text, one_of}
use Rattle.t85_core.specs.declared.fault.Fault.TheVariants as fault
use Rattle.program_core.specs.declared.line_fault.LineFault.{LineFault}
use Rattle.program_core.specs.declared.line_fault.LineFault.TheVariants as line_fault

-- whether the matches contain a flag
abbrev pub flag_in : Text → List Row → Bool
flag_in id rows = option_map_or (λ text. bytes_eq text (codes "true")) (one_of id rows) false

-- the exit status for an error of the arguments
abbrev pub status_of : LineFault → ℕ
status_of (line_fault.Help text) = 0
status_of (line_fault.Usage text) = 2
status_of (line_fault.Fault fault.OutOfMemory) = 1
status_of (line_fault.Fault f) = 2

-- a text of the help, or of the version
abbrev pub IsHelp : LineFault → Type 0
IsHelp (line_fault.Help text) = ⊤
IsHelp (line_fault.Usage text) = ⊥
IsHelp (line_fault.Fault f) = ⊥

-- the result for an error of clap of this kind
abbrev pub Tells : ErrorKind → LineFault → Type 0
Tells k (line_fault.Help text) = (k ≡ kind.DisplayHelp) ⊎ (k ≡ kind.DisplayVersion)
Tells k (line_fault.Usage text) = (k ≢ kind.DisplayHelp) × (k ≢ kind.DisplayVersion) × (k ≢ kind.OutOfMemory)
Tells k (line_fault.Fault f) = f ≡ fault.OutOfMemory

-- the help or the version if it is among the refusals, a usage error if another refusal is, or lack of memory
abbrev pub IsRefusal : Kinds → LineFault → Type 0
IsRefusal kinds (line_fault.Help text) = IsAmong kind.DisplayHelp kinds ⊎ IsAmong kind.DisplayVersion kinds
IsRefusal kinds (line_fault.Usage text) = (k : ErrorKind) × IsAmong k kinds × (k ≢ kind.DisplayHelp) × (k ≢ kind.DisplayVersion)
IsRefusal kinds (line_fault.Fault f) = f ≡ fault.OutOfMemory
