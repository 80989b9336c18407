-- The documented numbers of the errors.
use Rattle.std.specs.Prelude.{ℕ, ◌+◌}
use Rattle.pbm_core.specs.Fault.{pbm_fault_number as number_of_pbm}
use Rattle.t85_core.specs.declared.fault.Fault.{Fault}
use Rattle.t85_core.specs.declared.fault.Fault.TheVariants.{ShortHeader, ReservedBits, Layers, Planes, ZeroSize, TooWide, MoveRange, PrivateTable, Truncated, BadEscape, Aborted, MoveRefused, SecondMove, LengthRefused, SecondLength, Changed, Read, Write, OutOfMemory, OptionBits, StripeZero, MoveLarge, AnnouncedLow, TooManyRows, VariableHeight, CommentLong, Pbm}

abbrev pub fault_number : Fault → ℕ
fault_number ShortHeader = 1
fault_number ReservedBits = 2
fault_number Layers = 3
fault_number Planes = 4
fault_number ZeroSize = 5
fault_number TooWide = 6
fault_number MoveRange = 7
fault_number PrivateTable = 8
fault_number Truncated = 9
fault_number BadEscape = 10
fault_number Aborted = 11
fault_number MoveRefused = 12
fault_number SecondMove = 13
fault_number LengthRefused = 14
fault_number SecondLength = 15
fault_number Changed = 16
fault_number Read = 17
fault_number Write = 18
fault_number OutOfMemory = 19
fault_number OptionBits = 20
fault_number StripeZero = 21
fault_number MoveLarge = 22
fault_number AnnouncedLow = 23
fault_number TooManyRows = 24
fault_number VariableHeight = 25
fault_number CommentLong = 26
fault_number (Pbm fault) = 30 + number_of_pbm fault
