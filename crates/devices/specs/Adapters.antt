-- The view of a reader of std as an input.
use Rattle.std.specs.Prelude.{ℕ, List, [], Option}
use Rattle.devices.specs.declared.adapters.FromRead.{FromRead}
use Rattle.devices.specs.Device.{InputView}

-- the input of an adapter: its bytes are those that the reader has left
abbrev pub reader_view : {R : Type 0} → (R → Option (List ℕ)) → FromRead R → InputView
reader_view remaining s = record { remaining = remaining s.reader; held = []; left = s.left; failures = s.failures; source = 0 }
