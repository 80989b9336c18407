-- The views of devices in memory.
use Rattle.std.specs.Prelude.{◌≡◌, Some, [], length, take}
use Rattle.devices.specs.declared.trial.Drip.{Drip}
use Rattle.devices.specs.declared.trial.Pieces.{Pieces}
use Rattle.devices.specs.Device.{InputView, OutputView}

-- an input over caller-supplied memory
abbrev pub pieces_view : Pieces → InputView
pieces_view s = record { remaining = Some s.rest.now; held = []; left = length s.rest.now; failures = s.failures; source = 0 }

-- an output into caller-supplied memory
abbrev pub drip_view : Drip → OutputView
drip_view s = record { contents = Some (take s.len s.bytes.now); flushed = s.flushed; target = s.bytes.ghost_name; flushes = s.flushes; failures = s.failures }

-- what no call changes: the size of the memory, and the settings of the test
pub record SameDrip (old new : Drip) : Type 0 where
  pub room : length new.bytes.now ≡ length old.bytes.now
  pub most : new.most ≡ old.most
  pub flush_fails : new.flush_fails ≡ old.flush_fails
