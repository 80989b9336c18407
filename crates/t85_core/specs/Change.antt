-- The state of a device before and after a call.
use Rattle.std.specs.Prelude.{ℕ, List, Option}
use Rattle.std.specs.Io.KnownBytes.{prepend_known}
use Rattle.devices.specs.Device.{InputView, OutputView}

-- A device in contracts: its bytes, if they are known (those that an input has left, or that an output has received), and its
-- count of failures.
pub record View : Type 0 where
  pub bytes : Option (List ℕ)
  pub failures : ℕ

pub record Change : Type 0 where
  pub old : View
  pub new : View

-- from its bytes before and after, and its counts before and after
abbrev pub between : Option (List ℕ) → Option (List ℕ) → ℕ → ℕ → Change
between old new failures failures' =
    record { old = record { bytes = old; failures = failures }; new = record { bytes = new; failures = failures' } }

abbrev pub input_change : {R : Type 0} → (R → InputView) → R → R → Change
input_change view old new = between (view old).remaining (view new).remaining (view old).failures (view new).failures

abbrev pub output_change : {W : Type 0} → (W → OutputView) → W → W → Change
output_change view old new = between (view old).contents (view new).contents (view old).failures (view new).failures

-- the same call, with these bytes inserted before those that the input has left
abbrev pub with_ahead : List ℕ → Change → Change
with_ahead ahead c = record { old = c.old; new = record { bytes = prepend_known ahead c.new.bytes; failures = c.new.failures } }

-- the same call, starting with exactly these known bytes
abbrev pub known_from : Option (List ℕ) → Change → Change
known_from known c = record { old = record { bytes = known; failures = c.old.failures }; new = c.new }
