-- The known bytes before and after a step.
use Rattle.std.specs.Prelude.{ℕ, List, Option}
use Rattle.devices.specs.Device.{InputView}

-- The known bytes before and after a step: those that an input has left, and those that an output has received.
pub record Passage : Type 0 where
  pub input : Option (List ℕ)
  pub input_after : Option (List ℕ)
  pub output : Option (List ℕ)
  pub output_after : Option (List ℕ)

abbrev pub passage : Option (List ℕ) → Option (List ℕ) → Option (List ℕ) → Option (List ℕ) → Passage
passage known known' text text' = record { input = known; input_after = known'; output = text; output_after = text' }

-- for an input, and for the bytes that an output has received
abbrev pub passage_from : InputView → InputView → Option (List ℕ) → Option (List ℕ) → Passage
passage_from old new text text' = passage old.remaining new.remaining text text'
