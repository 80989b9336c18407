-- Pixels surrounded by pixels of the same colour.
use Rattle.std.specs.Prelude.{ℕ, ◌+◌, ◌-◌, ◌*◌, ◌/◌, ◌%◌, ◌^◌, ◌<◌, ◌≡◌, Bool, true, false, List, nat_eq, slice_index, replicate}
use Rattle.qm_core.specs.Place.{Event}
use Rattle.raster_core.specs.Raster.{pixel_at}
use Rattle.raster_core.specs.Lines.{Lines, Mode, context_at}
use Rattle.raster_core.specs.Machine.Registers.{bit}

-- the context whose ten pixels all have this colour
abbrev pub uniform_context : Bool → ℕ
uniform_context true = 1023
uniform_context false = 0

-- a pixel in the context of its own colour
abbrev pub uniform_event : Bool → Event
uniform_event colour = record { context = uniform_context colour; pixel = colour }

-- this many pixels of a colour, each in the context of the colour
abbrev pub run_of : Bool → ℕ → List Event
run_of colour count = replicate count (uniform_event colour)

-- each of n pixels from x on is in the context of this colour, as long as those before it from x on have this colour
abbrev pub StaysUniform : Mode → Lines → ℕ → Bool → ℕ → ℕ → Type 0
StaysUniform mode lines offset colour x n =
    (j : ℕ) → j < n → ((k : ℕ) → k < j → pixel_at lines.row (x + k) ≡ colour) →
    context_at mode lines offset (x + j) ≡ uniform_context colour

-- the registers of a byte contain only pixels of this colour, wherever the contexts of its pixels read them
pub record AreAllOf (second above past offset : ℕ) (colour : Bool) : Type 0 where
  pub second_is : second / 2 ^ 7 % 1024 ≡ bit colour * 1023
  pub above_is : above / 2 ^ 6 % 8192 ≡ bit colour * 8191
  pub near : past % 16 ≡ bit colour * 15
  pub far : past / 2 ^ (offset - 8) % 256 ≡ bit colour * 255

-- n pixels of a colour as a number
abbrev pub filled : Bool → ℕ → ℕ
filled colour n = bit colour * (2 ^ n - 1)

-- the colour of a register of pixels, if they have one colour
abbrev pub colour_of : ℕ → Bool
colour_of register = nat_eq register 0xFFFFFF

-- `count` bytes from byte i on have this colour
abbrev pub AreFilled : Bool → List ℕ → ℕ → ℕ → Type 0
AreFilled colour bytes i count = (j : ℕ) → j < count → slice_index bytes (i + j) ≡ bit colour * 255
