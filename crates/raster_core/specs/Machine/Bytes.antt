-- The context of a byte's pixels, and its events.
use Rattle.std.specs.Prelude.{ℕ, zero, suc, ◌+◌, ◌*◌, ◌/◌, ◌%◌, ◌^◌, ◌≡◌, Bool, false, List, [], ◌∷◌, ◌++◌, map, nat_eq}
use Rattle.qm_core.specs.Place.{Event}
use Rattle.raster_core.specs.Raster.{pixel_at}
use Rattle.raster_core.specs.Lines.{Lines, numbers_from, context_at}
use Rattle.raster_core.specs.Machine.Registers.{bit, is_moved}
use Rattle.raster_core.specs.Machine.Uniform.{AreAllOf}
use Rattle.raster_core.specs.declared.row_byte.Template.{Template}
use Rattle.raster_core.specs.declared.row_byte.RowByte.{RowByte}

-- the last n bits of a number, the highest first
unfoldable pub bits : ℕ → ℕ → List Bool
bits zero v = []
bits (suc n) v = bits n (v / 2) ++ nat_eq (v % 2) 1 ∷ []

-- n pixels of a row from x on, each in its context
unfoldable pub events_from : Template → Lines → ℕ → ℕ → List Event
events_from template lines x n =
    map (λ y. record { context = context_at (record { two_line = template.two_line; typical = false }) lines template.offset y; pixel = pixel_at lines.row y }) (numbers_from x n)

-- The lines from which a byte is read: it begins at 128 there, and the parts that it does not read are white.
unfoldable pub byte_lines : RowByte → Lines
byte_lines b = record {
  row = bits 136 (b.around.past * 256 + b.byte);
  above = bits 144 b.around.above;
  second = bits 144 b.around.second;
}

-- its first n pixels, each in its context
abbrev pub byte_events : RowByte → ℕ → List Event
byte_events b n = events_from b.around.template (byte_lines b) 128 n

-- it has this colour, and so has everything that its contexts read
pub record IsAllOf (b : RowByte) (colour : Bool) : Type 0 where
  pub byte_is : b.byte ≡ bit colour * 255
  pub around_is : AreAllOf b.around.second b.around.above b.around.past b.around.template.offset colour

-- the pixel in the first of these lanes, in the context there
abbrev pub lane_event : ℕ → Event
lane_event lanes = record { context = lanes % 0x800 / 2; pixel = nat_eq (lanes % 0x800 % 2) 1 }

abbrev pub lane_events : ℕ → ℕ → List Event
lane_events lanes zero = []
lane_events lanes (suc n) = lane_event lanes ∷ lane_events (lanes / 2 ^ 16) n

-- the code was generated for this template
pub record IsMadeFor (two_line moved : Bool) (template : Template) : Type 0 where
  pub two_line_is : two_line ≡ template.two_line
  pub moved_is : moved ≡ is_moved template.offset
