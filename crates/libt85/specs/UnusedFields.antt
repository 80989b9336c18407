-- The result and the effect of `t85_set_unused_fields`.
use Rattle.std.specs.Prelude.{ℕ, ◌+◌, ◌*◌, ◌/◌, ◌%◌, ◌≡◌, ◌⊎◌, ◌↔◌, List, ◌∷◌, ◌++◌, slice_index, take, drop, Some, None}
use Rattle.t85_core.specs.declared.fault.Fault.{Fault}
use Rattle.raster_core.specs.Raster.{Raster}
use Rattle.t85_core.specs.Denotes.{Denotes}
use Rattle.t85_core.specs.Fault.{fault_number}
use Rattle.t85_core.specs.Header.{Fields, HeaderOf, header_fault}

-- values for the fields of a header that have no effect on the image: MY, the order, and the bits TPDON and DPON of the options
pub record Unused : Type 0 where
  pub my : ℕ
  pub order : ℕ
  pub options : ℕ

abbrev pub unused : ℕ → ℕ → ℕ → Unused
unused my order options = record { my = my; order = order; options = options }

-- these options, with the bits TPDON (16) and DPON (4) of others
abbrev pub with_bits_of : ℕ → ℕ → ℕ
with_bits_of options other = options / 32 * 32 + other / 16 % 2 * 16 + options / 8 % 2 * 8 + other / 4 % 2 * 4 + options % 4

-- the same stream, except for bytes 17 to 19
abbrev pub with_unused : List ℕ → Unused → List ℕ
with_unused bytes u = take 17 bytes ++ u.my ∷ u.order ∷ with_bits_of (slice_index bytes 19) u.options ∷ drop 20 bytes

-- the same fields, except for these bits of the options
abbrev pub fields_with : Fields → Unused → Fields
fields_with h u = record h { options = with_bits_of h.options u.options }

-- The values are set, in a header that is accepted before and afterwards. The stream denotes the same rasters.
pub record SetsUnused (old new : List ℕ) (u : Unused) (answer : ℕ) : Type 0 where
  pub answer_is : answer ≡ 0
  pub was_accepted : header_fault old ≡ None
  pub is_accepted : header_fault new ≡ None
  pub set : new ≡ with_unused old u
  pub same : (h : Fields) → HeaderOf old h → HeaderOf new (fields_with h u)
  pub denotes : (raster : Raster) → Denotes old raster ↔ Denotes new raster

-- The header is rejected, and nothing is set.
pub record RejectsStream (old new : List ℕ) (answer : ℕ) : Type 0 where
  pub fault : Fault
  pub is : header_fault old ≡ Some fault
  pub answer_is : answer ≡ fault_number fault
  pub kept : new ≡ old

-- It is accepted, and with these values it would be rejected. Nothing is set.
pub record RejectsValues (old new : List ℕ) (u : Unused) (answer : ℕ) : Type 0 where
  pub was_accepted : header_fault old ≡ None
  pub fault : Fault
  pub is : header_fault (with_unused old u) ≡ Some fault
  pub answer_is : answer ≡ fault_number fault
  pub kept : new ≡ old

-- the effect of `t85_set_unused_fields`
abbrev pub UnusedSet : List ℕ → List ℕ → Unused → ℕ → Type 0
UnusedSet old new u answer = SetsUnused old new u answer ⊎ RejectsStream old new answer ⊎ RejectsValues old new u answer
