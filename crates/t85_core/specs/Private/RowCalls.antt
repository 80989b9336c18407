-- The preconditions of a row encoder's calls, and their effects on its numbers.
use Rattle.std.specs.Prelude.{ℕ, ◌+◌, ◌^◌, ◌≡◌, ◌≤◌, [], false}
use Rattle.qm_core.specs.Place.{start}
use Rattle.qm_core.specs.Encoder.{EncoderIsAt, event_count, has_failed}
use Rattle.qm_core.specs.declared.encoder.Encoder.{Encoder}
use Rattle.raster_core.specs.declared.shape.Shape.{Shape}
use Rattle.raster_core.specs.declared.shape.Kept.{Kept}
use Rattle.raster_core.specs.Machine.Places.{MayCodeRow}
use Rattle.raster_core.specs.Window.{held, width_of}
use Rattle.raster_core.specs.declared.window.Window.{Window}
use Rattle.t85_core.specs.declared.encoding.by_row.RowEncoder.{RowEncoder}
use Rattle.t85_core.specs.States.ByRow.{IsLined}
use Rattle.t85_core.specs.States.RowCalls.{KeepsPlan}

-- The window has rows of this width.
abbrev pub HasRows : ℕ → Window → Type 0
HasRows width window = IsLined (held window) × (width_of window ≡ width)

-- The window's current row can be encoded with these parameters.
abbrev pub MayCode : Shape → Kept → Window → Encoder → Type 0
MayCode shape kept window e = MayCodeRow shape kept window × (event_count e + shape.width + 1 ≤ 2 ^ 56) × (has_failed e ≡ false)

-- The row was encoded: the encoder has not failed, and it encoded at most one binary decision more than the row has pixels.
abbrev pub HasCoded : Shape → Kept → Kept → Encoder → Encoder → Type 0
HasCoded shape kept kept' e e' = (has_failed e' ≡ false) × (event_count e' ≤ event_count e + shape.width + 1) × (kept'.offset ≡ kept.offset)

-- The encoder is at the beginning of a code.
abbrev pub IsFresh : Encoder → Type 0
IsFresh e = EncoderIsAt e start [] × (event_count e ≡ 0) × (has_failed e ≡ false)

-- One row was added.
abbrev pub AddsRow : RowEncoder → RowEncoder → Type 0
AddsRow e e' = KeepsPlan e e' × (e'.rows ≡ e.rows + 1) × (e'.in_stripe ≡ e.in_stripe + 1)
