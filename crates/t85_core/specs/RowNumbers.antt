-- A row encoder as plain numbers.
use Rattle.std.specs.Prelude.{ℕ, ◌+◌, ◌*◌, ◌≤◌, ◌<◌, IfSome}
use Rattle.qm_core.specs.Encoder.{encoder_registers}
use Rattle.t85_core.specs.declared.encoding.by_row.RowEncoder.{RowEncoder}
use Rattle.t85_core.specs.declared.encoding.by_row.numbers.RowNumbers.{RowNumbers}

-- The numbers of an encoder, except whether it is closed.
abbrev pub row_numbers : RowEncoder → RowNumbers
row_numbers e = record {
  rows = e.rows;
  in_stripe = e.in_stripe;
  is_counted = e.is_counted;
  offset = e.kept.offset;
  is_previous_typical = e.kept.previous_typical;
  named = e.named;
  encoder = encoder_registers e.encoder;
}

-- An encoder of an image of this size, with this number of rows per stripe, may have these numbers.
pub record AreWithin (width limit stripe_rows : ℕ) (n : RowNumbers) : Type 0 where
  pub offset : n.offset ≤ 127
  pub named : IfSome n.named (λ t. t ≤ 127)
  pub fewer : n.in_stripe < stripe_rows
  pub inside : n.in_stripe ≤ n.rows
  pub rows_to : n.rows ≤ limit
  pub events : n.encoder.events ≤ n.in_stripe * (width + 1)
