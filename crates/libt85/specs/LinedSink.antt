-- The state of a consumer of rows.
use Rattle.std.specs.Prelude.{ℕ, List, [], Some, ◌∷◌, ◌++◌, length, Option, option_to_list}
use Rattle.t85_core.specs.RowSink.{TargetView}
use Rattle.libt85.specs.declared.lined_sink.LinedSink.{LinedSink}
use Rattle.libt85.specs.Delivered.{lined, outside}

-- a consumer of rows: their layout in its memory, and how many were written
pub record LinedState : Type 0 where
  pub row : ℕ
  pub stride : ℕ
  pub fit : ℕ
  pub bytes : List ℕ
  pub y : ℕ
  pub spilled : Option ℕ

abbrev pub lined_state : LinedSink → LinedState
lined_state s = record { row = s.row; stride = s.stride; fit = s.fit; bytes = s.bytes.now; y = s.y; spilled = s.spilled }

-- the rows, and the first byte that did not fit
abbrev pub taken_rows : LinedState → List ℕ
taken_rows s = lined s.y s.row s.stride s.bytes ++ option_to_list s.spilled

-- Before the bytes written come the facts that stay unchanged, so that they are known wherever the growth is known: the length
-- of the memory, the layout of the rows, and the bytes outside of the rows.
abbrev pub taken : LinedState → List ℕ
taken s = length s.bytes ∷ s.row ∷ s.stride ∷ s.fit ∷ (outside s.fit s.row s.stride s.bytes ++ taken_rows s)

-- the rows as a target, which has no buffer and no writer behind it
abbrev pub lined_view : LinedSink → TargetView
lined_view s = record {
  text = Some (taken (lined_state s));
  held = [];
  written = 0;
  failures = s.failures;
  writer = record { reference = 0; target = s.bytes.ghost_name; flushes = 0 };
}
