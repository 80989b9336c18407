-- The contents of a window, and the mode of a shape.
use Rattle.std.specs.Prelude.{ℕ}
use Rattle.std.specs.Borrow.{GName}
use Rattle.raster_core.specs.Packed.{Held, rows_at}
use Rattle.raster_core.specs.declared.window.Window.{Window}
use Rattle.raster_core.specs.Lines.{Mode}
use Rattle.raster_core.specs.declared.shape.Shape.{Shape}

-- the width of its rows in pixels
abbrev pub width_of : Window → ℕ
width_of w = w.width

-- the position of the current row in its memory
abbrev pub current_place : Window → ℕ
current_place w = w.place

-- the borrowed slice that is its memory
abbrev pub memory_of : Window → GName
memory_of w = w.rows.ghost_name

-- its rows
abbrev pub held : Window → Held
held w = rows_at w.place w.width w.rows.now

-- moved down by a row: the current row becomes the row above, and the second row above is to be overwritten
abbrev pub turned : Held → Held
turned w = record { width = w.width; current = w.second; above = w.current; second = w.above }

-- moved down by a row, to one that equals the current row
abbrev pub repeated : Held → Held
repeated w = record { width = w.width; current = w.current; above = w.current; second = w.above }

abbrev pub shape_mode : Shape → Mode
shape_mode s = record { two_line = s.two_line; typical = s.typical }
