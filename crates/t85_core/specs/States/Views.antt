-- The views of structs that contain a device.
use Rattle.std.specs.Prelude.{ℕ, List, Option}
use Rattle.std.specs.Io.KnownBytes.{append_known}
use Rattle.devices.specs.declared.device.Output as device
use Rattle.t85_core.specs.declared.output_buffer.OutputBuffer.{OutputBuffer}
use Rattle.t85_core.specs.RowSink.{Writer, TargetView, held_of, known_length}

-- the bytes that a buffer has accepted, after those that were there
abbrev pub text_taken : {W : Type 0} {N : ℕ} {G : device.Ghosts W} → OutputBuffer W N G → Option (List ℕ)
text_taken {W} {N} {G} b = append_known (G.view b.output.now).contents (held_of b.bytes b.at b.end)

-- and its writer
abbrev pub writer_of : {W : Type 0} {N : ℕ} {G : device.Ghosts W} → OutputBuffer W N G → Writer
writer_of {W} {N} {G} b = record { reference = b.output.ghost_name; target = (G.view b.output.now).target; flushes = (G.view b.output.now).flushes }

-- a buffer as a target
abbrev pub target_view : {W : Type 0} {N : ℕ} {G : device.Ghosts W} → OutputBuffer W N G → TargetView
target_view {W} {N} {G} b = record {
  text = text_taken b;
  held = held_of b.bytes b.at b.end;
  written = known_length (G.view b.output.now).contents;
  failures = (G.view b.output.now).failures;
  writer = writer_of b;
}
