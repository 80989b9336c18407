-- The views of structs that contain a device.
use Rattle.std.specs.Prelude.{ℕ, [], Some, Result, length, ◌≡◌, ◌≤◌, ◌++◌}
use Rattle.devices.specs.declared.device.Input as input_device
use Rattle.devices.specs.declared.device.Output as device
use Rattle.devices.specs.declared.buffered.Buffered.{Buffered}
use Rattle.devices.specs.Buffered.{buffered_view, view_behind}
use Rattle.t85_core.specs.declared.pieces.piece.Piece.{Piece}
use Rattle.t85_core.specs.declared.pieces.piece.PieceCode.{PieceCode}
use Rattle.t85_core.specs.declared.encoding.sink.EntitySink.{EntitySink}
use Rattle.t85_core.specs.declared.output_buffer.OutputBuffer.{OutputBuffer}
use Rattle.t85_core.specs.declared.fault.Fault.{Fault}
use Rattle.t85_core.specs.Failures.{CountsWrite}
use Rattle.t85_core.specs.RowSink.{TargetView, known_length}
use Rattle.t85_core.specs.Private.Buffers.{SourceView, SinkView}
use Rattle.t85_core.specs.States.Passage.{Passage, passage}
use Rattle.t85_core.specs.Private.Entity.{EntityView}
use Rattle.t85_core.specs.States.PieceCode.{ahead_bytes}
use Rattle.t85_core.specs.States.Views.{writer_of}

-- a piece as a source
abbrev pub piece_source : Piece → SourceView
piece_source s = record {
  known = Some s.rest.now;
  beyond = Some [];
  left = length s.rest.now;
  failures = 0;
  source = 0;
}

-- a buffer as a source
abbrev pub buffer_source : {R : Type 0} {G : input_device.Ghosts R} → Buffered R G → SourceView
buffer_source s = record {
  known = (buffered_view s).remaining;
  beyond = (view_behind s).remaining;
  left = (buffered_view s).left;
  failures = (buffered_view s).failures;
  source = (buffered_view s).source;
}

-- a code of which a piece arrived
abbrev pub piece_view : {F : ℕ} → PieceCode F → EntityView
piece_view {F} s = record {
  left = ahead_bytes s.first ++ s.piece.rest.now;
  first = s.first;
  marker = s.marker;
  waits = s.waits;
  fault = s.fault;
}

-- a sink, from its target
abbrev pub sink_view : {P : Type 0} → (P → TargetView) → EntitySink P → SinkView
sink_view view s = record {
  target = s.target.ghost_name;
  writer = (view s.target.now).writer;
  written = (view s.target.now).written;
  text = (view s.target.now).text;
}

-- The effect of a call on the writer behind a buffer: it is the same, has accepted no less, and has counted a failed write.
abbrev pub WritesBehind : {T : Type 0} {W : Type 0} {N : ℕ} {G : device.Ghosts W} → OutputBuffer W N G → OutputBuffer W N G → Result T Fault → Type 0
WritesBehind {T} {W} {N} {G} b b' result =
    CountsWrite (G.view b.output.now).failures (G.view b'.output.now).failures result × (known_length (G.view b.output.now).contents ≤ known_length (G.view b'.output.now).contents) ×
    (writer_of b' ≡ writer_of b)

-- the known bytes of a source and of a target, before and after a call
abbrev pub passage_of : SourceView → SourceView → TargetView → TargetView → Passage
passage_of source source' target target' = passage source.known source'.known target.text target'.text
