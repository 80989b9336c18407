use Rattle.std.proofs.Common.{◌≡◌, ◌≤◌, ◌-◌, length, take}
use Rattle.std.specs.Io.KnownBytes.{Appends, append_known}
use Rattle.t85_core.specs.RowSink.{held_of, known_length}
use Rattle.t85_core.specs.States.Views.{writer_of}
use Rattle.t85_core.proofs.output_buffer.OutputBuffer.hold.Given as goal

-- the bytes up to here were taken
abbrev pub invariant-loop-taken : goal.invariant-loop-taken
invariant-loop-taken g l = record {
  within : l.taken ≤ length l.bytes;
  text : Appends (append_known (g.W.Output.view l.fn.self.output.now).contents (held_of l.fn.self.bytes l.fn.self.at l.fn.self.end))
      (append_known (g.W.Output.view l.self.output.now).contents (held_of l.self.bytes l.self.at l.self.end)) (take l.taken l.bytes);
  grows : known_length (g.W.Output.view l.fn.self.output.now).contents ≤ known_length (g.W.Output.view l.self.output.now).contents;
  unfailed : (g.W.Output.view l.self.output.now).failures ≡ (g.W.Output.view l.fn.self.output.now).failures;
  same_writer : writer_of l.self ≡ writer_of l.fn.self;
}

abbrev pub decreases-loop-taken : goal.decreases-loop-taken
decreases-loop-taken g l = length l.bytes - l.taken
