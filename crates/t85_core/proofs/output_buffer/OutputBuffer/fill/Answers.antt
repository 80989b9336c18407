use Rattle.std.proofs.Common.{◌≡◌, ◌+◌, ◌-◌, ℕ, List, ◌++◌, length, take, length-take, arith}
use borrow.Rule.Slice.PartMut.{put_mid}
use Rattle.t85_core.specs.RowSink.{held_of}
use Rattle.t85_core.proofs.BytesJoin.OutputHoldsBytes.{appends_held, held_grows}
use Rattle.t85_core.proofs.output_buffer.OutputBuffer.fill.Goals as goal

pub returns-clause-text : goal.returns-clause-text
returns-clause-text g c =
    let s = c.args.self.now in
    let count : ℕ = c.min-count.result in
    let more : List ℕ = take count c.args.bytes.now in
    let long : length more ≡ count = omega (arith, length-take count c.args.bytes.now) in
    let same = c.copy_from_slice.ensures.after in
    let grown : held_of (put_mid s.end (s.end + count - s.end) s.bytes more) s.at (s.end + count) ≡ held_of s.bytes s.at s.end ++ more =
    held_grows s.bytes more s.at s.end _ (omega arith) s.ordered (omega arith) in
    rw same (rw grown (appends_held (g.W.Output.view s.output.now).contents (held_of s.bytes s.at s.end) more))
