use Rattle.std.proofs.Common.{◌≡◌, ◌≤◌, ◌+◌, ◌*◌, ◌/◌, ◌^◌, ◌<◌}
use Rattle.std.specs.Prelude.{IsTrue}
use Rattle.qm_core.specs.Source.{Pulls}
use Rattle.qm_core.specs.Decoder.{has_stopped}
use Rattle.qm_core.specs.Reads.{SameReader, reader_state}
use Rattle.raster_core.specs.Machine.Decoded.{Along, around_of}
use Rattle.raster_core.proofs.decode.byte.decode_byte.Given as goal

abbrev pub invariant-loop-j : goal.invariant-loop-j
invariant-loop-j g l = record {
  lends : SameReader l.fn.reader l.reader;
  same : g.S.CodeBytes.failed l.reader.source.now ≡ g.S.CodeBytes.failed l.fn.reader.source.now;
  fewer : g.S.CodeBytes.left l.reader.source.now ≤ g.S.CodeBytes.left l.fn.reader.source.now;
  going : has_stopped l.reader.decoder.now ≡ has_stopped l.fn.reader.decoder.now;
  stuck : IsTrue (has_stopped l.fn.reader.decoder.now) → (l.j ≡ 0) × (l.reader.decoder.now ≡ l.fn.reader.decoder.now) × (l.reader.source.now ≡ l.fn.reader.source.now);
  second : l.second ≡ l.registers.second / 2 ^ 7 * 2 ^ l.j;
  above : l.above ≡ l.registers.above / 2 ^ 6 * 2 ^ l.j;
  second_small : l.second < 2 ^ (17 + l.j);
  above_small : l.above < 2 ^ (18 + l.j);
  along : Along (Pulls g.S.CodeBytes.gives g.S.CodeBytes.failed) (around_of l.registers) (reader_state l.fn.reader) l.j l.past (reader_state l.reader);
}
