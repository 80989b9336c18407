use Rattle.std.proofs.Common.{◌≡◌, ◌≤◌, ◌*◌, ◌-◌, ◌<◌, ◌^◌}
use Rattle.std.specs.Prelude.{IsTrue}
use Rattle.qm_core.specs.Source.{Pulls}
use Rattle.qm_core.specs.Decoder.{has_stopped}
use Rattle.qm_core.specs.Reads.{SameReader, reader_state}
use Rattle.raster_core.specs.Machine.Decoded.{BytesAlong, bytes_at, row_around, row_part}
use Rattle.raster_core.proofs.decode.row.decode_bytes.Given as goal

abbrev pub invariant-bytes : goal.invariant-bytes
invariant-bytes g l = record {
  lends : SameReader l.fn.reader l.reader;
  same : g.S.CodeBytes.failed l.reader.source.now ≡ g.S.CodeBytes.failed l.fn.reader.source.now;
  fewer : g.S.CodeBytes.left l.reader.source.now ≤ g.S.CodeBytes.left l.fn.reader.source.now;
  going : has_stopped l.reader.decoder.now ≡ has_stopped l.fn.reader.decoder.now;
  stuck : IsTrue (has_stopped l.fn.reader.decoder.now) → (8 * l.i ≡ l.fn.place.done) × (l.reader.decoder.now ≡ l.fn.reader.decoder.now) × (l.reader.source.now ≡ l.fn.reader.source.now);
  left : l.left ≡ l.context.shape.width - 8 * l.i;
  second_fits : l.second_bytes < 2 ^ 24;
  above_fits : l.above_bytes < 2 ^ 24;
  along : BytesAlong (Pulls g.S.CodeBytes.gives g.S.CodeBytes.failed) (row_around l.context) (row_part l.fn.place l.fn.current l.fn.reader) l.context.shape.width
      (bytes_at l.left l.i l.second_bytes l.above_bytes l.past l.current) (reader_state l.reader);
}

abbrev pub decreases-bytes : goal.decreases-bytes
decreases-bytes g l = l.left
