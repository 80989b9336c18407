use Rattle.std.proofs.Common.{◌≡◌, ◌+◌, ◌*◌, arith, refl}
use Rattle.raster_core.proofs.ByteHasOneColour.{past_run}
use Rattle.raster_core.proofs.row_byte.RowByte.after.Goals as goal

pub returns : goal.returns
returns g c = λ lines i is.
    let rows : 8 * i + 16 ≡ 8 * (i + 1) + 8 = omega arith in
    let row : 8 * i + 8 ≡ 8 * (i + 1) = omega arith in
    record {
      template_is = refl;
      second_is = rw (is.at.second_is, rows) refl;
      above_is = rw (is.at.above_is, rows) refl;
      past_is = rw (c.past_eight.ensures c.args.self.around.template.offset c.requires.moved, past_run lines.row c.args.self.around.template.offset (8 * i) is.past_is is.at.byte_is, row) refl;
    }
