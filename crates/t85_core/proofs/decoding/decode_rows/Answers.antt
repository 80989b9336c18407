use Rattle.std.proofs.Common.{arith}
use Rattle.t85_core.specs.Options.{fields_of}
use Rattle.t85_core.proofs.BodiesDecode.ImageIsPut.{header_in_use}
use Rattle.t85_core.proofs.BodiesDecode.RowsAreDecoded.{bytes_each, rows_decoded}
use Rattle.t85_core.proofs.StreamsDenote.OutcomeIsUnique.{one_outcome_at}
use Rattle.t85_core.proofs.decoding.decode_rows.Goals as goal

pub returns : goal.returns
returns g c =
    let h = fields_of c.args.header.now in
    let used = header_in_use c.args.header.now c.args.height c.requires.height in
    let outcome = one_outcome_at c.coder_laws.ensures h c.args.height c.args.body.now used (bytes_each c.args.body.now (λ i. omega (arith, c.type_inv.body i))) in
    record {
      rows = rows_decoded c.decode_image.new.stream.rest.now outcome c.decode_image.ensures.reads.counts c.decode_image.ensures.ok c.decode_image.ensures.err c.decode_image.ensures.unwritten
          c.decode_image.ensures.writes;
    }
