use Rattle.std.proofs.Common.{◌<◌, arith, nat_eq, sym}
use Rattle.raster_core.proofs.UniformPixelsRun.{byte_run}
use Rattle.raster_core.proofs.row_byte.RowByte.is_run.Goals as goal

pub returns-clause-run : goal.returns-clause-run
returns-clause-run g c = λ is.
    let small : c.args.self.byte < 256 = omega arith in
    sym (byte_run c.args.self (nat_eq c.args.self.byte 255) small (c.is_run.ensures.byte is) (c.is_run.ensures.uniform is))
