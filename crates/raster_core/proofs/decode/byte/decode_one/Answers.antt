use Rattle.std.proofs.Common.{arith, refl, sym, ap}
use Rattle.raster_core.specs.Machine.Registers.{is_moved}
use Rattle.raster_core.proofs.PixelsAreDecoded.{along_next, along_stop}
use Rattle.raster_core.proofs.LanesGiveContexts.{lane_context}
use Rattle.raster_core.proofs.decode.byte.decode_one.Goals as goal

pub returns-in-Err-clause-pixels : goal.returns-in-Err-clause-pixels
returns-in-Err-clause-pixels g c = (tt, (omega arith, record { any = λ b old has so_far. along_stop (let w = has.within in omega arith) refl refl c.in-Err.ensures.next so_far }))

pub returns-in-Ok-clause-pixels : goal.returns-in-Ok-clause-pixels
returns-in-Ok-clause-pixels g c = (
  record {
    any = λ b old has so_far. along_next (let w = has.within in omega arith) (c.past_and.ensures b.offset (ap is_moved (sym has.nominal)))
        (lane_context b c.args.lanes c.args.n c.args.before c.of-cx.result.number has c.of-cx.ensures) c.in-Ok.ensures.next so_far;
  },
  tt,
)
