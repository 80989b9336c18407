use Rattle.std.proofs.Common.{◌∙◌}
use Rattle.raster_core.proofs.TablesFillLanes.{if_err, on_ok}
use Rattle.raster_core.proofs.BytesAreDecoded.{ended_row, then_row}
use Rattle.raster_core.proofs.decode.row.decode_rest.Goals as goal

pub returns-then-from-context-clause-leaves : goal.returns-then-from-context-clause-leaves
returns-then-from-context-clause-leaves g c = (ended_row c.if-from-context.true (c.end_byte.auto.current ∙ c.requires.part.1) c.in_ok-from.ensures.ok, tt)

pub returns-clause-leaves : goal.returns-clause-leaves
returns-clause-leaves g c = (
  on_ok c.decode_bytes-2.result (then_row c.in_ok-from.ensures.ok) c.decode_bytes-2.ensures.leaves.0,
  if_err c.decode_bytes-2.result _ _ (λ at. then_row c.in_ok-from.ensures.ok) c.decode_bytes-2.ensures.leaves.1,
)
