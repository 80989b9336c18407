use Rattle.t85_core.proofs.BytesJoin.WalkEnds.{map_ok, always_err}
use Rattle.t85_core.proofs.BytesJoin.BytesAreSent.{Sends-keeps, sends_all}
use Rattle.t85_core.proofs.BodiesDecode.ImageLeavesBuffer.{all_handed}
use Rattle.t85_core.proofs.encoding.by_row.RowEncoder.end_held.Goals as goal

pub returns-clause-ok : goal.returns-clause-ok
returns-clause-ok g c =
    map_ok c.write_held.result (λ empty image rows origin so. Sends-keeps (c.in_ok-end.ensures.ok image rows origin so)
    (all_handed _ _ _ _ _ empty.0 empty.1 c.write_held.ensures.text)) c.write_held.ensures.empty

pub returns-clause-cut : goal.returns-clause-cut
returns-clause-cut g c =
    always_err c.write_held.result (λ image rows origin so. sends_all (Sends-keeps (c.in_ok-end.ensures.ok image rows origin so) c.write_held.ensures.text))
