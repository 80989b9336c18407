use Rattle.std.proofs.Common.{Some, ap, sym}
use Rattle.t85_core.proofs.BodiesDecode.NumbersFixDecoder.{one_code, some_is}
use Rattle.t85_core.proofs.pieces.numbers.StageNumbers.code.Goals as goal

pub returns-clause-all : goal.returns-clause-all
returns-clause-all c = λ d begun k.
    ap Some (one_code _ d (some_is (c.in_ok-at.ensures.all d.at k.at_are)) k.row_is (sym begun) (some_is (c.in_ok-first.ensures.all d.first d.small k.first_is))
    (some_is (c.in_ok-marker.ensures.all d.marker k.marker_is)))
