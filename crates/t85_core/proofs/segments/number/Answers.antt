use Rattle.std.proofs.Common.{[], ◌∷◌, arith}
use Rattle.t85_core.proofs.BytesJoin.CallsJoin.{Consumes-more}
use Rattle.t85_core.proofs.BytesJoin.WalkEnds.{Ends-after, exit}
use Rattle.t85_core.proofs.segments.number.Goals as goal

pub returns-in_err-c-clause-err : goal.returns-in_err-c-clause-err
returns-in_err-c-clause-err g c =
    exit _ _ c.from_residual-in_err-c.ensures.1
    (Ends-after (c.in_ok-a.a ∷ c.in_ok-b.b ∷ []) (Consumes-more _ _ _ _ _ c.in_ok-a.ensures.ok c.in_ok-b.ensures.ok)
    (λ given e p. (rw p.0 (omega arith), p.1)) c.in_err-c.ensures.err)

pub returns-in_err-d-clause-err : goal.returns-in_err-d-clause-err
returns-in_err-d-clause-err g c =
    exit _ _ c.from_residual-in_err-d.ensures.1
    (Ends-after (c.in_ok-a.a ∷ c.in_ok-b.b ∷ c.in_ok-c.c ∷ []) (Consumes-more _ _ _ _ _ c.in_ok-a.ensures.ok (Consumes-more _ _ _ _ _ c.in_ok-b.ensures.ok c.in_ok-c.ensures.ok))
    (λ given e p. (rw p.0 (omega arith), p.1)) c.in_err-d.ensures.err)
