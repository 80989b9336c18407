use Rattle.std.proofs.Common.{[], ◌∷◌, refl, arith}
use Rattle.t85_core.proofs.BytesJoin.WalkEnds.{Ends-at}
use Rattle.t85_core.proofs.StreamsAreWalked.EscapesAreTaken.{EndsNoCode, escape_taken, escape_in_code}
use Rattle.t85_core.proofs.segments.any_code.Goals as goal

pub returns-in-4-clause-err : goal.returns-in-4-clause-err
returns-in-4-clause-err g c =
    Ends-at (255 ∷ c.in_ok-escape.escape ∷ [])
    (escape_taken _ _ _ _ _ c.in_ok-first.ensures.ok c.if-first.false c.in_ok-escape.ensures.ok) refl (λ h. cc)
    (λ h spot moves. rw c.in-4.is refl)

pub returns-in_default-clause-err : goal.returns-in_default-clause-err
returns-in_default-clause-err g c =
    let escape = c.in_ok-escape.escape in
    let other : EndsNoCode escape = (omega arith, omega arith, omega arith, omega arith) in
    Ends-at (255 ∷ escape ∷ [])
    (escape_taken _ _ _ _ _ c.in_ok-first.ensures.ok c.if-first.false c.in_ok-escape.ensures.ok) refl (λ h. cc)
    (λ h spot moves. escape_in_code h spot moves escape [] other)
