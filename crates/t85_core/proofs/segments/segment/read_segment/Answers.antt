use Rattle.std.proofs.Common.{◌≢◌, [], ◌∷◌, refl, cond, arith}
use Rattle.t85_core.specs.Options.{fields_of}
use Rattle.t85_core.proofs.BytesJoin.CallsJoin.{Consumes-more}
use Rattle.t85_core.proofs.BytesJoin.WalkEnds.{exit, Ends-at, Ends-after}
use Rattle.t85_core.proofs.StreamsAreWalked.EscapesAreTaken.{EndsNoCode, unknown_escape}
use Rattle.t85_core.proofs.segments.segment.read_segment.Goals as goal

pub returns-in-4-clause-err : goal.returns-in-4-clause-err
returns-in-4-clause-err g c = λ before taken.
    Ends-at (255 ∷ c.args.escape ∷ []) taken refl (λ h. cc) (λ n. rw c.in-4.is refl)

pub returns-then-moved-clause-err : goal.returns-then-moved-clause-err
returns-then-moved-clause-err g c = λ before taken.
    Ends-at (255 ∷ c.args.escape ∷ []) taken refl (λ h. cc) (λ n. rw (c.in-6.is, c.if-moved.true) refl)

pub returns-in_err-to-in-6-clause-err : goal.returns-in_err-to-in-6-clause-err
returns-in_err-to-in-6-clause-err g c = exit _ _ c.from_residual-in_err-to-in-6.ensures.1 (λ before taken.
    Ends-after (255 ∷ c.args.escape ∷ []) taken (λ given fault p n. rw (c.in-6.is, c.if-moved.false) p) c.in_err-to-in-6.ensures.err)

pub returns-in_err-skip_comment-in-7-clause-err : goal.returns-in_err-skip_comment-in-7-clause-err
returns-in_err-skip_comment-in-7-clause-err g c = exit _ _ c.from_residual-in_err-skip_comment-in-7.ensures.1 (λ before taken.
    Ends-after (255 ∷ c.args.escape ∷ []) taken (λ given fault p n. rw c.in-7.is p) c.in_err-skip_comment-in-7.ensures.err)

pub returns-in_err-height-in-5-clause-err : goal.returns-in_err-height-in-5-clause-err
returns-in_err-height-in-5-clause-err g c = exit _ _ c.from_residual.ensures.1 (λ before taken.
    Ends-after (255 ∷ c.args.escape ∷ []) taken (λ given fault p n. rw c.in-5.is (p n)) c.in_err-height-in-5.ensures.err)

pub returns-in_ok-height-in-5-clause-ok : goal.returns-in_ok-height-in-5-clause-ok
returns-in_ok-height-in-5-clause-ok g c = λ before taken.
    let given = c.in_ok-height-in-5.ensures.ok in
    (given.0, given.1, record { legal = given.2; taken = Consumes-more _ _ _ (255 ∷ 5 ∷ []) _ (rw c.in-5.is at taken) given.3 })

pub returns-in_ok-to-in-6-clause-ok : goal.returns-in_ok-to-in-6-clause-ok
returns-in_ok-to-in-6-clause-ok g c = λ before taken.
    let to = c.in_ok-to-in-6.ensures.ok in
    (c.if-moved.false, record { legal = (to.0, to.1); taken = Consumes-more _ _ _ (255 ∷ 6 ∷ []) _ (rw c.in-6.is at taken) to.2 })

pub returns-in_ok-skip_comment-in-7-clause-ok : goal.returns-in_ok-skip_comment-in-7-clause-ok
returns-in_ok-skip_comment-in-7-clause-ok g c = λ before taken.
    let comment = c.in_ok-skip_comment-in-7.ensures.ok in
    (comment.0, record { legal = comment.1; taken = Consumes-more _ _ _ (255 ∷ 7 ∷ []) _ (rw c.in-7.is at taken) comment.2 })

pub returns-in_default-clause-err : goal.returns-in_default-clause-err
returns-in_default-clause-err g c = λ before taken.
    let escape = c.args.escape in
    let other : EndsNoCode escape = (c.requires.no_code.0, c.requires.no_code.1, c.requires.no_code.2, omega arith) in
    let more : (escape ≢ 5) × (escape ≢ 6) × (escape ≢ 7) = (omega arith, omega arith, omega arith) in
    Ends-at (255 ∷ escape ∷ []) taken refl (λ h. cc)
    (λ n. unknown_escape (fields_of c.args.header.now) (record { height = n; entities = c.args.place.entities; heights = cond c.args.place.given 1 0 })
    (cond c.args.moved 1 0) escape [] other more)
