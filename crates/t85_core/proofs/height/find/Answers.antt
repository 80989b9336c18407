use Rattle.std.proofs.Common.{◌∙◌, Err, ap, sym}
use Rattle.t85_core.specs.Private.HeightWalk.{search_end_of}
use Rattle.t85_core.proofs.BytesJoin.WalkEnds.{exit, exit_of}
use Rattle.t85_core.proofs.StreamsAreWalked.SkippedPartsJoin.{skips_faults}
use Rattle.t85_core.proofs.StreamsAreWalked.HeightIsFound.{accepted, found_given, found_fixed, found_looking, open_looking}
use Rattle.t85_core.proofs.height.find.Goals as goal

pub returns-in_err-reached-clause-among : goal.returns-in_err-reached-clause-among
returns-in_err-reached-clause-among g c = exit _ _ c.from_residual.ensures.1 (skips_faults c.in_err-reached.ensures.err)

pub returns-in-Some-clause-ok : goal.returns-in-Some-clause-ok
returns-in-Some-clause-ok g c =
    rw c.in-Some.is (found_given (accepted c.args.header.now) c.div_ceil.ensures (rw c.in-Some.is at c.in_ok-reached.ensures.ok))

pub returns-then-not-is_variable-clause-ok : goal.returns-then-not-is_variable-clause-ok
returns-then-not-is_variable-clause-ok g c =
    rw c.in-None.is (found_fixed (accepted c.args.header.now) (search_end_of c.in_ok-reached.reached) c.div_ceil.ensures (rw c.in-None.is at c.in_ok-reached.ensures.ok)
    (sym c.is_variable.ensures ∙ c.if-not-is_variable.true))

pub returns-in_err-height-in-None-clause-unread : goal.returns-in_err-height-in-None-clause-unread
returns-in_err-height-in-None-clause-unread g c is =
    exit_of c.from_residual-in_err-height-in-None.result c.from_residual-in_err-height-in-None.ensures.1 (λ e.
    open_looking (accepted c.args.header.now) (search_end_of c.in_ok-reached.reached) c.div_ceil.ensures
    (rw c.in-None.is at c.in_ok-reached.ensures.ok) (sym c.is_variable.ensures ∙ c.if-not-is_variable.false) _ (c.in_err-height-in-None.ensures.unread (ap Err e))) is

pub returns-in_ok-height-in-None-clause-ok : goal.returns-in_ok-height-in-None-clause-ok
returns-in_ok-height-in-None-clause-ok g c =
    found_looking (accepted c.args.header.now) (search_end_of c.in_ok-reached.reached) c.div_ceil.ensures (rw c.in-None.is at c.in_ok-reached.ensures.ok) _ _
    c.in_ok-height-in-None.ensures.found c.in_ok-height-in-None.ensures.none
