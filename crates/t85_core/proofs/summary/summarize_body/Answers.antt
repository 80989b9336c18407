use Rattle.std.proofs.Common.{Err, ap}
use Rattle.t85_core.proofs.BytesJoin.WalkEnds.{exit, exit_of}
use Rattle.t85_core.proofs.StreamsAreWalked.HeightIsFound.{accepted, skipped_refused, open_unfinished}
use Rattle.t85_core.proofs.StreamsAreWalked.NumbersAreSummed.{none_numbers}
use Rattle.t85_core.proofs.summary.summarize_body.Goals as goal

pub returns-in_err-reached-clause-err : goal.returns-in_err-reached-clause-err
returns-in_err-reached-clause-err g c =
    exit _ _ c.from_residual.ensures.1 (λ n. skipped_refused (accepted c.args.header.now) _ (c.in_err-reached.ensures.err n) n)

pub returns-in_err-reached-clause-unread : goal.returns-in_err-reached-clause-unread
returns-in_err-reached-clause-unread g c is =
    exit_of c.from_residual.result c.from_residual.ensures.1 (λ e.
    let u = c.in_err-reached.ensures.unread (ap Err e) in
    (u.0, u.1, open_unfinished (accepted c.args.header.now) u.2)) is

pub returns-in-None-clause-ok : goal.returns-in-None-clause-ok
returns-in-None-clause-ok g c = none_numbers _ _ (rw c.in-None.is at c.in_ok-reached.ensures.ok) c.summary_of.ensures
