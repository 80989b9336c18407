use Rattle.std.proofs.Common.{refl}
use Rattle.t85_core.proofs.BytesJoin.WalkEnds.{exit, exit_of}
use Rattle.t85_core.proofs.StreamsAreWalked.SkippedPartsJoin.{skips_faults, sought_whole}
use Rattle.t85_core.proofs.StreamsAreWalked.HeightIsFound.{accepted}
use Rattle.t85_core.proofs.StreamsAreWalked.NumbersAreSummed.{whole_numbers, joined_numbers, joined_refused, joined_unread}
use Rattle.t85_core.proofs.summary.walk_on.Goals as goal

pub returns-then-reached-count-clause-ok : goal.returns-then-reached-count-clause-ok
returns-then-reached-count-clause-ok g c = λ known f.
    whole_numbers (accepted c.args.header.now) f c.div_ceil-count.ensures c.if-reached-count.true c.summary_of.ensures

pub returns-in_err-more-clause-err : goal.returns-in_err-more-clause-err
returns-in_err-more-clause-err g c =
    exit _ _ c.from_residual.ensures.1 (λ n known f.
    joined_refused (accepted c.args.header.now) f c.requires.part c.div_ceil-count.ensures c.in_err-more.ensures.err n)

pub returns-in_err-more-clause-unread : goal.returns-in_err-more-clause-unread
returns-in_err-more-clause-unread g c is =
    exit_of c.from_residual.result c.from_residual.ensures.1 (λ same known f.
    joined_unread (accepted c.args.header.now) f c.requires.part c.div_ceil-count.ensures c.in_err-more.ensures.err same) is

pub returns-in_err-more-clause-among : goal.returns-in_err-more-clause-among
returns-in_err-more-clause-among g c = exit _ _ c.from_residual.ensures.1 (skips_faults c.in_err-more.ensures.err)

pub returns-clause-ok : goal.returns-clause-ok
returns-clause-ok g c = λ known f.
    joined_numbers (accepted c.args.header.now) f c.requires.part c.div_ceil-count.ensures c.if-reached-count.false
    (sought_whole _ _ _ _ _ _ refl c.in_ok-more.ensures.ok) refl c.saturating_add.ensures c.saturating_add-2.ensures c.summary_of-2.ensures
