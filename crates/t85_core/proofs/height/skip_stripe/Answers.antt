use Rattle.t85_core.proofs.BytesJoin.WalkEnds.{exit}
use Rattle.t85_core.proofs.StreamsAreWalked.StripesAreSkipped.{stripe_skipped, skipped_to, cut_rest, cut_pieces, moves_counted}
use Rattle.t85_core.proofs.height.skip_stripe.Goals as goal

pub returns-in_err-segments-clause-err : goal.returns-in_err-segments-clause-err
returns-in_err-segments-clause-err g c = exit _ _ c.from_residual.ensures.1 (cut_pieces c.in_err-segments.ensures.err)

pub returns-in_err-skip_rest-in-Code-clause-err : goal.returns-in_err-skip_rest-in-Code-clause-err
returns-in_err-skip_rest-in-Code-clause-err g c =
    exit _ _ c.from_residual-in_err-skip_rest-in-Code.ensures.1 (cut_rest c.in_ok-segments.ensures.ok _ c.in-Code.is c.in_err-skip_rest-in-Code.ensures.err)

pub returns-in_ok-skip_rest-in-Code-clause-ok : goal.returns-in_ok-skip_rest-in-Code-clause-ok
returns-in_ok-skip_rest-in-Code-clause-ok g c =
    let segments = c.in_ok-segments.ensures.ok in
    stripe_skipped segments _ _ c.in-Code.is c.in_ok-skip_rest-in-Code.ensures.ok (moves_counted segments _ _ c.from.ensures c.is_some.ensures)

pub returns-in-Height-clause-ok : goal.returns-in-Height-clause-ok
returns-in-Height-clause-ok g c =
    let segments = c.in_ok-segments.ensures.ok in
    skipped_to segments _ _ c.in-Height.is (moves_counted segments _ _ c.from.ensures c.is_some.ensures)
