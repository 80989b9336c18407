use Rattle.std.proofs.Common.{[], ◌∷◌, ◌++◌, arith, refl, inl, inr}
use Rattle.byteorder.specs.Endian.{big_bytes}
use Rattle.t85_core.specs.Options.{fields_of}
use Rattle.t85_core.proofs.BytesJoin.CallsJoin.{Consumes-more}
use Rattle.t85_core.proofs.BytesJoin.WalkEnds.{Ends-after, Ends-at, exit}
use Rattle.t85_core.proofs.StreamsAreWalked.SegmentsAreChecked.{move_refused}
use Rattle.t85_core.proofs.segments.segment.read_move.Goals as goal
use Rattle.t85_core.proofs.segments.segment.read_move.Goals.{then-row-header-via-then-row-header, then-row-header-via-else-row-header+then-offset-header, then-row-header-via-else-row-header+else-offset-header+then-last-ne0}

pub returns-in_err-last-clause-err : goal.returns-in_err-last-clause-err
returns-in_err-last-clause-err g c =
    exit _ _ c.from_residual-in_err-last.ensures.1
    (Ends-after (big_bytes 4 c.in_ok-row.row ++ c.in_ok-offset.offset ∷ []) (Consumes-more _ _ _ _ _ c.in_ok-row.ensures.ok c.in_ok-offset.ensures.ok)
    (λ given e p. rw (p.0, p.1) refl) c.in_err-last.ensures.err)

pub returns-then-row-header-clause-err : goal.returns-then-row-header-clause-err
returns-then-row-header-clause-err g c =
    Ends-at (big_bytes 4 c.in_ok-row.row ++ c.in_ok-offset.offset ∷ c.in_ok-last.last ∷ [])
    (Consumes-more _ _ _ _ _ c.in_ok-row.ensures.ok (Consumes-more _ _ _ _ _ c.in_ok-offset.ensures.ok c.in_ok-last.ensures.ok))
    refl (λ h. cc)
    (move_refused (fields_of c.args.header.now) c.in_ok-row.row c.in_ok-offset.offset c.in_ok-last.last (omega arith)
    (elim c.then-row-header.branch [
      | then-row-header-via-then-row-header w ↦ inl w.if-row-header.true
      | then-row-header-via-else-row-header+then-offset-header w ↦ inr (inl w.if-offset-header.true)
      | then-row-header-via-else-row-header+else-offset-header+then-last-ne0 w ↦ inr (inr w.if-last-ne0.true)
    ]))
