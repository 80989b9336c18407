use Rattle.std.proofs.Common.{◌∙◌, ap, Some, sym, subst, ◌++◌}
use Rattle.qm_core.specs.Code.{stuffed}
use Rattle.t85_core.specs.Private.Entity.{CodeEnds}
use Rattle.t85_core.specs.Private.PieceCode.{SkipsSome}
use Rattle.t85_core.proofs.StreamsAreWalked.StripeIsPassed.{skipped_plain, skipped_byte, code_ends}
use Rattle.t85_core.proofs.pieces.code.find.skip_some.Goals as goal

pub code-preserved : goal.code-preserved
code-preserved c =
    let plain = c.skip_plain.ensures.passed in
    let h = rw c.in-Ok-Byte.field-0-is at c.in-Ok-Byte.ensures.ok in
    skipped_byte {b = Some c.skip_plain.new.self.rest.now} {c = Some c.whole_code.new.piece.rest.now} c.in-Ok-Byte.field-0-0
    (skipped_plain {c = Some c.skip_plain.new.self.rest.now} plain.0 c.code.invariant plain.1 plain.2) h.0 h.1

pub returns-in-Ok-Marker-clause-ok : goal.returns-in-Ok-Marker-clause-ok
returns-in-Ok-Marker-clause-ok c =
    let plain = c.skip_plain.ensures.passed in
    let h = rw c.in-Ok-Marker.field-0-is at c.in-Ok-Marker.ensures.ok in
    let p = code_ends {b = Some c.skip_plain.new.self.rest.now} {c = Some c.whole_code.new.piece.rest.now}
    _ (skipped_plain {c = Some c.skip_plain.new.self.rest.now} plain.0 c.code.invariant plain.1 plain.2) h.1 in
    subst (SkipsSome _ _) (sym c.in-Ok-Marker.reset-is) (record { code = p.code; small = p.bytes; taken = p.taken })

pub returns-in-Err-clause-err : goal.returns-in-Err-clause-err
returns-in-Err-clause-err c =
    let plain = c.skip_plain.ensures.passed in
    let p = skipped_plain {c = Some c.skip_plain.new.self.rest.now} plain.0 c.code.invariant plain.1 plain.2 in
    record {
      code = p.code;
      small = p.bytes;
      taken = p.taken ∙ ap (λ z. stuffed p.code ++ z) (sym c.in-Err.ensures.stays);
      ends = subst (λ z. CodeEnds z c.in-Err.fault) (sym c.in-Err.ensures.stays) c.in-Err.ensures.err;
    }
