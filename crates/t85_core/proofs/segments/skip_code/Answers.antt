use Rattle.std.proofs.Common.{◌∙◌, refl}
use Rattle.t85_core.proofs.BytesJoin.WalkEnds.{exit}
use Rattle.t85_core.proofs.StreamsAreWalked.StripeIsPassed.{skipped_none, skipped_plain, skipped_byte, code_ends, code_cut}
use Rattle.t85_core.proofs.segments.skip_code.Goals as goal

pub code-init : goal.code-init
code-init g c = record { skipped = skipped_none _; same_source = refl; unfailed = refl }

pub returns-in_err-next_code-clause-err : goal.returns-in_err-next_code-clause-err
returns-in_err-next_code-clause-err g c =
    let plain = c.skip_plain.ensures.passed in
    exit _ _ c.from_residual.ensures.1 (code_cut (skipped_plain plain.0 c.code.invariant.skipped plain.1 plain.2) c.in_err-next_code.ensures.err)

pub returns-in-Marker-clause-ok : goal.returns-in-Marker-clause-ok
returns-in-Marker-clause-ok g c =
    let plain = c.skip_plain.ensures.passed in
    let h = rw c.in-Marker.is at c.in_ok-next_code.ensures.ok in
    code_ends _ (skipped_plain plain.0 c.code.invariant.skipped plain.1 plain.2) h.1

pub code-preserved : goal.code-preserved
code-preserved g c =
    let plain = c.skip_plain.ensures.passed in
    let h = rw c.in-Byte.is at c.in_ok-next_code.ensures.ok in
    record {
      skipped = skipped_byte _ (skipped_plain plain.0 c.code.invariant.skipped plain.1 plain.2) h.0 h.1;
      same_source = c.in_ok-next_code.ensures.reads.same_source ∙ c.skip_plain.ensures.same_source ∙ c.code.invariant.same_source;
      unfailed = c.in_ok-next_code.ensures.reads.counts ∙ c.skip_plain.ensures.unfailed ∙ c.code.invariant.unfailed;
    }
