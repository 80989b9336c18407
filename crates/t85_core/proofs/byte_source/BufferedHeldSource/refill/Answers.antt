use Rattle.std.proofs.Common.{◌∙◌, refl, arith}
use Rattle.t85_core.proofs.BytesJoin.InputHoldsBytes.{end_beyond, given_up, known_beyond, none_came}
use Rattle.t85_core.proofs.byte_source.BufferedHeldSource.refill.Goals as goal

pub returns-in-Ok-eq0 : goal.returns-in-Ok-eq0
returns-in-Ok-eq0 g c =
    let none = c.in-Ok-eq0.field-0-test in
    let filled = c.in-Ok-eq0.ensures in
    let kept = c.keep.ensures in
    let drained = known_beyond _ _ kept.within in
    record {
      ok = tt;
      err = record {
        given = _;
        taken = given_up _ _ _ _ _ c.fill.ensures.bytes (λ front back is long. (kept.taken front back is long).1) (none_came _ _ none filled.held);
        has_fault = (refl, refl);
        at_end = λ _. rw (drained, kept.beyond) (end_beyond _ _ (filled.at_end none (omega (arith, c.requires))));
      };
      lowers = tt;
      reads = record { drained = λ _. drained; counts = kept.unfailed ∙ filled.failures; same_source = kept.same_source ∙ c.fill.ensures.same_source };
    }

pub returns-in-Err : goal.returns-in-Err
returns-in-Err g c =
    let kept = c.keep-in-Err.ensures in
    let filled = c.in-Err.ensures in
    record {
      ok = tt;
      err = record {
        given = _;
        taken = given_up _ _ _ _ _ c.fill.ensures.bytes (λ front back is long. (kept.taken front back is long).1) filled.held;
        has_fault = (refl, refl);
        at_end = λ e. absurd (let bot : ⊥ = cc in bot);
      };
      lowers = tt;
      reads = record { drained = λ _. known_beyond _ _ kept.within; counts = kept.unfailed ∙ filled.failures; same_source = kept.same_source ∙ c.fill.ensures.same_source };
    }
