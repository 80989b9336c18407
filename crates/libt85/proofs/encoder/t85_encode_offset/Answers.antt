use Rattle.std.proofs.Common.{refl, sym, ap}
use Rattle.std.specs.Prelude.{unwrap_or}
use Rattle.libt85.proofs.encoder.t85_encode_offset.Goals as goal

pub returns-in-Err : goal.returns-in-Err
returns-in-Err c =
    let r = c.in-Err.ensures.ready in
    record {
      status_is = λ window image rows sent k. sym (ap (λ o. unwrap_or o 0) (r.first window image rows sent k));
      ended = r.ended;
      not_begun = r.not_begun;
      refused = λ some. refl;
      named = λ none. absurd (r.some none);
    }
