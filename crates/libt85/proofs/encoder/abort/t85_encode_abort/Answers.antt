use Rattle.std.proofs.Common.{rules, refl}
use Rattle.libt85.proofs.encoder.abort.t85_encode_abort.Goals as goal

pub returns-in-Err : goal.returns-in-Err
returns-in-Err c =
    let idle = c.in-Err.ensures in
    record {
      status_is = λ window image rows sent k. absurd (idle.none window image rows sent k);
      was_ended = idle.ended;
      not_begun = idle.not_begun;
      same = λ some. refl;
      nothing = λ some. refl;
      kept = λ some. refl;
      marker = λ none. absurd (idle.some none);
      written = λ none. absurd (idle.some none);
      within = search rules;
      ended = λ none. absurd (idle.some none);
    }
