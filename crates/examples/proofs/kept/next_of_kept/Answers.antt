use Rattle.std.proofs.Common.{◌∙◌, refl, rules}
use Rattle.examples.proofs.NumbersAreKept.{kept_call}
use Rattle.examples.proofs.kept.next_of_kept.Goals as goal

pub returns-clause-on : goal.returns-clause-on
returns-clause-on c =
    kept_call {d = c.in_ok-decoder.decoder} {d' = c.feed-progress.new.self} {window = c.resume-window.result} {window' = c.feed-progress.new.window}
    (record { header_is = c.in_ok-decoder.ensures.is.0; rows_are = c.resume-window.ensures.held; resumes = c.in_ok-decoder.ensures.resumes })
    (record {
      numbers = c.numbers.ensures.are;
      place = c.place.ensures.place;
      wide = c.feed-progress.ensures.window.0
          ∙ c.resume-window.ensures.width;
      memory = search rules;
    }) refl c.feed-progress.ensures.feed
