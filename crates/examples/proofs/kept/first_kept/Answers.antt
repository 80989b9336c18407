use Rattle.std.proofs.Common.{◌∙◌, rules}
use Rattle.examples.proofs.NumbersAreKept.{kept_first}
use Rattle.examples.proofs.kept.first_kept.Goals as goal

pub returns-clause-kept : goal.returns-clause-kept
returns-clause-kept c =
    kept_first {d = c.start-decoder.result} {window = c.start-decoder.new.window}
    (record { numbers = c.numbers.ensures.are; place = c.place.ensures.place; wide = c.start-decoder.ensures.window.0 ∙ c.over-window.ensures.width; memory = search rules })
    c.start-decoder.ensures.stream c.none.ensures c.start-decoder.ensures.none
