use Rattle.std.proofs.Common.{◌∙◌, rules}
use Rattle.libt85.proofs.DecoderHoldsRows.{rows_entered}
use Rattle.libt85.proofs.decoder.T85Decoder.enter_rows.Goals as goal

pub returns-clause-has : goal.returns-clause-has
returns-clause-has c = λ stream out.
    let started = c.start-decoder.ensures in
    rows_entered {e = c.start-decoder.result} {window = c.start-decoder.new.window} c.requires.next
    (record {
      version_is = search rules;
      next_is = search rules;
      place_to = search rules;
      header_is = started.stream;
      header_of = rw c.hold.ensures.same.header c.requires.may.header_of;
      long = search rules;
      over = record { place_is = search rules; width_is = started.window.0 ∙ c.over-window.ensures.width; rows_are = search rules };
      learned_is = search rules;
    })
    (search rules) started.none (search rules) (search rules)
