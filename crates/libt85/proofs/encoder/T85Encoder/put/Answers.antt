use Rattle.std.proofs.Common.{◌∙◌, rules}
use Rattle.libt85.proofs.EncoderTakesRows.{row_taken}
use Rattle.libt85.proofs.encoder.T85Encoder.put.Goals as goal

pub returns-clause-taken : goal.returns-clause-taken
returns-clause-taken c =
    let same = c.put_in.ensures.same_reference in
    let resumed = c.resume-window.ensures in
    row_taken {window = c.resume-window.result} {window' = c.put_in.new.window} c.args.row.now _ c.elsewhere.ensures
    (record { ready = c.requires.ready; long = c.requires.long; place_is = resumed.place; rows_are = resumed.held })
    (record {
      same = c.keep.ensures.same;
      numbers_are = c.keep.ensures.numbers ∙ c.numbers.ensures;
      long = search rules;
      over = record { place_is = search rules; width_is = c.put_in.ensures.window.0 ∙ resumed.width; rows_are = search rules };
    })
    c.requires.row (search (rules, same)) (search rules) c.put_in.ensures.put
