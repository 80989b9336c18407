use Rattle.std.proofs.Common.{◌∙◌, rules}
use Rattle.libt85.proofs.EncoderBeginsStream.{stream_begun}
use Rattle.libt85.proofs.encoder.T85Encoder.begin.Goals as goal

pub returns-clause-begun : goal.returns-clause-begun
returns-clause-begun c =
    let started = c.start_in.ensures in
    let same = started.same_reference in
    let over = c.over-window.ensures in
    stream_begun {size = c.args.size} c.args.options.now _ c.elsewhere.ensures
    (record { place_is = started.window.1 ∙ over.first; width_is = started.window.0.0 ∙ over.width; rows_are = search rules })
    (search rules) c.requires.not_low (search (rules, same)) (search rules) started.begun
