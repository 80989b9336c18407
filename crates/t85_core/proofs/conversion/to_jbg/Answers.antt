use Rattle.std.proofs.Common.{rules, ◌∙◌, ap}
use Rattle.devices.specs.Buffered.{bytes_between}
use Rattle.t85_core.proofs.BytesJoin.InputHoldsBytes.{known_unheld}
use Rattle.t85_core.proofs.ImagesEncode.BufferReadsAhead.{read_ahead}
use Rattle.t85_core.proofs.conversion.to_jbg.Goals as goal

pub returns-clause-outcome : goal.returns-clause-outcome
returns-clause-outcome g c =
    let source = c.new-source.result in
    let last = c.to_jbg_from.new.input in
    let known = known_unheld source.bytes (g.R.Input.view source.input.now).remaining c.new-source.ensures.empty ∙ ap (λ m. (g.R.Input.view m.now).remaining) c.new-source.ensures.lent in
    let same = c.to_jbg_from.ensures.same_input.same_source in
    read_ahead (λ d. (g.R.Input.view d).remaining) (λ d. (g.R.Input.view d).failures) (bytes_between last.bytes last.at last.end) c.args.input.now
    known (ap (λ m. (g.R.Input.view m.now).failures) c.new-source.ensures.lent) (search (rules, same)) c.to_jbg_from.ensures.same_input.drained c.to_jbg_from.ensures.outcome
