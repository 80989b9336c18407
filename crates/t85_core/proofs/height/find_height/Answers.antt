use Rattle.std.proofs.Common.{rules, ◌∙◌, Err, ap, sym}
use Rattle.t85_core.specs.Options.{fields_of}
use Rattle.t85_core.proofs.BytesJoin.InputHoldsBytes.{known_unheld}
use Rattle.t85_core.proofs.StreamsAreWalked.HeightIsFound.{accepted}
use Rattle.t85_core.proofs.StreamsAreWalked.HeightSearchEnds.{headers_height, changes, fixed_height, height_given, height_broken, height_unread}
use Rattle.t85_core.proofs.height.find_height.Goals as goal

pub returns-then-not-is_variable : goal.returns-then-not-is_variable
returns-then-not-is_variable g c = fixed_height (accepted c.args.header.now) _ _ (sym c.is_variable.ensures ∙ c.if-not-is_variable.true)

pub returns-in-Some : goal.returns-in-Some
returns-in-Some g c =
    let stream = c.new-stream.result in
    let start = known_unheld stream.bytes (g.R.Input.view stream.input.now).remaining c.new-stream.ensures.empty ∙ ap (λ m. (g.R.Input.view m.now).remaining) c.new-stream.ensures.lent in
    height_given (accepted c.args.header.now) (rw (start, c.in-Some.is) at c.in-Ok.ensures.ok) (search rules)

pub returns-in-None : goal.returns-in-None
returns-in-None g c =
    let stream = c.new-stream.result in
    let start = known_unheld stream.bytes (g.R.Input.view stream.input.now).remaining c.new-stream.ensures.empty ∙ ap (λ m. (g.R.Input.view m.now).remaining) c.new-stream.ensures.lent in
    let found = rw (start, c.in-None.is) at c.in-Ok.ensures.ok in
    headers_height (accepted c.args.header.now) found.height_is (search rules)
    (changes (fields_of c.args.header.now) (sym c.is_variable.ensures ∙ c.if-not-is_variable.false))

pub returns-in-Read : goal.returns-in-Read
returns-in-Read g c =
    let stream = c.new-stream.result in
    let start = known_unheld stream.bytes (g.R.Input.view stream.input.now).remaining c.new-stream.ensures.empty ∙ ap (λ m. (g.R.Input.view m.now).remaining) c.new-stream.ensures.lent in
    height_unread (accepted c.args.header.now) _ c.in-Err.fault (sym c.is_variable.ensures ∙ c.if-not-is_variable.false) c.in-Read.is
    ((rw start at c.in-Err.ensures.unread) (ap Err c.in-Read.is))
    (c.in-Err.ensures.reads.drained (ap Err c.in-Read.is) ∙ ap (λ d. (g.R.Input.view d).remaining) (search rules)) (search rules)

pub returns-in_default : goal.returns-in_default
returns-in_default g c =
    let stream = c.new-stream.result in
    let start = known_unheld stream.bytes (g.R.Input.view stream.input.now).remaining c.new-stream.ensures.empty ∙ ap (λ m. (g.R.Input.view m.now).remaining) c.new-stream.ensures.lent in
    height_broken (accepted c.args.header.now) ((rw start at c.in-Err.ensures.err) c.in_default.not-Read) c.in_default.not-Read
    (search rules) (sym c.is_variable.ensures ∙ c.if-not-is_variable.false)
