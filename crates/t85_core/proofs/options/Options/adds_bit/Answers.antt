use Rattle.std.proofs.Common.{◌≡◌, ◌&&◌, ◌∙◌, sym, ap, refl, Bool, true, false, not}
use Rattle.t85_core.specs.Coding.{has_bit}
use Rattle.t85_core.proofs.StreamsAreWalked.StripeBegins.{variable_bit}
use Rattle.t85_core.proofs.options.Options.adds_bit.Goals as goal

twice : (t : Bool) → t ≡ not (not t)
twice true = refl
twice false = refl

pub returns-then-is_some : goal.returns-then-is_some
returns-then-is_some c =
    let o = c.args.self.now.options in
    let set = sym c.if-is_some.true ∙ c.is_some.ensures in
    twice _ ∙ ap not (variable_bit o) ∙ ap (λ a. a && not (has_bit o 5)) set
