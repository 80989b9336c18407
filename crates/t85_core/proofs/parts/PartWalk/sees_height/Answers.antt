use Rattle.std.proofs.Common.{◌∙◌, sym}
use Rattle.t85_core.proofs.StreamsAreWalked.PartsAreReturned.{ends_given, ends_fixed, seen}
use Rattle.t85_core.proofs.parts.PartWalk.sees_height.Goals as goal

pub returns-then-is_given : goal.returns-then-is_given
returns-then-is_given c = λ most ss gs p. ends_given p (sym c.is_given.ensures ∙ c.if-is_given.true) most

pub returns-then-not-is_variable : goal.returns-then-not-is_variable
returns-then-not-is_variable c = λ most ss gs p. ends_fixed p (sym c.is_given.ensures ∙ c.if-is_given.false) most (sym c.is_variable.ensures ∙ c.if-not-is_variable.true)

pub returns-in-Ok : goal.returns-in-Ok
returns-in-Ok c = λ most ss gs p.
    let looked = rw c.rest_of.ensures at c.in-Ok.ensures in
    seen p (sym c.is_given.ensures ∙ c.if-is_given.false) most c.if-self.false c.in-Ok.height _ _ c.is_some.ensures looked.found looked.none
