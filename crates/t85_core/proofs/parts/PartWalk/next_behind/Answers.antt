use Rattle.std.proofs.Common.{refl, subst}
use Rattle.t85_core.specs.Options.{fields_of}
use Rattle.t85_core.specs.Private.PartSteps.{SeesHeight}
use Rattle.t85_core.proofs.StreamsAreWalked.PartsAreReturned.{before_of, whole_there}
use Rattle.t85_core.proofs.parts.PartWalk.next_behind.Goals as goal

pub returns-then-sees_height-clause-told : goal.returns-then-sees_height-clause-told
returns-then-sees_height-clause-told c = before_of (fields_of c.args.header.now) _ _ _ _ (subst (SeesHeight _ _ _) c.if-sees_height.true c.sees_height.ensures) c.next_before_height.ensures.told

pub returns-else-sees_height-clause-told : goal.returns-else-sees_height-clause-told
returns-else-sees_height-clause-told c =
    λ most ss gs p. (whole_there p c.tail_len.result ((subst (SeesHeight _ _ _) c.if-sees_height.false c.sees_height.ensures) most ss gs p) c.tail_len.ensures.is, refl)
