use Rattle.t85_core.proofs.BodiesParse.BodyHasOneHeight.{one_height_of, height_within}
use Rattle.t85_core.proofs.BodiesParse.HeightExists.{some_height_of}
use Rattle.t85_core.proofs.laws.heights.Goals as goal

pub returns-clause-one_height : goal.returns-clause-one_height
returns-clause-one_height c = λ h body one other ok p q. one_height_of body other one ok q p

pub returns-clause-some_height : goal.returns-clause-some_height
returns-clause-some_height c = λ h body ok bytes. some_height_of ok body bytes

pub returns-clause-within : goal.returns-clause-within
returns-clause-within c = λ h body n ok p. height_within body n ok p
