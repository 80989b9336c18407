use Rattle.std.proofs.Common.{◌-◌, length}
use Rattle.t85_core.specs.Parts.{Passed, IsBehind}
use Rattle.libt85.proofs.facts.stream_len.Given as goal

-- the walk is at some position in the stream
abbrev pub invariant-parts : goal.invariant-parts
invariant-parts l = (passed : Passed) × IsBehind l.bytes l.walk passed

abbrev pub decreases-parts : goal.decreases-parts
decreases-parts l = length l.bytes - l.walk.offset
