-- The results of a call that end a stream in pieces.
use Rattle.std.specs.Prelude.{ℕ, Option, Some, None}
use Rattle.t85_core.specs.declared.pieces.End.{End}
use Rattle.t85_core.specs.declared.pieces.End.TheVariants as end
use Rattle.t85_core.specs.declared.pieces.Outcome.{Outcome}
use Rattle.t85_core.specs.declared.pieces.Outcome.TheVariants as outcome

-- the end that a result is, if it is one
abbrev pub end_in : Outcome → Option End
end_in outcome.Row = None
end_in outcome.More = None
end_in (outcome.Done height) = Some end.Done
end_in (outcome.Broken fault) = Some (end.Broken fault)

-- the report of an end at this height
abbrev pub end_told : End → ℕ → Outcome
end_told end.Done height = outcome.Done height
end_told (end.Broken fault) height = outcome.Broken fault
