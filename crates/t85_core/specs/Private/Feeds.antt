-- The bytes that are stored, or were not consumed.
use Rattle.std.specs.Prelude.{ℕ, ◌-◌, ◌≡◌, ◌≢◌, ◌≤◌, ◌⊎◌, List, [], ◌++◌, length, take, drop}
use Rattle.t85_core.specs.declared.pieces.Outcome.TheVariants as outcome
use Rattle.t85_core.specs.declared.pieces.Progress.{Progress}

-- A call consumed some of these bytes, the first of which were stored before. The others are stored now, or are left.
pub record Settles (bytes : List ℕ) (count : ℕ) (call told : Progress) (held : List ℕ) : Type 0 where
  pub outcome_is : told.outcome ≡ call.outcome
  pub bound : told.taken ≤ length bytes - count
  pub rest : held ++ drop told.taken (drop count bytes) ≡ drop call.taken bytes
  pub all : call.outcome ≡ outcome.More → told.taken ≡ length bytes - count
  pub earlier : call.outcome ≢ outcome.More → (held ≡ []) ⊎ ((told.taken ≡ 0) × (length held ≤ count))
  pub none : call.taken ≡ 0 → call.outcome ≢ outcome.More → (held ≡ take count bytes) × (told.taken ≡ 0)
