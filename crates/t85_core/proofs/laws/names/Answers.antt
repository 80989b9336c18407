use Rattle.std.proofs.Common.{◌≡◌, ℕ, suc, Bool, true, false, ◌==◌, refl, ◌∙◌, ap, arith, Option, None, Some}
use Rattle.std.specs.Prelude.{slice_index_or, unwrap_or, option_map, map, if◌then◌else◌}
use Rattle.std.proofs.lemmas.Bool.Decides.{nat_tests}
use Rattle.raster_core.specs.Offset.{chosen_offset}
use Rattle.t85_core.specs.Coding.{rows_of, lines_of}
use Rattle.t85_core.specs.Jbg.{moved_to}
use Rattle.t85_core.proofs.laws.names.Goals as goal

-- a named offset is moved to, or is the current one
taken : (name : Option ℕ) (t current : ℕ) (chosen : Option ℕ) → name ≡ Some t → unwrap_or (moved_to name current chosen) current ≡ t
taken name t current chosen is = ap (λ n. unwrap_or (moved_to n current chosen) current) is ∙ by (t == current) refl where
  by : (b : Bool) → (t == current) ≡ b → unwrap_or (if b then None else Some t) current ≡ t
  by true same = grind (arith, nat_tests)
  by false other = refl

pub returns-clause-rule : goal.returns-clause-rule
returns-clause-rule c = λ s k none. (
  ap (λ names. option_map (λ t. (0, t)) (moved_to (slice_index_or names 0 None) 0 None)) none,
  λ i current. ap (λ names. moved_to (slice_index_or names (suc i) None) current (chosen_offset k.mode.two_line s.most_offset k.raster.width (map (lines_of k) (rows_of k i)) current)) none,
)

pub returns-clause-named : goal.returns-clause-named
returns-clause-named c = λ s k t. (
  λ is. taken _ t 0 None is,
  λ i current is. taken _ t current _ is,
)
