-- An empty stripe data entity that comes first.
use Rattle.std.proofs.Common.{◌≡◌, ◌≤◌, ◌∙◌, ℕ, Bool, List, ◌++◌, length, length-append, ap, refl, inl, inr, arith}
use Rattle.t85_core.specs.Grammar.{marker_bytes}
use Rattle.libt85.specs.DecoderRest.{HasEntity, LacksEntity}

too_few : (bytes : List ℕ) → 2 ≤ length bytes → LacksEntity bytes → ⊥
too_few bytes long (inl e) = let none : length bytes ≡ 0 = ap length e in omega (arith, none, long)
too_few bytes long (inr e) = let one : length bytes ≡ 1 = ap length e in omega (arith, one, long)

long_enough : (bytes rest : List ℕ) (reset : Bool) → bytes ≡ marker_bytes reset ++ rest → 2 ≤ length bytes
long_enough bytes rest reset is = let long = ap length is ∙ length-append (marker_bytes reset) rest in omega (arith, long)

pub has_entity : (bytes : List ℕ) (reset : Bool) → (rest : List ℕ) × (bytes ≡ marker_bytes reset ++ rest) → HasEntity bytes 2
has_entity bytes reset is = record {
  tail = marker_bytes reset;
  rest = is.0;
  bytes_are = is.1;
  tail_is = inl (reset, refl);
  known = too_few bytes (long_enough bytes is.0 reset is.1);
  len_is = refl;
}
