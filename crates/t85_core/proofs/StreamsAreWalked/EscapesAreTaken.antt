-- The item that one step of the walk over a stripe passes, or why it stops.
use Rattle.std.proofs.Common.{◌≡◌, ◌≢◌, ℕ, true, false, List, [], ◌∷◌, Option, Some, arith}
use Rattle.std.specs.Io.KnownBytes.{Consumes}
use Rattle.std.proofs.lemmas.Bool.Decides.{nat_tests}
use Rattle.t85_core.specs.Header.{Fields}
use Rattle.t85_core.specs.declared.fault.Fault.TheVariants.{BadEscape}
use Rattle.t85_core.specs.Refusal.{Spot, rest_fault}
use Rattle.t85_core.proofs.BytesJoin.CallsJoin.{Consumes-more}

-- FF and a byte were skipped
pub escape_taken : (a b c : Option (List ℕ)) (first escape : ℕ) → Consumes a b (first ∷ []) → first ≡ 255 → Consumes b c (escape ∷ []) → Consumes a c (255 ∷ escape ∷ [])
escape_taken a b c first escape p e q = Consumes-more a b c (255 ∷ []) (escape ∷ []) (rw e at p) q

-- neither a stuffed byte, nor an end marker, nor ABORT
abbrev pub EndsNoCode : ℕ → Type 0
EndsNoCode escape = (escape ≢ 0) × (escape ≢ 2) × (escape ≢ 3) × (escape ≢ 4)

-- a byte that no line of the table of escapes knows
pub unknown_escape : (h : Fields) (spot : Spot) (moves escape : ℕ) (bytes : List ℕ) → EndsNoCode escape → (escape ≢ 5) × (escape ≢ 6) × (escape ≢ 7) →
    rest_fault h spot moves false (255 ∷ escape ∷ bytes) ≡ Some BadEscape
unknown_escape h spot moves escape bytes (n0, n2, n3, n4) (n5, n6, n7) = grind (arith, nat_tests)

-- none of the escapes of a code
pub escape_in_code : (h : Fields) (spot : Spot) (moves escape : ℕ) (bytes : List ℕ) → EndsNoCode escape → rest_fault h spot moves true (255 ∷ escape ∷ bytes) ≡ Some BadEscape
escape_in_code h spot moves escape bytes (n0, n2, n3, n4) = grind (arith, nat_tests)
