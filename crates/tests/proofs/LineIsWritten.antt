-- Whether a message is the line about a fault.
use Rattle.std.proofs.Common.{◌≡◌, ◌↔◌, ◌∙◌, ℕ, Bool, false, List, sym, true≢false}
use Rattle.std.specs.Prelude.{IsTrue}
use Rattle.std.specs.Str.{bytes_eq}
use Rattle.std.proofs.lemmas.Slice.Eq.{bytes_eq-Decides}

pub compared : (status : ℕ) (messages shown said line : List ℕ) (b : Bool) → status ≡ 1 → shown ≡ messages → said ≡ line → b ≡ bytes_eq shown said
    → IsTrue b ↔ ((status ≡ 1) × (messages ≡ line))
compared status messages shown said line b one from is result = (
  λ yes. (one, sym from ∙ (bytes_eq-Decides shown said).0 (sym result ∙ yes) ∙ is),
  λ told. result ∙ (bytes_eq-Decides shown said).1 (from ∙ told.1 ∙ sym is),
)

pub no_fault : (status : ℕ) (messages line : List ℕ) (b : Bool) → (status ≡ 1 → ⊥) → b ≡ false → IsTrue b ↔ ((status ≡ 1) × (messages ≡ line))
no_fault status messages line b other result = (
  λ yes. absurd (true≢false (sym yes ∙ result)),
  λ told. absurd (other told.0),
)
