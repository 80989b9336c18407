-- An image that is read by a buffer, and what its reader then has left.
use Rattle.std.proofs.Common.{◌≡◌, ◌⊎◌, inl, inr, ℕ, Bool, List, [], Option, Result, sym, ap, ◌∙◌}
use Rattle.std.specs.Io.KnownBytes.{prepend_known}
use Rattle.t85_core.specs.declared.fault.Fault.{Fault}
use Rattle.t85_core.specs.Change.{Change, between}
use Rattle.t85_core.specs.Jbg.{Settings}
use Rattle.t85_core.specs.ToJbg.{ToJbg, ToJbgAhead}

-- the reader before its loan, and at the loan's end
pub read_ahead : {R : Type 0} {s : Settings} {output : Change} {flushed : Bool} {reader reader' : R} {known : Option (List ℕ)} {count : ℕ} {r : Result (Unit {0}) Fault} (remaining : R →
    Option (List ℕ))
    (failures : R → ℕ) (held : List ℕ) (start : R) → known ≡ remaining start → count ≡ failures start → reader ≡ reader' → (failures reader ≡ count) ⊎ (held ≡ []) →
    ToJbg s (between known (prepend_known held (remaining reader)) count (failures reader)) output flushed r →
    ToJbgAhead s (between (remaining start) (remaining reader') (failures start) (failures reader')) output flushed r
read_ahead {R} {s} {output} {flushed} {reader} {reader'} {known} {count} {r} remaining failures held start same_known same_count same drained leaves = record {
  ahead = held;
  leaves = rw (← same, ← same_known, ← same_count) leaves;
  none_unread = went drained;
} where
  went : (failures reader ≡ count) ⊎ (held ≡ []) → (failures reader' ≡ failures start) ⊎ (held ≡ [])
  went (inl e) = inl (sym (ap failures same) ∙ e ∙ same_count)
  went (inr none) = inr none
