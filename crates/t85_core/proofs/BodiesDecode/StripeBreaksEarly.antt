-- A stripe breaks before its code begins.
use Rattle.std.proofs.Common.{◌≡◌, ◌≤◌, ℕ, true, not, List, [], ◌∷◌, length, Option, refl, ap, arith}
use Rattle.t85_core.specs.declared.fault.Fault.{Fault}
use Rattle.t85_core.specs.declared.fault.Fault.TheVariants.{Truncated}
use Rattle.t85_core.specs.Header.{Fields}
use Rattle.t85_core.specs.Grammar.{is_nil}
use Rattle.t85_core.specs.Refusal.{Spot}
use Rattle.t85_core.specs.Failures.{Ends}
use Rattle.t85_core.specs.Private.Segments.{HeadFault}
use Rattle.t85_core.specs.States.State.{StripeStart}
use Rattle.t85_core.specs.Private.DecodeStripes.{StripeCut, stripe_place}
use Rattle.t85_core.specs.States.Passage.{passage}
use Rattle.t85_core.proofs.StreamsAreWalked.StripeBegins.{begun_none}
use Rattle.t85_core.proofs.BodiesDecode.RowIsPut.{appends_nothing}

-- a code that isn't empty
pub not_nil : (bytes : List ℕ) → 1 ≤ length bytes → not (is_nil bytes) ≡ true
not_nil [] some = absurd (omega (arith, some))
not_nil (b ∷ bytes) some = refl

-- a stripe that breaks before its code begins
pub stripe_head : (h : Fields) (spot : Spot) (c : StripeStart) (old new : Option (List ℕ)) (count : ℕ) (text : Option (List ℕ)) (fault : Fault) → 1 ≤ h.xd →
    Ends Truncated old new (HeadFault h spot) fault → StripeCut h (stripe_place spot c count) (passage old new text text) fault
stripe_head h spot c old new count text fault some ends = record {
  rows = [];
  flags = [];
  ends = record {
    given = ends.given;
    taken = ends.taken;
    has_fault = (
      ends.has_fault.0,
      begun_none h count c ends.has_fault.0.segments ends.has_fault.0.code some ends.has_fault.0.begun.bytes
          (let none = ap length ends.has_fault.1 in omega (arith, none)),
    );
    at_end = ends.at_end;
  };
  appended = appends_nothing text;
}
