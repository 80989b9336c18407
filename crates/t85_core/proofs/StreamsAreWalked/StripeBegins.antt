-- The start of a stripe: its segments, one after another, and the code.
use Rattle.std.proofs.Common.{inr, nat_eq, ◌≡◌, ◌≤◌, ℕ, List, [], length, refl, arith}
use Rattle.std.specs.Prelude.{◌*◌, ◌/◌, ◌%◌, bit_and, not}
use Rattle.std.proofs.lemmas.Bool.Decides.{nat_tests}
use Rattle.std.proofs.lemmas.Nat.Bits.{and_pow}
use Rattle.qm_core.specs.Code.{IsBytes}
use Rattle.t85_core.specs.Header.{Fields}
use Rattle.t85_core.specs.Grammar.{Segment}
use Rattle.t85_core.specs.Coding.{has_bit}
use Rattle.t85_core.specs.States.State.{StripeStart, first_row_start, stripe_coding}
use Rattle.t85_core.specs.Private.Cut.{BegunRun}
use Rattle.t85_core.specs.States.Cut.{open_stripe}
use Rattle.t85_core.proofs.StreamsDenote.RowsAreBuilt.{bytes_in_start}
use Rattle.t85_core.proofs.BodiesDecode.RunsGrow.{none_decided}

-- ---- a stripe that breaks before a row is decided

pub begun_none : (h : Fields) (count : ℕ) (c : StripeStart) (segments : List Segment) (code : List ℕ) → 1 ≤ h.xd → IsBytes code → length code ≤ 1 → BegunRun (open_stripe h c segments) count code [] []
begun_none h count c segments code some bytes few = record {
  last = first_row_start c;
  run = refl;
  few = omega arith;
  lies = bytes_in_start code bytes;
  enough = tt;
  ends = inr (none_decided (stripe_coding h segments) 0 (first_row_start c) code some few);
}

-- ---- the options by their masks

pub two_line_bit : (n : ℕ) → not (nat_eq (bit_and n 0x40) 0) ≡ has_bit n 6
two_line_bit n = let e : bit_and n 64 ≡ n / 64 % 2 * 64 = and_pow n 6 in grind (arith, nat_tests)

pub typical_bit : (n : ℕ) → not (nat_eq (bit_and n 0x08) 0) ≡ has_bit n 3
typical_bit n = let e : bit_and n 8 ≡ n / 8 % 2 * 8 = and_pow n 3 in grind (arith, nat_tests)

pub variable_bit : (n : ℕ) → not (nat_eq (bit_and n 0x20) 0) ≡ has_bit n 5
variable_bit n = let e : bit_and n 32 ≡ n / 32 % 2 * 32 = and_pow n 5 in grind (arith, nat_tests)
