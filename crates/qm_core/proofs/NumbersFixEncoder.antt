-- Encoders with the same numbers are equal, and each is at some coding interval.
use Rattle.std.proofs.Common.{◌≡◌, ◌≢◌, ℕ, false, ◌+◌, ◌*◌, ◌/◌, ◌^◌, ◌-◌, ◌≤◌, ◌<◌, ◌%◌, Option, Some, None, List, [], ◌++◌, length, refl, ap, sym, ◌∙◌, arith}
use Rattle.std.specs.Prelude.{is_some}
use Rattle.std.specs.Option.{unwrap_or}
use Rattle.std.specs.Coded.{le_prop}
use Rattle.std.proofs.Props.{props}
use Rattle.std.proofs.lemmas.Bool.Decides.{nat_tests}
use Rattle.std.proofs.lemmas.Nat.{pow-add}
use Rattle.std.proofs.Math.Nat.{mul_assoc, mul_comm}
use mathlib.Core.HLevel.{is_prop→PathP}
use Rattle.qm_core.specs.Place.{Place}
use Rattle.qm_core.specs.Code.{number}
use Rattle.qm_core.specs.Machine.{run_bytes}
use Rattle.qm_core.specs.Encoder.{has_failed, encoder_registers, EncoderIsAt, EncoderStands}
use Rattle.qm_core.specs.declared.batch.Tail.{Tail}
use Rattle.qm_core.specs.declared.encoder.Encoder.{Encoder}
use Rattle.qm_core.proofs.CodeIsEnded.{is_place}

same_held : (g h : Option ℕ) → is_some g ≡ is_some h → unwrap_or g 0 ≡ unwrap_or h 0 → g ≡ h
same_held None None s e = refl
same_held None (Some y) s e = cc
same_held (Some x) None s e = cc
same_held (Some x) (Some y) s e = ap Some e

alike_tails : (t u : Tail) → t.zeros ≡ u.zeros → t.held ≡ u.held → t.ones ≡ u.ones → t ≡ u
alike_tails t u zeros held ones =
    λ i. record {
      zeros = zeros i;
      held = held i;
      ones = ones i;
      raisable = is_prop→PathP (λ j. (x : ℕ) → held j ≡ Some x → x < 255) (λ j. hlevel props) t.raisable u.raisable i;
    }

alike_encoders : (e f : Encoder) → e.low ≡ f.low → e.span ≡ f.span → e.bits ≡ f.bits → e.tail ≡ f.tail → e.events ≡ f.events → e.floor ≡ f.floor → e ≡ f
alike_encoders e f low span bits tail events floor =
    λ i. record {
      low = low i;
      span = span i;
      bits = bits i;
      tail = tail i;
      events = events i;
      floor = floor i;
      large = is_prop→PathP (λ j. 0x40_0000 ≤ span j) (λ j. le_prop) e.large f.large i;
      small = is_prop→PathP (λ j. span j ≤ 0x80_0000) (λ j. le_prop) e.small f.small i;
      whole = is_prop→PathP (λ j. span j % 128 ≡ 0) (λ j. hlevel props) e.whole f.whole i;
      least = is_prop→PathP (λ j. 16 ≤ bits j) (λ j. le_prop) e.least f.least i;
      most = is_prop→PathP (λ j. bits j ≤ 39) (λ j. le_prop) e.most f.most i;
      room = is_prop→PathP (λ j. low j + span j ≤ 2 ^ (bits j + 8)) (λ j. le_prop) e.room f.room i;
      fixed = is_prop→PathP (λ j. (tail j).held ≡ None → low j + span j ≤ 2 ^ (bits j + 7)) (λ j. hlevel props) e.fixed f.fixed i;
      count = is_prop→PathP (λ j. 8 * ((tail j).zeros + (tail j).ones) + bits j ≤ 16 * events j + 16) (λ j. le_prop) e.count f.count i;
      few = is_prop→PathP (λ j. events j ≤ 2 ^ 56) (λ j. le_prop) e.few f.few i;
      going = is_prop→PathP (λ j. floor j ≢ 0x8000_0000 → floor j ≡ 0x40_0000) (λ j. hlevel props) e.going f.going i;
    }

-- of two encoders that have not failed
pub one_encoder : (e f : Encoder) → has_failed e ≡ false → has_failed f ≡ false → encoder_registers e ≡ encoder_registers f → e ≡ f
one_encoder e f s t r =
    let held = same_held e.tail.held f.tail.held (ap (λ n. n.has_held) r) (ap (λ n. n.held) r) in
    let tail = alike_tails e.tail f.tail (ap (λ n. n.zeros) r) held (ap (λ n. n.ones) r) in
    alike_encoders e f (ap (λ n. n.low) r) (ap (λ n. n.span) r) (ap (λ n. n.bits) r) tail (ap (λ n. n.events) r) (grind (arith, nat_tests))

scaled : (n bits : ℕ) → n * 2 ^ (bits + 7) ≡ 128 * (n * 2 ^ bits)
scaled n bits = ap (λ u. n * u) (pow-add 2 bits 7) ∙ (sym (mul_assoc n (2 ^ bits) 128) ∙ mul_comm (n * 2 ^ bits) 128)

pub whole_low : (e : Encoder) (p : Place) (pushed : List ℕ) → EncoderIsAt e p pushed → e.low % 128 ≡ 0
whole_low e p pushed at =
    let digits = at.front ++ run_bytes e.tail.zeros e.tail.held e.tail.ones in
    omega (arith, scaled (number digits) e.bits, at.digits.value)

-- with the bytes that it holds back and no other before them
pub stands : (e : Encoder) → e.low % 128 ≡ 0 → EncoderStands e
stands e low =
    let run = run_bytes e.tail.zeros e.tail.held e.tail.ones in
    let p : Place = record { low = number run * 2 ^ e.bits + e.low / 128; size = e.span / 128; doublings = 8 * length run + e.bits - 16 } in
    let codes : EncoderIsAt e p [] = record {
      front = [];
      is = refl;
      bytes = tt;
      trimmed = tt;
      digits = record {
        size = omega (arith, e.whole);
        count = omega (arith, e.least);
        value = omega (arith, scaled (number run) e.bits, low);
      };
    } in
    record { place = p; is_place = is_place e codes; pushed = []; codes = codes }
