-- Contexts from lanes are those of the coordinates.
use Rattle.std.proofs.Common.{◌≡◌, ℕ, ◌+◌, ◌*◌, ◌/◌, ◌%◌, ◌^◌, ◌<◌, ◌≤◌, false, sym, arith, subst, refl}
use Rattle.qm_core.specs.declared.source.Pulled.{Pulled}
use Rattle.qm_core.specs.Decoder.{DecoderState}
use Rattle.raster_core.specs.Lines.{Lines, context_at}
use Rattle.raster_core.specs.Machine.Registers.{AreAt}
use Rattle.raster_core.specs.Machine.Lanes.{lane, around, HasAround}
use Rattle.raster_core.specs.declared.place.Pause.{Pause}
use Rattle.raster_core.specs.Machine.Decoded.{ByteAround}
use Rattle.raster_core.specs.Machine.DecodedLanes.{LanesAround, AreLanesOf, AlongMore, StopsMore, lanes_around}
use Rattle.raster_core.proofs.RegistersGiveContexts.{three_line_nominal}
use Rattle.raster_core.proofs.TablesFillLanes.{later_lane}

-- the context of a pixel

parts : (lanes s a : ℕ) → s < 8 → a < 32 → lanes / 1 % 2 ^ 16 ≡ s * 128 + a * 4 → lanes % 0x400 / 4 * 4 ≡ s * 128 + a * 4
parts lanes s a hs ha h = omega arith

pub lane_context : (b : ByteAround) (lanes n past cx : ℕ) → AreLanesOf lanes b n 1 → cx ≡ lanes % 0x400 / 4 * 4 + past % 4 →
    (lines : Lines) (x : ℕ) → AreAt lines b.offset (b.second / 2 ^ 7 * 2 ^ n) (b.above / 2 ^ 6 * 2 ^ n) past x → cx ≡ context_at b.mode lines b.offset x
lane_context b lanes n past cx has cx_is lines x r =
    let z : n + 0 ≡ n = omega arith in
    let here : lane lanes 0 ≡ around b.second b.above n = rw (has.around_is 0 (omega arith), z) refl in
    let p = parts lanes (b.second / 2 ^ 7 * 2 ^ n / 2 ^ 7 % 8) (b.above / 2 ^ 6 * 2 ^ n / 2 ^ 7 % 32) (omega arith) (omega arith) here in
    let e : cx ≡ context_at (record { two_line = false; typical = b.mode.typical }) lines 0 x =
    rw (cx_is, p) (three_line_nominal (subst (λ o. AreAt lines o (b.second / 2 ^ 7 * 2 ^ n) (b.above / 2 ^ 6 * 2 ^ n) past x) has.nominal r)) in
    rw (has.nominal) (subst (λ t. cx ≡ context_at (record { two_line = t; typical = b.mode.typical }) lines 0 x) (sym has.three_line) e)

-- pixels after pixels

first_lanes : {lanes : ℕ} {b : ByteAround} {n : ℕ} (i : ℕ) {k : ℕ} → i ≤ k → AreLanesOf lanes b n k → AreLanesOf lanes b n i
first_lanes i less h = record { three_line = h.three_line; nominal = h.nominal; within = let w = h.within in omega arith; around_is = λ j few. h.around_is j (omega arith) }

later_lanes : {lanes : ℕ} {b : ByteAround} {n : ℕ} (i k : ℕ) → AreLanesOf lanes b n (i + k) → AreLanesOf (lanes / 2 ^ (16 * i)) b (n + i) k
later_lanes {n = n} i k h = record {
  three_line = h.three_line;
  nominal = h.nominal;
  within = let w = h.within in omega arith;
  around_is = λ j few.
      let e : n + (i + j) ≡ (n + i) + j = omega arith in
      rw (later_lane, h.around_is (i + j) (omega arith), e) refl;
}

pub more_then : {S : Type 0} {pull : S → Pulled → S → Type 0} {lanes p n i p' k p'' : ℕ} {old mid to : DecoderState S} →
    AlongMore pull (lanes_around lanes p n) old i p' mid → AlongMore pull (lanes_around (lanes / 2 ^ (16 * i)) p' (n + i)) mid k p'' to → AlongMore pull (lanes_around lanes p n) old (i + k) p'' to
more_then {n = n} {i} {k = k} first then = record {
  any = λ b from has so_far.
      let e : (n + i) + k ≡ n + (i + k) = omega arith in
      rw (← e) (then.any b from (later_lanes i k has) (first.any b from (first_lanes i (omega arith) has) so_far));
}

pub stops_first : {S : Type 0} {pull : S → Pulled → S → Type 0} {a : LanesAround} {old to : DecoderState S} {i k : ℕ} {pause : Pause} → i ≤ k → StopsMore pull a old i pause to →
    StopsMore pull a old k pause to
stops_first {i = i} less stops = record { any = λ b from has so_far. stops.any b from (first_lanes i less has) so_far }

pub stops_then : {S : Type 0} {pull : S → Pulled → S → Type 0} {lanes p n i p' k : ℕ} {old mid to : DecoderState S} {pause : Pause} →
    AlongMore pull (lanes_around lanes p n) old i p' mid → StopsMore pull (lanes_around (lanes / 2 ^ (16 * i)) p' (n + i)) mid k pause to → StopsMore pull (lanes_around lanes p n) old (i + k) pause to
stops_then {i = i} {k = k} first then = record {
  any = λ b from has so_far. then.any b from (later_lanes i k has) (first.any b from (first_lanes i (omega arith) has) so_far);
}

-- pixels of a byte

pub are_first : {lanes : ℕ} {b : ByteAround} → b.mode.two_line ≡ false → b.offset ≡ 0 → HasAround lanes b.second b.above 0 4 → AreLanesOf lanes b 0 4
are_first three nominal has = record { three_line = three; nominal = nominal; within = omega arith; around_is = has }

pub are_last : {lanes : ℕ} {b : ByteAround} → b.mode.two_line ≡ false → b.offset ≡ 0 → HasAround lanes b.second b.above 4 4 → AreLanesOf lanes b 4 4
are_last three nominal has = record { three_line = three; nominal = nominal; within = omega arith; around_is = has }
