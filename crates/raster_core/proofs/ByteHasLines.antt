-- The lines that a byte is read from, and its events.
use Rattle.std.proofs.Common.{◌≡◌, ℕ, zero, suc, ◌+◌, ◌-◌, ◌*◌, ◌/◌, ◌%◌, ◌^◌, ◌<◌, ◌≤◌, Bool, false, List, [], ◌∷◌, ◌++◌, length, refl, sym, ◌∙◌, ap, arith, subst, nat_eq}
use Rattle.std.proofs.Math.Nat.{pow-suc, mod-eq_of_lt, div-div-eq-div-mul}
use Rattle.std.proofs.Math.Seq.{get_or-append_seam}
use Rattle.std.proofs.lemmas.Nat.{mod-pow-add}
use Rattle.std.proofs.lemmas.List.{length-append}
use Rattle.raster_core.specs.Raster.{pixel_at}
use Rattle.raster_core.specs.Lines.{Lines, context_at}
use Rattle.raster_core.specs.Machine.Registers.{bit, before, past_bits, AreAt, ByteAt}
use Rattle.raster_core.specs.Machine.Lanes.{near, own, HasPixels, AreBeside}
use Rattle.raster_core.specs.Machine.Bytes.{bits, byte_lines, events_from, lane_events, IsMadeFor}
use Rattle.raster_core.specs.declared.row_byte.RowByte.{RowByte}
use Rattle.raster_core.proofs.PixelNumbersSplit.{before_suc, before_zero}
use Rattle.raster_core.proofs.ContextsLookBack.{before_front}
use Rattle.raster_core.proofs.ByteHoldsPixels.{at_registers, pixel_in, byte_shifted, bit_test, past_on}
use Rattle.raster_core.proofs.EventListsJoin.{context_by, event_is, events_none, events_first, events_append, events_last}
use Rattle.raster_core.proofs.TablesFillLanes.{later_lane}
use Rattle.raster_core.proofs.LanesGivePixels.{lane_pixel, pixels_context}

-- ---- the bits of a number

bits_suc : (n v : ℕ) → bits (suc n) v ≡ bits n (v / 2) ++ nat_eq (v % 2) 1 ∷ []
unfolding bits
bits_suc n v = refl

pub length-bits : (n v : ℕ) → length (bits n v) ≡ n
unfolding bits
length-bits zero v = refl
length-bits (suc n) v =
    let e : n + 1 ≡ suc n = omega arith in
    rw (length-append (bits n (v / 2)) (nat_eq (v % 2) 1 ∷ []), length-bits n (v / 2)) e

bit_nat : (m : ℕ) → m < 2 → bit (nat_eq m 1) ≡ m
bit_nat zero h = refl
bit_nat (suc zero) h = refl
bit_nat (suc (suc m)) h = absurd (omega arith)

pub bits_before : (n k v : ℕ) → k ≤ n → before (bits n v) n k ≡ v % 2 ^ k
bits_before n zero v h = before_zero (bits n v) n ∙ (let e : 0 ≡ v % 2 ^ 0 = omega arith in e)
bits_before zero (suc k) v h = absurd (omega arith)
bits_before (suc n) (suc k) v h =
    let front : List Bool = bits n (v / 2) in
    let last : Bool = nat_eq (v % 2) 1 in
    let long = length-bits n (v / 2) in
    let seam = subst (λ z. pixel_at (front ++ last ∷ []) z ≡ last) long (get_or-append_seam front last [] false) in
    let rest : before (front ++ last ∷ []) n k ≡ v / 2 % 2 ^ k = before_front front (last ∷ []) n k (omega arith) ∙ bits_before n k (v / 2) (omega arith) in
    let own = bit_nat (v % 2) (omega arith) in
    let e : k + 1 ≡ suc k = omega arith in
    let parts : v % 2 ^ suc k ≡ (v / 2 ^ 1 % 2 ^ k) * 2 ^ 1 + v % 2 ^ 1 = rw (← e) (mod-pow-add v k 1) in
    ap (λ row. before row (suc n) (suc k)) (bits_suc n v)
    ∙ (before_suc (front ++ last ∷ []) n k ∙ (rw (rest, seam, own) (omega arith)))

pub bits_early : (n m k v : ℕ) → before (bits (n + m) v) n k ≡ before (bits n (v / 2 ^ m)) n k
bits_early n zero k v =
    let a : n + 0 ≡ n = omega arith in
    let b : v ≡ v / 2 ^ 0 = omega arith in
    ap (λ z. before (bits z v) n k) a ∙ ap (λ z. before (bits n z) n k) b
bits_early n (suc m) k v =
    let a : n + suc m ≡ suc (n + m) = omega arith in
    let long = length-bits (n + m) (v / 2) in
    rw (a, bits_suc (n + m) v, before_front (bits (n + m) (v / 2)) (nat_eq (v % 2) 1 ∷ []) n k (omega arith), bits_early n m k (v / 2), div-div-eq-div-mul v 2 (2 ^ m), two_times m) refl
  where
    two_times : (m : ℕ) → 2 * 2 ^ m ≡ 2 ^ suc m
    two_times m = let p = pow-suc 2 m in omega arith

-- ---- what a byte is read from

most_past : (offset : ℕ) → past_bits offset ≤ 128
most_past zero = omega arith
most_past (suc t) = omega arith

pub holds : (b : RowByte) → b.byte < 256 → ByteAt (byte_lines b) b.around.second b.around.above b.byte 128
unfolding byte_lines
holds b small = record {
  second_is = sym (bits_before 144 24 b.around.second (omega arith) ∙ mod-eq_of_lt b.around.second_fits);
  above_is = sym (bits_before 144 24 b.around.above (omega arith) ∙ mod-eq_of_lt b.around.above_fits);
  byte_is = sym (bits_before 136 8 (b.around.past * 256 + b.byte) (omega arith) ∙ own);
}
  where
    own : (b.around.past * 256 + b.byte) % 2 ^ 8 ≡ b.byte
    own = omega arith

pub holds_past : (b : RowByte) → b.byte < 256 → b.around.past ≡ before (byte_lines b).row 128 (past_bits b.around.template.offset)
unfolding byte_lines
holds_past b small =
    let w : ℕ = past_bits b.around.template.offset in
    sym (rw (bits_early 128 8 w (b.around.past * 256 + b.byte), own, bits_before 128 w b.around.past (most_past b.around.template.offset)) (mod-eq_of_lt b.around.past_fits))
  where
    own : (b.around.past * 256 + b.byte) / 2 ^ 8 ≡ b.around.past
    own = omega arith

-- a pixel of the byte
pub pixel_of_byte : (b : RowByte) (j : ℕ) → b.byte < 256 → j < 8 → nat_eq (b.byte * 2 ^ j / 2 ^ 7 % 2) 1 ≡ pixel_at (byte_lines b).row (128 + j)
pixel_of_byte b j small few =
    let held = holds b small in
    bit_test _ _ (rw (byte_shifted b.byte j few) (pixel_in (byte_lines b).row 128 j held.byte_is few))

-- ---- four pixels at once

has_later : (lanes : ℕ) (beside : ℕ → ℕ) (row n k : ℕ) → HasPixels lanes beside row n (suc k) → HasPixels (lanes / 2 ^ 16) beside row (n + 1) k
has_later lanes beside row n k has = λ j few.
    let e : n + (1 + j) ≡ (n + 1) + j = omega arith in
    rw (later_lane lanes 1 j, has (1 + j) (omega arith), e) refl

pub lanes_are : {beside : ℕ → ℕ} (b : RowByte) (lanes n k : ℕ) → b.byte < 256 → false ≡ b.around.template.two_line →
    AreBeside beside b.around.template.offset b.around.second b.around.above b.byte b.around.past →
    HasPixels lanes beside (b.around.past % 256 * 256 + b.byte) n k → n + k ≤ 8 →
    lane_events lanes k ≡ events_from b.around.template (byte_lines b) (128 + n) k
lanes_are b lanes n zero small three are has few = sym (events_none b.around.template (byte_lines b) (128 + n))
lanes_are {beside} b lanes n (suc k) small three are has few =
    let row : ℕ = b.around.past % 256 * 256 + b.byte in
    let one : HasPixels lanes beside row n 1 = λ j less. has j (omega arith) in
    let context : lanes % 0x800 / 2 ≡ context_by b.around.template (byte_lines b) (128 + n) =
    pixels_context false lanes n (omega arith) are one refl (holds b small) (holds_past b small)
    ∙ ap (λ t. context_at (record { two_line = t; typical = false }) (byte_lines b) b.around.template.offset (128 + n)) three in
    let pixel : nat_eq (lanes % 0x800 % 2) 1 ≡ pixel_at (byte_lines b).row (128 + n) =
    rw (lane_pixel lanes beside b.around.past b.byte n (omega arith) (are.small n) one) (pixel_of_byte b n small (omega arith)) in
    let place : 128 + (n + 1) ≡ (128 + n) + 1 = omega arith in
    let rest : lane_events (lanes / 2 ^ 16) k ≡ events_from b.around.template (byte_lines b) ((128 + n) + 1) k =
    rw (lanes_are b (lanes / 2 ^ 16) (n + 1) k small three are (has_later lanes beside row n k has) (omega arith), place) refl in
    rw (event_is _ _ _ _ context pixel, rest) (sym (events_first b.around.template (byte_lines b) (128 + n) k))

-- the pixels of a byte by lanes, of which `own` are the byte's bits
lanes_at : {moved : Bool} {own : ℕ} (b : RowByte) (far lanes n : ℕ) → b.byte < 256 → IsMadeFor false moved b.around.template → own ≡ b.byte →
    AreBeside (near moved b.around.second b.around.above far) b.around.template.offset b.around.second b.around.above b.byte b.around.past →
    HasPixels lanes (near moved b.around.second b.around.above far) (b.around.past % 256 * 256 + own) n 4 → n + 4 ≤ 8 →
    lane_events lanes 4 ≡ events_from b.around.template (byte_lines b) (128 + n) 4
lanes_at b far lanes n small made is are has few =
    lanes_are b lanes n 4 small made.two_line_is are
    (rw (← is) has) few

pub first_lanes : {moved : Bool} {own : ℕ} (b : RowByte) (far first : ℕ) → b.byte < 256 → IsMadeFor false moved b.around.template → own ≡ b.byte →
    AreBeside (near moved b.around.second b.around.above far) b.around.template.offset b.around.second b.around.above b.byte b.around.past →
    HasPixels first (near moved b.around.second b.around.above far) (b.around.past % 256 * 256 + own) 0 4 →
    lane_events first 4 ++ events_from b.around.template (byte_lines b) 132 4 ≡ events_from b.around.template (byte_lines b) 128 8
first_lanes b far first small made is are has =
    ap (λ es. es ++ events_from b.around.template (byte_lines b) 132 4) (lanes_at b far first 0 small made is are has (omega arith))
    ∙ sym (events_append b.around.template (byte_lines b) 128 4 4)

pub both_lanes : {moved : Bool} {own : ℕ} (b : RowByte) (far first last : ℕ) → b.byte < 256 → IsMadeFor false moved b.around.template → own ≡ b.byte →
    AreBeside (near moved b.around.second b.around.above far) b.around.template.offset b.around.second b.around.above b.byte b.around.past →
    HasPixels first (near moved b.around.second b.around.above far) (b.around.past % 256 * 256 + own) 0 4 →
    HasPixels last (near moved b.around.second b.around.above far) (b.around.past % 256 * 256 + own) 4 4 →
    lane_events first 4 ++ lane_events last 4 ≡ events_from b.around.template (byte_lines b) 128 8
both_lanes b far first last small made is are has then =
    rw (lanes_at b far last 4 small made is are then (omega arith)) (first_lanes b far first small made is are has)

-- ---- a pixel

-- the registers at pixel j
pub at_pixel : {past : ℕ} (b : RowByte) (j : ℕ) → b.byte < 256 → j < 8 → past ≡ before (byte_lines b).row (128 + j) (past_bits b.around.template.offset) →
    AreAt (byte_lines b) b.around.template.offset (b.around.second / 2 ^ 7 * 2 ^ j) (b.around.above / 2 ^ 6 * 2 ^ j) past (128 + j)
at_pixel b j small few is = at_registers j few (holds b small) is

-- the next pixel's past
pub past_more : {past past' : ℕ} {pixel : Bool} (b : RowByte) (j : ℕ) → past ≡ before (byte_lines b).row (128 + j) (past_bits b.around.template.offset) →
    past' ≡ past % 2 ^ (past_bits b.around.template.offset - 1) * 2 + bit pixel → pixel ≡ pixel_at (byte_lines b).row (128 + j) →
    past' ≡ before (byte_lines b).row (128 + (j + 1)) (past_bits b.around.template.offset)
past_more b j is next own =
    let place : (128 + j) + 1 ≡ 128 + (j + 1) = omega arith in
    rw (next, own, past_on (byte_lines b).row b.around.template.offset (128 + j) is, place) refl

-- pixel j in its context, after those before it
pub pixel_next : {cx second above row past : ℕ} {two_line : Bool} (b : RowByte) (j : ℕ) → b.byte < 256 → j < 8 →
    two_line ≡ b.around.template.two_line →
    second ≡ b.around.second / 2 ^ 7 * 2 ^ j → above ≡ b.around.above / 2 ^ 6 * 2 ^ j → row ≡ b.byte * 2 ^ j →
    past ≡ before (byte_lines b).row (128 + j) (past_bits b.around.template.offset) →
    ((typical : Bool) (lines : Lines) (x : ℕ) → AreAt lines b.around.template.offset second above past x →
    cx ≡ context_at (record { two_line = two_line; typical = typical }) lines b.around.template.offset x) →
    events_from b.around.template (byte_lines b) 128 j ++ record { context = cx; pixel = nat_eq (row / 2 ^ 7 % 2) 1 } ∷ [] ≡ events_from b.around.template (byte_lines b) 128 (j + 1)
pixel_next {cx} {second} {above} {row} {past} {two_line} b j small few template s a r p context =
    let at : AreAt (byte_lines b) b.around.template.offset second above past (128 + j) = rw (s, a) (at_pixel b j small few p) in
    events_last b.around.template (byte_lines b) 128 j cx (nat_eq (row / 2 ^ 7 % 2) 1)
    (rw (context false (byte_lines b) (128 + j) at, template) refl)
    (rw r (pixel_of_byte b j small few))
