-- The rows that a caller passes to a choice of offsets.
use Rattle.std.proofs.Common.{◌≡◌, ℕ, min, zero, suc, ◌+◌, ◌-◌, ◌*◌, ◌/◌, ◌%◌, ◌^◌, ◌<◌, ◌≤◌, Bool, false, List, [], ◌∷◌, ◌++◌, length, map, refl, sym, ◌∙◌, ap, arith, inl, inr}
use Rattle.std.specs.Prelude.{slice_index, slice_index_or, bit_and, nat_eq, not, ◌==◌}
use Rattle.std.specs.Int.{div_ceil}
use Rattle.std.proofs.Math.ListN.{get_or-eq_default}
use Rattle.std.proofs.Math.Nat.{zero-div}
use Rattle.std.proofs.lemmas.Nat.Bits.{and_pow}
use Rattle.std.proofs.lemmas.Bool.Decides.{nat_tests}
use Rattle.std.proofs.lemmas.Bool.{cases_lt}
use Rattle.pbm_core.specs.Pbm.{bytes_of_row, padding_of, pixel, IsMasked}
use Rattle.pbm_core.specs.Image.{pixels_of, MaskedIsPacked, numbers_from as pbm_numbers, binary as pbm_binary, packed_row as pbm_packed}
use Rattle.raster_core.specs.Choice.{Counting, counting_with}
use Rattle.raster_core.specs.Counting.{AreLines, HasCounted, counting_of, fit_lines, fit_row, is_reset}
use Rattle.raster_core.specs.Lines.{Lines, numbers_from, binary}
use Rattle.raster_core.specs.Packed.{packed_row}
use Rattle.raster_core.specs.Raster.{pixel_at}
use Rattle.t85_core.specs.Coding.{has_bit, mode_of}
use Rattle.libt85.specs.Choice.{HasChoice, passed_lines}
use Rattle.libt85.specs.declared.choice.T85Choice.{T85Choice}

-- ---- the two spellings of a packed row

numbers_same : (k n : ℕ) → pbm_numbers k n ≡ numbers_from k n
numbers_same k zero = refl
numbers_same k (suc n) = ap (λ x. k ∷ x) (numbers_same (k + 1) n)

binary_same : (bits : List Bool) → pbm_binary bits ≡ binary bits
binary_same [] = refl
binary_same (b ∷ bits) = rw (binary_same bits) refl

map_same : {A : Type 0} (f g : ℕ → A) (l : List ℕ) → ((x : ℕ) → f x ≡ g x) → map f l ≡ map g l
map_same f g [] h = refl
map_same f g (x ∷ l) h = rw (h x, map_same f g l h) refl

packed_same : (row : List Bool) → pbm_packed row ≡ packed_row row
packed_same row =
    ap (map (λ k. pbm_binary (map (λ x. slice_index_or row x false) (pbm_numbers (8 * k) 8)))) (numbers_same 0 (div_ceil (length row) 8))
    ∙ map_same _ (λ k. binary (map (pixel_at row) (numbers_from (8 * k) 8))) (numbers_from 0 (div_ceil (length row) 8))
    (λ k. binary_same (map (λ x. slice_index_or row x false) (pbm_numbers (8 * k) 8)) ∙ ap (λ l. binary (map (pixel_at row) l)) (numbers_same (8 * k) 8))

-- ---- whole bytes

-- all pixels of some bytes
abbrev pub all_pixels : List ℕ → List Bool
all_pixels bytes = pixels_of (8 * length bytes) bytes

pub whole_packed : (bytes : List ℕ) → MaskedIsPacked → ((k : ℕ) → slice_index bytes k < 256) → bytes ≡ packed_row (all_pixels bytes)
whole_packed bytes law small =
    let long : length bytes ≡ bytes_of_row (8 * length bytes) = omega arith in
    let none : padding_of (8 * length bytes) ≡ 0 = omega arith in
    let masked : IsMasked (8 * length bytes) bytes = rw none (omega arith) in
    sym (law (8 * length bytes) bytes long masked small) ∙ packed_same (all_pixels bytes)

pixel_number : (f : ℕ → Bool) (k n x : ℕ) → x < n → slice_index_or (map f (pbm_numbers k n)) x false ≡ f (k + x)
pixel_number f k zero x h = absurd (omega arith)
pixel_number f k (suc n) zero h = ap f (let e : k ≡ k + 0 = omega arith in e)
pixel_number f k (suc n) (suc x) h = pixel_number f (k + 1) n x (omega arith) ∙ ap f (let e : (k + 1) + x ≡ k + suc x = omega arith in e)

number_count : (f : ℕ → Bool) (k n : ℕ) → length (map f (pbm_numbers k n)) ≡ n
number_count f k zero = refl
number_count f k (suc n) = ap suc (number_count f (k + 1) n)

no_bit : (n : ℕ) → (0 / n % 2 == 1) ≡ false
no_bit n = rw (zero-div n) refl

one_pixel : (bytes : List ℕ) (x : ℕ) → pixel_at (all_pixels bytes) x ≡ (pixel bytes x == 1)
one_pixel bytes x =
    elim (cases_lt x (8 * length bytes)) [
      | inl inside ↦
          let at : 0 + x ≡ x = omega arith in
          pixel_number (λ y. pixel bytes y == 1) 0 (8 * length bytes) x inside ∙ ap (λ y. pixel bytes y == 1) at
      | inr behind ↦
          let far : length bytes ≤ x / 8 = omega arith in
          let none : slice_index bytes (x / 8) ≡ 0 = get_or-eq_default bytes 0 far in
          get_or-eq_default (all_pixels bytes) false (omega (arith, number_count (λ y. pixel bytes y == 1) 0 (8 * length bytes), behind))
          ∙ sym (rw none (no_bit (2 ^ (7 - x % 8))))
    ]

pub fit_pixels : (width : ℕ) (bytes : List ℕ) → fit_row width (all_pixels bytes) ≡ pixels_of width bytes
fit_pixels width bytes =
    map_same (pixel_at (all_pixels bytes)) (λ x. pixel bytes x == 1) (numbers_from 0 width) (one_pixel bytes)
    ∙ ap (map (λ x. pixel bytes x == 1)) (sym (numbers_same 0 width))

-- ---- a row that was passed

pub row_passed : {old new : T85Choice} {row above : List ℕ} {c : Counting} {reset : Bool} {stripe : List Lines} (second : List Bool) → MaskedIsPacked →
    ((k : ℕ) → slice_index row k < 256) → ((k : ℕ) → slice_index above k < 256) →
    HasChoice c reset old stripe → new.version ≡ old.version → counting_of new.choice ≡ counting_of old.choice → is_reset new.choice ≡ is_reset old.choice →
    ((stripe : List Lines) (lines : Lines) → HasCounted old.choice stripe → AreLines row above lines →
    HasCounted new.choice (stripe ++ fit_lines (counting_of old.choice).width lines ∷ [])) →
    HasChoice c reset new (stripe ++ passed_lines c.width row above second ∷ [])
row_passed {old} {row = row} {above} {c} {stripe = stripe} second law small small' k version counting resets counted =
    let lines : Lines = record { row = all_pixels row; above = all_pixels above; second = second } in
    let are : AreLines row above lines = record { row_is = whole_packed row law small; above_is = whole_packed above law small' } in
    let fits : fit_lines (counting_of old.choice).width lines ≡ passed_lines c.width row above second =
    ap (λ w. fit_lines w lines) (ap (λ d. d.width) k.counting_is) ∙ rw (fit_pixels c.width row, fit_pixels c.width above) refl in
    record {
      version_is = version ∙ k.version_is;
      counting_is = counting ∙ k.counting_is;
      reset_is = resets ∙ k.reset_is;
      counted = rw fits at (counted stripe lines k.counted are);
    }

-- ---- the options by their masks

two_line_bit : (n : ℕ) → not (nat_eq (bit_and n 0x40) 0) ≡ has_bit n 6
two_line_bit n = let e : bit_and n 64 ≡ n / 64 % 2 * 64 = and_pow n 6 in grind (arith, nat_tests)

typical_bit : (n : ℕ) → not (nat_eq (bit_and n 0x08) 0) ≡ has_bit n 3
typical_bit n = let e : bit_and n 8 ≡ n / 8 % 2 * 8 = and_pow n 3 in grind (arith, nat_tests)

-- how pixels are counted with these options, which are in their ranges
pub counting_by : (o most width : ℕ) → most ≤ 127 → width ≤ 2 ^ 20 →
    counting_with (record { two_line = not (nat_eq (bit_and o 0x40) 0); typical = not (nat_eq (bit_and o 0x08) 0) }) (min most 127) (min width (2 ^ 20)) ≡
    counting_with (mode_of o) most width
counting_by o most width low narrow =
    let a : min most 127 ≡ most = omega arith in
    let b : min width (2 ^ 20) ≡ width = omega arith in
    rw (two_line_bit o, typical_bit o, a, b) refl
