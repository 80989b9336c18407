-- A row in bytes is its pixels, packed.
use Rattle.std.proofs.Common.{cond, ◌≡◌, ◌≢◌, ◌≤◌, ◌<◌, ◌+◌, ◌*◌, ◌-◌, ◌/◌, ◌%◌, ◌^◌, ◌⊎◌, inl, inr, ℕ, zero, suc, Bool, false, List, [], ◌∷◌, length, map, slice_index, slice_index_or, refl, sym, ap, ◌∙◌, subst, arith, get_or-set_same, get_or-set_other}
use Rattle.std.specs.Bool.{◌==◌}
use Rattle.std.specs.Int.{bit_at}
use Rattle.std.proofs.lemmas.Bool.{cases_eq, cases_lt}
use Rattle.std.proofs.lemmas.Nat.{mod-pow-add}
use Rattle.std.proofs.lemmas.Nat.Bits.{bit_at-lt}
use Rattle.std.proofs.lemmas.List.{get_or_past}
use Rattle.pbm_core.specs.Pbm.{bytes_of_row, padding_of, pixel, masked_row, IsMasked}
use Rattle.pbm_core.specs.declared.form.Form.TheVariants.{Raw}
use Rattle.pbm_core.specs.Image.{numbers_from, binary, packed_row, pixels_of, IsRowOf, MaskedIsPacked}
use Rattle.pbm_core.proofs.RowsAreMasked.{masked_is, bytes_some, length-masked_row}
use Rattle.pbm_core.proofs.ExamplesHold.{pixels_of-masked}
use Rattle.pbm_core.proofs.MaskClearsPadding.{mask_is_white}
use Rattle.pbm_core.proofs.PackedRowsAreRead.{get_numbers, length_numbers, map_numbers}

-- the n lowest bits, the highest first
abbrev bits_from : ℕ → ℕ → List Bool
bits_from b zero = []
bits_from b (suc n) = (bit_at b n == 1) ∷ bits_from b n

length_bits : (b n : ℕ) → length (bits_from b n) ≡ n
length_bits b zero = refl
length_bits b (suc n) = let e = length_bits b n in omega (arith, e)

weigh : (d m r : ℕ) → d < 2 → cond (d == 1) (m + r) r ≡ d * m + r
weigh zero m r h = omega arith
weigh (suc zero) m r h = omega arith
weigh (suc (suc d)) m r h = absurd (omega arith)

binary_bits : (b n : ℕ) → binary (bits_from b n) ≡ b % 2 ^ n
binary_bits b zero = omega arith
binary_bits b (suc n) =
    let rest = binary_bits b n in
    let split = mod-pow-add b 1 n in
    let same : 1 + n ≡ suc n = omega arith in
    ap (λ l. cond (bit_at b n == 1) (2 ^ l + binary (bits_from b n)) (binary (bits_from b n))) (length_bits b n)
    ∙ weigh (bit_at b n) (2 ^ n) (binary (bits_from b n)) (bit_at-lt b n) ∙ ap (λ r. bit_at b n * 2 ^ n + r) rest
    ∙ sym split ∙ ap (λ e. b % 2 ^ e) same

map_bits : (f : ℕ → Bool) (b m n : ℕ) → ((i : ℕ) → i < n → f (m + i) ≡ (bit_at b (n - 1 - i) == 1)) → map f (numbers_from m n) ≡ bits_from b n
map_bits f b m zero same = refl
map_bits f b m (suc n) same =
    let e : m ≡ m + 0 = omega arith in
    let top : suc n - 1 - 0 ≡ n = omega arith in
    ap (λ z. z ∷ map f (numbers_from (m + 1) n)) (ap f e ∙ same 0 (omega arith) ∙ ap (λ i. bit_at b i == 1) top)
    ∙ ap (λ z. (bit_at b n == 1) ∷ z) (map_bits f b (m + 1) n (λ i less.
    let d : m + 1 + i ≡ m + suc i = omega arith in
    let down : suc n - 1 - suc i ≡ n - 1 - i = omega arith in
    ap f d ∙ same (suc i) (omega arith) ∙ ap (λ j. bit_at b j == 1) down))

-- a pixel in the list, also after the last
pixel_in : (width : ℕ) (bytes : List ℕ) (x : ℕ) → length bytes ≡ bytes_of_row width → IsMasked width bytes → slice_index_or (pixels_of width bytes) x false ≡ (pixel bytes x == 1)
pixel_in width bytes x whole masked = went (cases_lt x width) where
  went : (x < width) ⊎ (width ≤ x) → slice_index_or (pixels_of width bytes) x false ≡ (pixel bytes x == 1)
  went (inl inside) = let e : 0 + x ≡ x = omega arith in get_numbers (λ y. pixel bytes y == 1) false 0 width x inside ∙ ap (λ y. pixel bytes y == 1) e
  went (inr behind) =
      let past : length (pixels_of width bytes) ≤ x = omega (arith, length_numbers (λ y. pixel bytes y == 1) 0 width) in
      get_or_past (pixels_of width bytes) x false past ∙ ap (λ p. p == 1) (sym (mask_is_white width bytes x whole masked behind))

packed_byte : (width : ℕ) (bytes : List ℕ) (k : ℕ) → length bytes ≡ bytes_of_row width → IsMasked width bytes → slice_index bytes k < 256
    → binary (map (λ x. slice_index_or (pixels_of width bytes) x false) (numbers_from (8 * k) 8)) ≡ slice_index bytes k
packed_byte width bytes k whole masked small =
    let b : ℕ = slice_index bytes k in
    ap binary (map_bits (λ x. slice_index_or (pixels_of width bytes) x false) b (8 * k) 8 (λ i less.
    let place : (8 * k + i) / 8 ≡ k = omega arith in
    let bit : 7 - (8 * k + i) % 8 ≡ 8 - 1 - i = omega arith in
    pixel_in width bytes (8 * k + i) whole masked
    ∙ ap (λ j. bit_at (slice_index bytes j) (7 - (8 * k + i) % 8) == 1) place ∙ ap (λ j. bit_at b j == 1) bit))
    ∙ binary_bits b 8 ∙ (let e : b % 2 ^ 8 ≡ b = omega arith in e)

-- a masked row is its pixels, packed
pub masked_is_packed : MaskedIsPacked
masked_is_packed width bytes whole masked small =
    let g : ℕ → ℕ = λ (k : ℕ). binary (map (λ x. slice_index_or (pixels_of width bytes) x false) (numbers_from (8 * k) 8)) in
    let long = ap bytes_of_row (length_numbers (λ y. pixel bytes y == 1) 0 width) ∙ sym whole in
    ap (λ n. map g (numbers_from 0 n)) long
    ∙ map_numbers g 0 bytes 0 (λ i less. let e : 0 + i ≡ i = omega arith in ap g e ∙ packed_byte width bytes i whole masked (small i))

masked_small : (width : ℕ) (bytes : List ℕ) → 1 ≤ width → length bytes ≡ bytes_of_row width → ((k : ℕ) → slice_index bytes k < 256) → (k : ℕ) → slice_index (masked_row width bytes) k < 256
masked_small width bytes some whole small k = went (cases_eq k (bytes_of_row width - 1)) where
  went : (k ≡ bytes_of_row width - 1) ⊎ (k ≢ bytes_of_row width - 1) → slice_index (masked_row width bytes) k < 256
  went (inl at) =
      let within : bytes_of_row width - 1 < length bytes = omega (arith, bytes_some width some) in
      let value = get_or-set_same bytes (bytes_of_row width - 1) (slice_index bytes (bytes_of_row width - 1) - slice_index bytes (bytes_of_row width - 1) % 2 ^ padding_of width) 0 within in
      let b = small (bytes_of_row width - 1) in
      subst (λ (i : ℕ). slice_index (masked_row width bytes) i < 256) (sym at) (omega (arith, value, b))
  went (inr other) =
      let value = get_or-set_other bytes (bytes_of_row width - 1) k (slice_index bytes (bytes_of_row width - 1) - slice_index bytes (bytes_of_row width - 1) % 2 ^ padding_of width) 0 other in
      omega (arith, value, small k)

-- what came, with its padding made 0, is its pixels, packed
pub packed_row_of : (width : ℕ) (bytes : List ℕ) → 1 ≤ width → length bytes ≡ bytes_of_row width → ((k : ℕ) → slice_index bytes k < 256)
    → masked_row width bytes ≡ packed_row (pixels_of width bytes)
packed_row_of width bytes some whole small =
    sym (masked_is_packed width (masked_row width bytes) (length-masked_row width bytes ∙ whole) (masked_is width bytes some whole) (masked_small width bytes some whole small))
    ∙ ap packed_row (pixels_of-masked width bytes whole)

-- a row of whole bytes that was read
pub raw_row : (width : ℕ) (given bytes row : List ℕ) → 1 ≤ width → length bytes ≡ bytes_of_row width → given ≡ bytes → ((k : ℕ) → slice_index given k < 256)
    → row ≡ masked_row width bytes → IsRowOf Raw width given row
raw_row width given bytes row some whole same small cleared =
    let small' = subst (λ z. (k : ℕ) → slice_index z k < 256) same small in
    subst (λ z. IsRowOf Raw width z row) (sym same) (record {
      pixels = pixels_of width bytes;
      is_row = (whole, refl);
      packed = cleared ∙ packed_row_of width bytes some whole small';
      cleared = (λ _. cleared);
      masked = subst (IsMasked width) (sym cleared) (masked_is width bytes some whole);
    })
