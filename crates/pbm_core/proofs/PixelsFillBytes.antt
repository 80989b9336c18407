-- Pixels that come one by one, eight to a byte.
use Rattle.std.proofs.Common.{cond, ◌≡◌, ◌≤◌, ◌<◌, ◌+◌, ◌*◌, ◌-◌, ◌%◌, ◌^◌, ◌⊎◌, inl, inr, ℕ, zero, suc, Bool, true, false, List, [], ◌∷◌, ◌++◌, length, map, get_or, slice_index, slice_index_or, refl, sym, ap, ◌∙◌, subst, arith}
use mir.Val.{bool_byte}
use Rattle.std.proofs.Math.Nat.{add-mul, pow-succ'}
use Rattle.std.proofs.Math.Pow.{pow_mono}
use Rattle.std.proofs.lemmas.Nat.{pow-add, shl_whole}
use Rattle.std.proofs.lemmas.Bool.{cases_lt}
use Rattle.std.proofs.lemmas.List.{length_push, get_or_append_left, get_or-append-add, get_or_past}
use Rattle.pbm_core.specs.Pbm.{bytes_of_row, IsMasked, masked_row}
use Rattle.pbm_core.specs.Image.{numbers_from, binary, packed_row, ArePixels, IsRowOf}
use Rattle.pbm_core.specs.RowPieces.{byte_at}
use Rattle.pbm_core.specs.declared.form.Form.TheVariants.{Plain}
use Rattle.pbm_core.proofs.ExamplesHold.{map_same}
use Rattle.pbm_core.proofs.RowsAreMasked.{masked_is}
use Rattle.pbm_core.proofs.BytesPackPixels.{packed_row_of}
use Rattle.pbm_core.proofs.PackedRowsAreRead.{binary_small, get_numbers, length-packed_row, length_numbers, map_numbers, pixels_of-packed}

-- ---- a byte that grows at its end

pub bool_weight : (b : Bool) → bool_byte b ≡ cond b 1 0
bool_weight true = refl
bool_weight false = refl

pub weight_small : (b : Bool) → cond b 1 0 ≤ 1
weight_small true = omega arith
weight_small false = omega arith

pub binary_push : (bits : List Bool) (b : Bool) → binary (bits ++ b ∷ []) ≡ binary bits * 2 + cond b 1 0
binary_push [] true = refl
binary_push [] false = refl
binary_push (true ∷ bits) b =
    let e = binary_push bits b in
    let l : length (bits ++ b ∷ []) ≡ suc (length bits) = omega (arith, length_push bits b) in
    let p = pow-succ' 2 (length bits) in
    ap (λ n. 2 ^ n + binary (bits ++ b ∷ [])) l ∙ omega (arith, e, p)
binary_push (false ∷ bits) b = binary_push bits b

pub push_small : (bits : List Bool) (count : ℕ) → length bits < count → count ≤ 8 → binary bits < 128
push_small bits count few fits =
    let power : 2 ^ length bits ≤ 2 ^ 7 = pow_mono (let f : length bits ≤ 7 = omega arith in f) in
    omega (arith, binary_small bits, power)

-- ---- white after the last pixel

map_from : (f h : ℕ → Bool) (m k n : ℕ) → ((x : ℕ) → f (m + x) ≡ h x) → map f (numbers_from (m + k) n) ≡ map h (numbers_from k n)
map_from f h m k zero same = refl
map_from f h m k (suc n) same =
    let e : m + k + 1 ≡ m + (k + 1) = omega arith in
    ap (λ b. b ∷ map f (numbers_from (m + k + 1) n)) (same k) ∙ ap (λ j. h k ∷ map f (numbers_from j n)) e ∙ ap (λ z. h k ∷ z) (map_from f h m (k + 1) n same)

white_after : (k n : ℕ) → binary (map (λ x. get_or [] x false) (numbers_from k n)) ≡ 0
white_after k zero = refl
white_after k (suc n) = white_after (k + 1) n

weighed : (b : Bool) (bits z : List Bool) (n d : ℕ) → length z ≡ n → n ≡ length bits + d → binary z ≡ binary bits * 2 ^ d → binary (b ∷ z) ≡ binary (b ∷ bits) * 2 ^ d
weighed true bits z n d long sum e =
    let split = ap (λ m. 2 ^ m) (long ∙ sum) ∙ pow-add 2 (length bits) d in
    ap (λ p. p + binary z) split ∙ ap (λ r. 2 ^ length bits * 2 ^ d + r) e ∙ sym (add-mul (2 ^ length bits) (binary bits) (2 ^ d))
weighed false bits z n d long sum e = e

padded : (bits : List Bool) (n : ℕ) → length bits ≤ n → binary (map (λ x. get_or bits x false) (numbers_from 0 n)) ≡ binary bits * 2 ^ (n - length bits)
padded [] n h = white_after 0 n ∙ (let e : 0 ≡ 0 * 2 ^ (n - 0) = omega arith in e)
padded (b ∷ bits) zero h = absurd (omega arith)
padded (b ∷ bits) (suc n) h =
    let z = map (λ x. get_or bits x false) (numbers_from 0 n) in
    let tail : map (λ x. get_or (b ∷ bits) x false) (numbers_from 1 n) ≡ z = map_from (λ x. get_or (b ∷ bits) x false) (λ x. get_or bits x false) 1 0 n
    (λ x. let e : 1 + x ≡ suc x = omega arith in ap (λ i. get_or (b ∷ bits) i false) e) in
    let less : length bits ≤ n = omega (arith, h) in
    let sum : n ≡ length bits + (n - length bits) = omega arith in
    let same : n - length bits ≡ suc n - suc (length bits) = omega arith in
    ap (λ t. binary (b ∷ t)) tail ∙ weighed b bits z n (n - length bits) (length_numbers (λ x. get_or bits x false) 0 n) sum (padded bits n less) ∙ ap (λ d. binary (b ∷ bits) * 2 ^ d) same

-- eight pixels, or the last ones of a row
pub byte_shifted : (bits : List Bool) (byte count : ℕ) → byte ≡ binary bits → length bits ≡ count → count ≤ 8 → (byte * 2 ^ (8 - count)) % 256 ≡ byte_at bits 0
byte_shifted bits byte count is many fits =
    ap (λ b. (b * 2 ^ (8 - count)) % 256) is ∙ ap (λ n. (binary bits * 2 ^ (8 - n)) % 256) (sym many)
    ∙ shl_whole (binary bits) (length bits) (8 - length bits) 8 (binary_small bits) (omega (arith, many, fits))
    ∙ sym (padded bits 8 (omega (arith, many, fits)))

-- ---- the bytes of a row that grows

pub byte_before : (pixels more : List Bool) (k : ℕ) → 8 * k + 8 ≤ length pixels → byte_at (pixels ++ more) k ≡ byte_at pixels k
byte_before pixels more k within =
    ap binary (map_same (λ x. slice_index_or (pixels ++ more) x false) (λ x. slice_index_or pixels x false) (8 * k) 8 (λ x less. get_or_append_left pixels more false x (omega (arith, within, less))))

pub byte_behind : (pixels more : List Bool) (k : ℕ) → length pixels ≡ 8 * k → byte_at (pixels ++ more) k ≡ byte_at more 0
byte_behind pixels more k long =
    let e : 8 * k ≡ length pixels + 0 = omega (arith, long) in
    ap (λ j. binary (map (λ x. slice_index_or (pixels ++ more) x false) (numbers_from j 8))) e
    ∙ ap binary (map_from (λ x. slice_index_or (pixels ++ more) x false) (λ x. slice_index_or more x false) (length pixels) 0 8 (λ x. get_or-append-add pixels more x false))

-- a row whose bytes are those of these pixels
pub row_packed : (width : ℕ) (row : List ℕ) (pixels : List Bool) → length pixels ≡ width → length row ≡ bytes_of_row width →
    ((k : ℕ) → k < length row → get_or row k 0 ≡ byte_at pixels k) → row ≡ packed_row pixels
row_packed width row pixels wide whole each =
    sym (map_numbers (λ k. byte_at pixels k) 0 row 0 (λ i less. let e : 0 + i ≡ i = omega arith in ap (byte_at pixels) e ∙ sym (each i less)))
    ∙ ap (λ n. map (λ k. byte_at pixels k) (numbers_from 0 n)) (whole ∙ ap bytes_of_row (sym wide))

-- ---- where the bytes of a row begin

pub inside : (width i : ℕ) → i < bytes_of_row width → 8 * i < width
inside width i h = grind arith

pub enough : (width : ℕ) → width ≤ 8 * bytes_of_row width
enough width = grind arith

-- ---- padding

byte_small : (row : List Bool) (k : ℕ) → byte_at row k < 256
byte_small row k =
    let bits = map (λ x. slice_index_or row x false) (numbers_from (8 * k) 8) in
    let long = length_numbers (λ x. slice_index_or row x false) (8 * k) 8 in
    rw (← long) (binary_small bits)

packed_small : (row : List Bool) (k : ℕ) → slice_index (packed_row row) k < 256
packed_small row k = went (cases_lt k (bytes_of_row (length row))) where
  went : (k < bytes_of_row (length row)) ⊎ (bytes_of_row (length row) ≤ k) → slice_index (packed_row row) k < 256
  went (inl inside) =
      let e : 0 + k ≡ k = omega arith in
      let value = get_numbers (λ j. byte_at row j) 0 0 (bytes_of_row (length row)) k inside ∙ ap (byte_at row) e in
      omega (arith, value, byte_small row k)
  went (inr past) =
      let value : slice_index (packed_row row) k ≡ 0 = get_or_past (packed_row row) k 0 (omega (arith, length-packed_row row, past)) in
      omega (arith, value)

-- the padding of a packed row is 0
pub packed_stays : (width : ℕ) (row : List Bool) → 1 ≤ width → length row ≡ width → masked_row width (packed_row row) ≡ packed_row row
packed_stays width row some wide =
    packed_row_of width (packed_row row) some (length-packed_row row ∙ ap bytes_of_row wide) (packed_small row) ∙ ap packed_row (pixels_of-packed width row wide)

pub packed_masked : (width : ℕ) (row : List Bool) → 1 ≤ width → length row ≡ width → IsMasked width (packed_row row)
packed_masked width row some wide =
    subst (IsMasked width) (packed_stays width row some wide) (masked_is width (packed_row row) some (length-packed_row row ∙ ap bytes_of_row wide))

-- a row of digits that was read
pub plain_row : (width : ℕ) (given : List ℕ) (pixels : List Bool) (row : List ℕ) → 1 ≤ width → length pixels ≡ width → ArePixels given pixels → row ≡ packed_row pixels → IsRowOf Plain width given row
plain_row width given pixels row some wide are packed =
    record { pixels = pixels; is_row = (wide, are); packed = packed; cleared = (λ other. cc); masked = subst (IsMasked width) (sym packed) (packed_masked width pixels some wide) }
