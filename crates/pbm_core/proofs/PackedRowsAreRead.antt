-- Rows that are packed are read as these rows, and an image that is written as its rows.
use Rattle.std.proofs.Common.{◌≡◌, ◌<◌, ◌+◌, ◌*◌, ◌-◌, ◌/◌, ◌%◌, ◌^◌, ℕ, zero, suc, Bool, true, false, List, [], ◌∷◌, ◌++◌, length, map, get_or, slice_index_or, refl, sym, ap, ◌∙◌, arith, append_assoc, append-nil}
use Rattle.std.specs.Bool.{◌==◌}
use Rattle.std.specs.Int.{bit_at}
use Rattle.std.specs.List.{AllByRecursion, flat_map}
use Rattle.std.proofs.Math.Nat.{add-div_left, mul-add-div, mul-add-mod_self_left, mul_assoc, pow-suc}
use Rattle.std.proofs.lemmas.Nat.{pow_pos, pow-add}
use Rattle.std.proofs.lemmas.Nat.Bits.{bit_at_above}
use Rattle.std.proofs.lemmas.List.{get_or_append_left}
use Rattle.pbm_core.specs.Pbm.{bytes_of_row, pixel, header_text}
use Rattle.pbm_core.specs.declared.form.Form.TheVariants.{Raw}
use Rattle.pbm_core.specs.Image.{numbers_from, binary, packed_row, pixels_of, AreRows, HoldsRows, OneImage, WrittenImageIsRead}
use Rattle.pbm_core.proofs.HeaderIsJudged.{one_header}
use Rattle.pbm_core.proofs.RowIsJudged.{same_rows}
use Rattle.pbm_core.proofs.HeaderIsWritten.{written_is_read}

odd : (q : ℕ) → q % 2 ≡ 0 → (q + 1) % 2 ≡ 1
odd q even = omega arith

-- the highest bit
top_bit : (k r : ℕ) → r < 2 ^ k → bit_at (2 ^ k + r) k ≡ 1
top_bit k r small = ap (λ q. q % 2) (add-div_left r (pow_pos k)) ∙ odd (r / 2 ^ k) (bit_at_above r k k small (omega arith))

-- a bit below the highest
low_bit : (k d r : ℕ) → bit_at (2 ^ (k + 1 + d) + r) k ≡ bit_at r k
low_bit k d r =
    let split = pow-add 2 (k + 1) d ∙ ap (λ p. p * 2 ^ d) (pow-add 2 k 1) ∙ mul_assoc (2 ^ k) 2 (2 ^ d) in
    ap (λ n. (n + r) / 2 ^ k % 2) split ∙ ap (λ q. q % 2) (mul-add-div (pow_pos k) (2 * 2 ^ d) r) ∙ mul-add-mod_self_left 2 (2 ^ d) (r / 2 ^ k)

pub binary_small : (bits : List Bool) → binary bits < 2 ^ length bits
binary_small [] = omega arith
binary_small (true ∷ bits) = let h = binary_small bits in let p = pow-suc 2 (length bits) in omega (arith, h, p)
binary_small (false ∷ bits) = let h = binary_small bits in let p = pow-suc 2 (length bits) in omega (arith, h, p)

-- the bits of a binary number, the first highest
bit_of : (bits : List Bool) (i k : ℕ) → k + i + 1 ≡ length bits → (bit_at (binary bits) k == 1) ≡ get_or bits i false
bit_of [] i k e = absurd (omega (arith, e))
bit_of (true ∷ bits) zero k e =
    let at : length bits ≡ k = omega (arith, e) in
    rw (← at) (ap (λ b. b == 1) (top_bit (length bits) (binary bits) (binary_small bits)))
bit_of (false ∷ bits) zero k e =
    let at : length bits ≡ k = omega (arith, e) in
    rw (← at) (ap (λ b. b == 1) (bit_at_above (binary bits) (length bits) (length bits) (binary_small bits) (omega arith)))
bit_of (true ∷ bits) (suc i) k e =
    let d : ℕ = length bits - k - 1 in
    let sum : length bits ≡ k + 1 + d = omega (arith, e) in
    ap (λ n. bit_at (2 ^ n + binary bits) k == 1) sum ∙ ap (λ b. b == 1) (low_bit k d (binary bits)) ∙ bit_of bits i k (omega (arith, e))
bit_of (false ∷ bits) (suc i) k e = bit_of bits i k (omega (arith, e))

pub get_numbers : {X : Type 0} (f : ℕ → X) (d : X) (k n x : ℕ) → x < n → get_or (map f (numbers_from k n)) x d ≡ f (k + x)
get_numbers f d k zero x h = absurd (omega arith)
get_numbers f d k (suc n) zero h = let e : k ≡ k + 0 = omega arith in ap f e
get_numbers f d k (suc n) (suc x) h =
    let e : k + 1 + x ≡ k + suc x = omega arith in
    get_numbers f d (k + 1) n x (omega arith) ∙ ap f e

pub length_numbers : {X : Type 0} (f : ℕ → X) (k n : ℕ) → length (map f (numbers_from k n)) ≡ n
length_numbers f k zero = refl
length_numbers f k (suc n) = let e = length_numbers f (k + 1) n in omega (arith, e)

pub map_numbers : {X : Type 0} (f : ℕ → X) (d : X) (row : List X) (k : ℕ) → ((i : ℕ) → i < length row → f (k + i) ≡ get_or row i d) → map f (numbers_from k (length row)) ≡ row
map_numbers f d [] k same = refl
map_numbers f d (b ∷ row) k same =
    let e : k ≡ k + 0 = omega arith in
    ap (λ c. c ∷ map f (numbers_from (k + 1) (length row))) (ap f e ∙ same 0 (omega arith))
    ∙ ap (λ z. b ∷ z) (map_numbers f d row (k + 1) (λ i less. let next : k + 1 + i ≡ k + suc i = omega arith in ap f next ∙ same (suc i) (omega arith)))

-- a pixel of a packed row, whatever is after the row
packed_pixel : (row : List Bool) (rest : List ℕ) (x : ℕ) → x < length row → (pixel (packed_row row ++ rest) x == 1) ≡ get_or row x false
packed_pixel row rest x less =
    let dot : ℕ → Bool = λ (y : ℕ). slice_index_or row y false in
    let byte : ℕ → ℕ = λ (k : ℕ). binary (map dot (numbers_from (8 * k) 8)) in
    let inside : x / 8 < bytes_of_row (length row) = grind arith in
    let place : 0 + x / 8 ≡ x / 8 = omega arith in
    let column : 8 * (x / 8) + x % 8 ≡ x = omega arith in
    ap (λ b. bit_at b (7 - x % 8) == 1)
    (get_or_append_left (packed_row row) rest 0 (x / 8) (omega (arith, length_numbers byte 0 (bytes_of_row (length row)), inside))
    ∙ get_numbers byte 0 0 (bytes_of_row (length row)) (x / 8) inside ∙ ap byte place)
    ∙ bit_of (map dot (numbers_from (8 * (x / 8)) 8)) (x % 8) (7 - x % 8) (omega (arith, length_numbers dot (8 * (x / 8)) 8))
    ∙ get_numbers dot false (8 * (x / 8)) 8 (x % 8) (omega arith) ∙ ap dot column

pixels_of-packed_row : (row : List Bool) (rest : List ℕ) → pixels_of (length row) (packed_row row ++ rest) ≡ row
pixels_of-packed_row row rest =
    map_numbers (λ x. pixel (packed_row row ++ rest) x == 1) false row 0
    (λ i less. let e : 0 + i ≡ i = omega arith in ap (λ x. pixel (packed_row row ++ rest) x == 1) e ∙ packed_pixel row rest i less)

pub length-packed_row : (row : List Bool) → length (packed_row row) ≡ bytes_of_row (length row)
length-packed_row row = length_numbers (λ k. binary (map (λ x. slice_index_or row x false) (numbers_from (8 * k) 8))) 0 (bytes_of_row (length row))

pub pixels_of-packed : (width : ℕ) (row : List Bool) → length row ≡ width → pixels_of width (packed_row row) ≡ row
pixels_of-packed width row wide =
    ap (λ w. pixels_of w (packed_row row)) (sym wide) ∙ ap (pixels_of (length row)) (sym (append-nil (packed_row row))) ∙ pixels_of-packed_row row []

-- rows that are packed one after the other
pub packed_rows : (width : ℕ) (rows : List (List Bool)) → AllByRecursion (λ row. length row ≡ width) rows → AreRows Raw width (flat_map packed_row rows) rows
packed_rows width [] each = refl
packed_rows width (row ∷ rows) each =
    (packed_row row, flat_map packed_row rows, refl, (length-packed_row row ∙ ap bytes_of_row each.0, sym (pixels_of-packed width row each.0)), packed_rows width rows each.1)

pub written_image_is_read : WrittenImageIsRead
written_image_is_read width rows rest a b c d each =
    let body : List ℕ = flat_map packed_row rows ++ rest in
    record {
      form = Raw;
      body = body;
      header = rw (append_assoc (header_text width (length rows)) (flat_map packed_row rows) rest)
          (written_is_read width (length rows) body a b c d);
      holds = record { front = flat_map packed_row rows; bytes_are = refl; are_rows = packed_rows width rows each };
    }

pub one_image : OneImage
one_image bytes width rows rest width' rows' rest' p q =
    let same = one_header _ _ _ _ _ _ _ _ _ p.header q.header in
    let here : HoldsRows q.form q.body width' rows rest = rw (← same.forms, ← same.widths, ← same.rests) p.holds in
    let equal = same_rows rows rows' here q.holds same.heights in
    record { widths = same.widths; all_rows = equal.0; rests = equal.1 }
