-- Eight digits in a word.
use Rattle.std.proofs.Common.{cond, ◌≡◌, ◌≢◌, ◌⊎◌, inl, inr, ◌≤◌, ◌<◌, ◌+◌, ◌*◌, ◌-◌, ◌/◌, ◌%◌, ◌^◌, ℕ, Bool, true, false, List, [], ◌∷◌, length, map, get_or, bit_and, refl, sym, ap, ◌∙◌, arith}
use Rattle.std.specs.Bool.{◌==◌}
use Rattle.std.specs.List.{AllByRecursion}
use Rattle.std.proofs.lemmas.Nat.{and_shr, and_mod, div-mul-add, mod-mul-add}
use Rattle.std.proofs.lemmas.Nat.Bits.{and_high}
use Rattle.std.proofs.lemmas.Bool.{cases_lt}
use Rattle.std.proofs.lemmas.Bool.Decides.{nat_tests}
use Rattle.pbm_core.specs.Image.{binary, digit_of, ArePixels}
use Rattle.pbm_core.specs.Private.{MakeByte}
use Rattle.pbm_core.specs.RowPieces.{byte_at}
use Rattle.pbm_core.proofs.PixelsFillBytes.{byte_shifted, weight_small}
use Rattle.pbm_core.proofs.PackedRowsAreRead.{binary_small}

-- ---- which bytes they are

abbrev pub IsBinaryDigit : ℕ → Type 0
IsBinaryDigit b = (48 ≤ b) × (b ≤ 49)

-- the last byte of a word that has the bits of a digit, and the bytes before it
last_digit : (v b mask blank : ℕ) → b < 256 → bit_and (v * 256 + b) mask ≡ blank → mask % 2 ^ 8 ≡ 254 → blank % 2 ^ 8 ≡ 48 → IsBinaryDigit b × (bit_and v (mask / 2 ^ 8) ≡ blank / 2 ^ 8)
last_digit v b mask blank small e m z =
    let low = mod-mul-add v 256 b small in
    let high = div-mul-add v 256 b small in
    let both = sym z ∙ ap (λ x. x % 2 ^ 8) (sym e) ∙ and_mod (v * 256 + b) mask 8 ∙ ap (λ x. bit_and x (mask % 2 ^ 8)) low ∙ ap (bit_and b) m in
    let high_bits = and_high b 7 1 in
    let rest = ap (λ x. bit_and x (mask / 2 ^ 8)) (sym high) ∙ sym (and_shr (v * 256 + b) mask 8) ∙ ap (λ x. x / 2 ^ 8) e in
    ((omega (arith, both, high_bits, small), omega (arith, both, high_bits, small)), rest)

-- a word of eight bytes
pub record IsWord (w a b c d e f g h : ℕ) : Type 0 where
  pub is : w ≡ a * 2 ^ 56 + b * 2 ^ 48 + c * 2 ^ 40 + d * 2 ^ 32 + e * 2 ^ 24 + f * 2 ^ 16 + g * 256 + h
  pub fits : (a < 256) × (b < 256) × (c < 256) × (d < 256) × (e < 256) × (f < 256) × (g < 256) × (h < 256)

pub record AreDigits (a b c d e f g h : ℕ) : Type 0 where
  pub all : IsBinaryDigit a × IsBinaryDigit b × IsBinaryDigit c × IsBinaryDigit d × IsBinaryDigit e × IsBinaryDigit f × IsBinaryDigit g × IsBinaryDigit h

are_eight : {w a b c d e f g h : ℕ} → IsWord w a b c d e f g h → bit_and w 0xFEFEFEFEFEFEFEFE ≡ 0x3030303030303030 → AreDigits a b c d e f g h
are_eight {w} {a} {b} {c} {d} {e} {f} {g} {h} x same =
    let s = x.fits in
    let joined : w ≡ ((((((a * 256 + b) * 256 + c) * 256 + d) * 256 + e) * 256 + f) * 256 + g) * 256 + h = omega (arith, x.is) in
    let ph = last_digit _ h 0xFEFEFEFEFEFEFEFE 0x3030303030303030 s.7 (rw joined at same) refl refl in
    let pg = last_digit _ g 0xFEFEFEFEFEFEFE 0x30303030303030 s.6 ph.1 refl refl in
    let pf = last_digit _ f 0xFEFEFEFEFEFE 0x303030303030 s.5 pg.1 refl refl in
    let pe = last_digit _ e 0xFEFEFEFEFE 0x3030303030 s.4 pf.1 refl refl in
    let pd = last_digit _ d 0xFEFEFEFE 0x30303030 s.3 pe.1 refl refl in
    let pc = last_digit _ c 0xFEFEFE 0x303030 s.2 pd.1 refl refl in
    let pb = last_digit _ b 0xFEFE 0x3030 s.1 pc.1 refl refl in
    let none : 0 * 256 + a ≡ a = omega arith in
    let alone : bit_and (0 * 256 + a) 0xFE ≡ 0x30 = rw none pb.1 in
    let pa = last_digit 0 a 0xFE 0x30 s.0 alone refl refl in
    record { all = (pa.0, pb.0, pc.0, pd.0, pe.0, pf.0, pg.0, ph.0) }

-- ---- the byte that they make

cut_out : (p a b c : ℕ) → p ≡ a * 2 ^ 64 + (b * 2 ^ 56 + c) → b < 256 → c < 2 ^ 56 → p % 2 ^ 64 / 2 ^ 56 ≡ b
cut_out p a b c is sb sc =
    ap (λ x. x % 2 ^ 64 / 2 ^ 56) is ∙ ap (λ x. x / 2 ^ 56) (mod-mul-add a (2 ^ 64) (b * 2 ^ 56 + c) (omega arith)) ∙ div-mul-add b (2 ^ 56) c sc

-- a digit of a number 0 or 1
record IsDigitOf (x a : ℕ) : Type 0 where
  pub is : a ≡ 48 + x
  pub most : x ≤ 1

gather : {w a b c d e f g h p q r s t u v x : ℕ} → IsWord w a b c d e f g h →
    IsDigitOf p a → IsDigitOf q b → IsDigitOf r c → IsDigitOf s d → IsDigitOf t e → IsDigitOf u f → IsDigitOf v g → IsDigitOf x h →
    (w - 0x3030303030303030) * 0x0102040810204080 % 2 ^ 64 / 2 ^ 56 ≡ p * 128 + (q * 64 + (r * 32 + (s * 16 + (t * 8 + (u * 4 + (v * 2 + (x * 1 + 0)))))))
gather {w} {p = p} {q} {r} {s} {t} {u} {v} {x} word dp dq dr ds dt du dv dx =
    let rest : w - 0x3030303030303030 ≡ p * 2 ^ 56 + q * 2 ^ 48 + r * 2 ^ 40 + s * 2 ^ 32 + t * 2 ^ 24 + u * 2 ^ 16 + v * 256 + x = omega (arith, word.is) in
    cut_out ((w - 0x3030303030303030) * 0x0102040810204080) (p * 283691315109952 + q * 1108169199648 + r * 4328785936 + s * 16909320 + t * 66052 + u * 258 + v * 1)
    (p * 128 + (q * 64 + (r * 32 + (s * 16 + (t * 8 + (u * 4 + (v * 2 + (x * 1 + 0))))))))
    (q * 36028797018963968 + r * 18155135997837312 + s * 9078117754732544 + t * 4539061024849920 + u * 2269530520813568 + v * 1134765260439552 + x * 567382630219904)
    (omega (arith, rest)) (omega arith) (omega arith)

-- ---- the pixels that they are

-- a byte 0 or 1 as a pixel
as_pixel : (b : ℕ) → IsBinaryDigit b → ((b ≡ 48) × ((b == 49) ≡ false)) ⊎ ((b ≡ 49) × ((b == 49) ≡ true))
as_pixel b digit = went (cases_lt b 49) where
  went : (b < 49) ⊎ (49 ≤ b) → ((b ≡ 48) × ((b == 49) ≡ false)) ⊎ ((b ≡ 49) × ((b == 49) ≡ true))
  went (inl below) = inl (omega (arith, digit.0, below), (let other : b ≢ 49 = omega arith in grind (arith, nat_tests)))
  went (inr above) = let same : b ≡ 49 = omega (arith, digit.1, above) in inr (same, ap (λ n. n == 49) same)

is_digit : (b : ℕ) → IsBinaryDigit b → b ≡ digit_of (b == 49)
is_digit b digit = elim (as_pixel b digit) [ inl p ↦ p.0 ∙ sym (ap digit_of p.1) | inr p ↦ p.0 ∙ sym (ap digit_of p.1) ]

digit_weight : (black : Bool) → digit_of black ≡ 48 + cond black 1 0
digit_weight true = refl
digit_weight false = refl

digit_over : {b : ℕ} → IsBinaryDigit b → IsDigitOf (cond (b == 49) 1 0) b
digit_over {b} digit = record { is = is_digit b digit ∙ digit_weight (b == 49); most = weight_small (b == 49) }

-- the number of some pixels
abbrev weighed : List Bool → ℕ
weighed [] = 0
weighed (p ∷ ps) = cond p 1 0 * 2 ^ length ps + weighed ps

binary_weighed : (ps : List Bool) → binary ps ≡ weighed ps
binary_weighed [] = refl
binary_weighed (true ∷ ps) = omega (arith, binary_weighed ps)
binary_weighed (false ∷ ps) = omega (arith, binary_weighed ps)

are_pixels : (bytes : List ℕ) → AllByRecursion IsBinaryDigit bytes → ArePixels bytes (map (λ b. b == 49) bytes)
are_pixels [] all = refl
are_pixels (b ∷ bytes) all = ([], bytes, ap (λ n. n ∷ bytes) (is_digit b all.0), tt, are_pixels bytes all.1)

pub as_eight : (xs : List ℕ) → length xs ≡ 8 → xs ≡ get_or xs 0 0 ∷ get_or xs 1 0 ∷ get_or xs 2 0 ∷ get_or xs 3 0 ∷ get_or xs 4 0 ∷ get_or xs 5 0 ∷ get_or xs 6 0 ∷ get_or xs 7 0 ∷ []
as_eight (a ∷ b ∷ c ∷ d ∷ e ∷ f ∷ g ∷ h ∷ []) long = refl
as_eight xs long = absurd (omega arith)

-- eight pixels fill a byte
byte_alone : (bits : List Bool) → length bits ≡ 8 → binary bits ≡ byte_at bits 0
byte_alone bits long =
    let power = ap (λ n. 2 ^ n) long in
    let small : binary bits < 256 = omega (arith, binary_small bits, power) in
    let alone : binary bits ≡ binary bits * 1 % 256 = omega (arith, small) in
    alone ∙ byte_shifted bits (binary bits) 8 refl long (omega arith)

-- the byte of these eight
pub eight_made : {w a b c d e f g h : ℕ} → IsWord w a b c d e f g h → bit_and w 0xFEFEFEFEFEFEFEFE ≡ 0x3030303030303030
    → MakeByte 8 (a ∷ b ∷ c ∷ d ∷ e ∷ f ∷ g ∷ h ∷ []) ((w - 0x3030303030303030) * 0x0102040810204080 % 2 ^ 64 / 2 ^ 56)
eight_made {w} {a} {b} {c} {d} {e} {f} {g} {h} word same =
    let p = (are_eight word same).all in
    let bits = map (λ b. b == 49) (a ∷ b ∷ c ∷ d ∷ e ∷ f ∷ g ∷ h ∷ []) in
    let made = gather word (digit_over p.0) (digit_over p.1) (digit_over p.2) (digit_over p.3) (digit_over p.4) (digit_over p.5) (digit_over p.6) (digit_over p.7) in
    record {
      pixels = bits;
      many = refl;
      byte_is = made ∙ sym (binary_weighed bits) ∙ byte_alone bits refl;
      are_pixels = are_pixels (a ∷ b ∷ c ∷ d ∷ e ∷ f ∷ g ∷ h ∷ []) (p.0, (p.1, (p.2, (p.3, (p.4, (p.5, (p.6, (p.7, tt))))))));
    }
