-- Rows as pixels, and worked examples.
use Rattle.std.proofs.Common.{◌≡◌, ◌≢◌, ◌<◌, ◌+◌, ℕ, zero, suc, Bool, true, false, List, [], ◌∷◌, ◌++◌, length, map, codes, refl, ap, ◌∙◌, inl, inr, lit≤, arith}
use Rattle.std.specs.Bool.{◌==◌}
use Rattle.std.specs.Fmt.{digits}
use Rattle.pbm_core.specs.declared.fault.PbmFault.TheVariants.{BadDigit}
use Rattle.pbm_core.specs.declared.form.Form.TheVariants.{Raw, Plain}
use Rattle.pbm_core.specs.Pbm.{bytes_of_row, masked_row, pixel, IsWhite, IsPbmHeader}
use Rattle.pbm_core.specs.Image.{numbers_from, pixels_of, digit_of, IsRow, AreRows, RowFault, IsPbm, pbm}
use Rattle.pbm_core.proofs.MaskClearsPadding.{mask_keeps_pixels}

pub map_same : (f h : ℕ → Bool) (k n : ℕ) → ((x : ℕ) → x < k + n → f x ≡ h x) → map f (numbers_from k n) ≡ map h (numbers_from k n)
map_same f h k zero same = refl
map_same f h k (suc n) same = ap (λ b. b ∷ map f (numbers_from (k + 1) n)) (same k (omega arith)) ∙ ap (λ z. h k ∷ z) (map_same f h (k + 1) n (λ x less. same x (omega (arith, less))))

-- a row that was read has the pixels of the bytes that came
pub pixels_of-masked : (width : ℕ) (bytes : List ℕ) → length bytes ≡ bytes_of_row width → pixels_of width (masked_row width bytes) ≡ pixels_of width bytes
pixels_of-masked width bytes whole =
    map_same (λ x. pixel (masked_row width bytes) x == 1) (λ x. pixel bytes x == 1) 0 width
    (λ x less. ap (λ p. p == 1) (mask_keeps_pixels width bytes x whole (omega (arith, less))))

-- two rows of eight pixels
written_rows : pbm 8 ((true ∷ true ∷ true ∷ true ∷ true ∷ true ∷ true ∷ true ∷ []) ∷ (false ∷ false ∷ true ∷ true ∷ false ∷ false ∷ true ∷ false ∷ []) ∷ [])
    ≡ codes "P4" ++ 10 ∷ 56 ∷ 32 ∷ 50 ∷ 10 ∷ 0xFF ∷ 0x32 ∷ []
unfolding digits
written_rows = refl

-- padding doesn't count
padded_rows : AreRows Raw 3 (0x1F ∷ 0x1F ∷ []) ((false ∷ false ∷ false ∷ []) ∷ (false ∷ false ∷ false ∷ []) ∷ [])
padded_rows = (0x1F ∷ [], 0x1F ∷ [], refl, (refl, refl), (0x1F ∷ [], [], refl, (refl, refl), refl))

-- nine pixels take two bytes
row_of_nine : IsRow Raw 9 (0x80 ∷ 0x80 ∷ []) (true ∷ false ∷ false ∷ false ∷ false ∷ false ∷ false ∷ false ∷ true ∷ [])
row_of_nine = (refl, refl)

white_10 : IsWhite 10
white_10 = inr (lit≤ tt, lit≤ tt)

white_32 : IsWhite 32
white_32 = inl refl

-- a line's end between digits means nothing: "1 1", a line's end, "1"
plain_row : IsRow Plain 3 (49 ∷ 32 ∷ 49 ∷ 10 ∷ 49 ∷ []) (true ∷ true ∷ true ∷ [])
plain_row = (refl, ([], 32 ∷ 49 ∷ 10 ∷ 49 ∷ [], refl, tt, (32 ∷ [], 10 ∷ 49 ∷ [], refl, (white_32, tt), (10 ∷ [], [], refl, (white_10, tt), refl))))

two_is_none : (black : Bool) → 50 ≢ digit_of black
two_is_none true = λ e. absurd (omega (arith, e))
two_is_none false = λ e. absurd (omega (arith, e))

-- "1 2"
plain_fault : RowFault Plain 3 (49 ∷ 32 ∷ 50 ∷ []) BadDigit
plain_fault = record {
  pixels = true ∷ [];
  digits = 49 ∷ [];
  space = 32 ∷ [];
  following = 50 ∷ [];
  bytes_are = refl;
  few = lit≤ tt;
  are_pixels = ([], [], refl, tt, refl);
  is_space = (white_32, tt);
  has_fault = ((λ e. elim e [ inl e ↦ absurd (omega (arith, e)) | inr e ↦ absurd (omega (arith, e)) ]), two_is_none, refl);
}

-- the padding of three pixels
masked_three : masked_row 3 (0xFF ∷ []) ≡ 0xE0 ∷ []
masked_three = refl

-- a comment in a gap
header_with_comment : IsPbmHeader (codes "P4" ++ 10 ∷ 35 ∷ 120 ∷ 10 ∷ 51 ∷ 32 ∷ 50 ∷ 10 ∷ []) Raw 3 2
header_with_comment = record {
  gap = 10 ∷ 35 ∷ 120 ∷ 10 ∷ [];
  first = 51 ∷ [];
  between = 32 ∷ [];
  second = 50 ∷ [];
  space = 10 ∷ [];
  bytes_are = refl;
  is_gap = record {
    spaces = (10 ∷ []) ∷ (35 ∷ 120 ∷ 10 ∷ []) ∷ [];
    bytes_are = refl;
    some = lit≤ tt;
    each = (
      inl (10, inr (lit≤ tt, lit≤ tt), refl),
      (
        inr
            (record { text = 120 ∷ []; last = 10; bytes_are = refl; one_line = ((λ e. elim e [ inl e ↦ absurd (omega (arith, e)) | inr e ↦ absurd (omega (arith, e)) ]), tt); ends = inl refl }),
        tt,
      ),
    );
  };
  is_width = record { some = lit≤ tt; digits = ((lit≤ tt, lit≤ tt), tt); value = refl };
  is_between = record { spaces = (32 ∷ []) ∷ []; bytes_are = refl; some = lit≤ tt; each = (inl (32, inl refl, refl), tt) };
  is_height = record { some = lit≤ tt; digits = ((lit≤ tt, lit≤ tt), tt); value = refl };
  is_space = inl (10, inr (lit≤ tt, lit≤ tt), refl);
}

-- a plain image: the rows go on over ends of lines, and what is after the last digit is the rest
plain_image : IsPbm (codes "P1" ++ 10 ∷ 51 ∷ 32 ∷ 50 ∷ 10 ∷ 49 ∷ 32 ∷ 48 ∷ 10 ∷ 49 ∷ 49 ∷ 49 ∷ 48 ∷ 10 ∷ []) 3 ((true ∷ false ∷ true ∷ []) ∷ (true ∷ true ∷ false ∷ []) ∷ []) (10 ∷ [])
plain_image = record {
  form = Plain;
  body = 49 ∷ 32 ∷ 48 ∷ 10 ∷ 49 ∷ 49 ∷ 49 ∷ 48 ∷ 10 ∷ [];
  header = record {
    front = codes "P1" ++ 10 ∷ 51 ∷ 32 ∷ 50 ∷ 10 ∷ [];
    bytes_are = refl;
    header = record {
      gap = 10 ∷ [];
      first = 51 ∷ [];
      between = 32 ∷ [];
      second = 50 ∷ [];
      space = 10 ∷ [];
      bytes_are = refl;
      is_gap = record { spaces = (10 ∷ []) ∷ []; bytes_are = refl; some = lit≤ tt; each = (inl (10, white_10, refl), tt) };
      is_width = record { some = lit≤ tt; digits = ((lit≤ tt, lit≤ tt), tt); value = refl };
      is_between = record { spaces = (32 ∷ []) ∷ []; bytes_are = refl; some = lit≤ tt; each = (inl (32, white_32, refl), tt) };
      is_height = record { some = lit≤ tt; digits = ((lit≤ tt, lit≤ tt), tt); value = refl };
      is_space = inl (10, white_10, refl);
    };
    some_width = lit≤ tt;
    not_too_wide = lit≤ tt;
    some_height = lit≤ tt;
    not_too_tall = lit≤ tt;
  };
  holds = record {
    front = 49 ∷ 32 ∷ 48 ∷ 10 ∷ 49 ∷ 49 ∷ 49 ∷ 48 ∷ [];
    bytes_are = refl;
    are_rows = (
      49 ∷ 32 ∷ 48 ∷ 10 ∷ 49 ∷ [],
      49 ∷ 49 ∷ 48 ∷ [],
      refl,
      (refl, ([], 32 ∷ 48 ∷ 10 ∷ 49 ∷ [], refl, tt, (32 ∷ [], 10 ∷ 49 ∷ [], refl, (white_32, tt), (10 ∷ [], [], refl, (white_10, tt), refl)))),
      (49 ∷ 49 ∷ 48 ∷ [], [], refl, (refl, ([], 49 ∷ 48 ∷ [], refl, tt, ([], 48 ∷ [], refl, tt, ([], [], refl, tt, refl)))), refl),
    );
  };
}
