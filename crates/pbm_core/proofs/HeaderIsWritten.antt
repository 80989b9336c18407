-- The header that is written is a header.
use Rattle.std.proofs.Common.{◌≤◌, ◌<◌, ◌+◌, ◌/◌, ◌%◌, ◌^◌, ℕ, List, [], ◌∷◌, ◌++◌, refl, inl, inr, append_assoc, arith}
use Rattle.std.specs.Fmt.{decimal}
use Rattle.std.proofs.lemmas.Fmt.{decimal_by_steps}
use Rattle.std.proofs.lemmas.List.{length_push}
use Rattle.pbm_core.specs.Pbm.{IsWhite, IsDigit, IsGap, IsNumber, header_text}
use Rattle.pbm_core.specs.Outcome.{WrittenIsRead}
use Rattle.pbm_core.proofs.ListsGrow.{All-push}
use Rattle.pbm_core.proofs.PartsMakeHeader.{value_push}

one_digit : (n : ℕ) → n < 10 → IsNumber ((48 + n) ∷ []) n
one_digit n small = record { some = omega arith; digits = ((omega arith, omega arith), tt); value = omega arith }

more_digits : (n : ℕ) (ds : List ℕ) → 10 ≤ n → IsNumber ds (n / 10) → IsNumber (ds ++ (48 + n % 10) ∷ []) n
more_digits n ds more p = record {
  some = omega (arith, length_push ds (48 + n % 10));
  digits = All-push IsDigit ds (48 + n % 10) p.digits (omega arith, omega arith);
  value = (let e = value_push ds (48 + n % 10) in let v = p.value in omega (arith, e, v));
}

pub decimal_is_number : (n : ℕ) → n < 2 ^ 64 → IsNumber (decimal n) n
decimal_is_number n small = decimal_by_steps (λ m ds. IsNumber ds m) one_digit more_digits n small

white_gap : (b : ℕ) → IsWhite b → IsGap (b ∷ [])
white_gap b w = record { spaces = (b ∷ []) ∷ []; bytes_are = refl; some = omega arith; each = (inl (b, w, refl), tt) }

pub written_is_read : WrittenIsRead
written_is_read width height rest a b c d = record {
  front = header_text width height;
  bytes_are = refl;
  header = record {
    gap = 10 ∷ [];
    first = decimal width;
    between = 32 ∷ [];
    second = decimal height;
    space = 10 ∷ [];
    bytes_are = simp append_assoc;
    is_gap = white_gap 10 (inr (omega arith, omega arith));
    is_width = decimal_is_number width (omega arith);
    is_between = white_gap 32 (inl refl);
    is_height = decimal_is_number height (omega arith);
    is_space = inl (10, inr (omega arith, omega arith), refl);
  };
  some_width = a;
  not_too_wide = b;
  some_height = c;
  not_too_tall = d;
}
