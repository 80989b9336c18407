-- The header that is written for an image.
use Rattle.std.proofs.Common.{◌≡◌, ◌≢◌, ℕ, ◌+◌, ◌<◌, ◌%◌, ◌/◌, Bool, true, false, not, ◌&&◌, nat_eq, List, [], ◌++◌, refl, sym, ◌∙◌, ap, arith, true≢false}
use Rattle.std.specs.Prelude.{is_some, if◌then◌else◌}
use Rattle.std.proofs.lemmas.Bool.Decides.{nat_tests}
use Rattle.t85_core.specs.Header.{Fields, HeaderOf, IsAccepted, header_bytes}
use Rattle.t85_core.specs.Coding.{has_bit, mode_of}
use Rattle.t85_core.specs.Jbg.{Settings, AreSettings, written_options}
use Rattle.t85_core.proofs.StreamsAreWalked.SegmentsAreChecked.{row_of}

-- the bytes of a header, with whatever after them
pub header_begins : (h : Fields) (rest : List ℕ) → IsAccepted h → HeaderOf (header_bytes h ++ rest) h
header_begins h rest ok = record {
  whole = omega arith;
  dl = refl;
  d = refl;
  p = refl;
  zero = refl;
  xd = row_of h.xd [] (omega arith);
  yd = row_of h.yd [] ok.height_to;
  l0 = row_of h.l0 [] ok.stripe_to;
  mx = refl;
  order = omega arith;
  options = refl;
  accepted = ok;
}

-- ---- the options byte

-- what VLENGTH adds to an options byte that hasn't it
record AddsBit (o : ℕ) : Type 0 where
  pub small : o + 32 < 128
  pub low : (o + 32) % 8 ≡ o % 8
  pub two_line : has_bit (o + 32) 6 ≡ has_bit o 6
  pub typical : has_bit (o + 32) 3 ≡ has_bit o 3
  pub set : has_bit (o + 32) 5 ≡ true

adds_bit : (o : ℕ) → o < 128 → has_bit o 5 ≡ false → AddsBit o
adds_bit o small clear =
    let even : o / 32 % 2 ≢ 1 = differs (o / 32 % 2) 1 clear in
    record {
      small = omega arith;
      low = omega arith;
      two_line = (let e : (o + 32) / 64 % 2 ≡ o / 64 % 2 = omega arith in ap (λ n. nat_eq n 1) e);
      typical = (let e : (o + 32) / 8 % 2 ≡ o / 8 % 2 = omega arith in ap (λ n. nat_eq n 1) e);
      set = (let e : (o + 32) / 32 % 2 ≡ 1 = omega arith in ap (λ n. nat_eq n 1) e);
    }
  where
    differs : (a b : ℕ) → nat_eq a b ≡ false → a ≢ b
    differs a b e p = (let t : nat_eq a b ≡ true = grind (arith, nat_tests) in true≢false (sym t ∙ e))

-- the options byte that is written
pub record WrittenBits (s : Settings) : Type 0 where
  pub small : written_options s < 128
  pub low : written_options s % 8 ≡ s.options % 8
  pub mode : mode_of (written_options s) ≡ mode_of s.options
  pub variable : is_some s.announced ≡ true → has_bit (written_options s) 5 ≡ true

pub written_bits : (s : Settings) → AreSettings s → WrittenBits s
written_bits s ok = went (is_some s.announced) (has_bit s.options 5) refl refl where
  byte : Bool → Bool → ℕ
  byte a v = if a && not v then s.options + 32 else s.options

  is_byte : (a v : Bool) → is_some s.announced ≡ a → has_bit s.options 5 ≡ v → written_options s ≡ (if a && not v then s.options + 32 else s.options)
  is_byte a v p q = ap (λ u. if u && not (has_bit s.options 5) then s.options + 32 else s.options) p ∙ ap (λ u. if a && not u then s.options + 32 else s.options) q

  made : (n : ℕ) → written_options s ≡ n → n < 128 → n % 8 ≡ s.options % 8 → mode_of n ≡ mode_of s.options → (is_some s.announced ≡ true → has_bit n 5 ≡ true) → WrittenBits s
  made n e a b c d = record {
    small = omega arith;
    low = ap (λ u. u % 8) e ∙ b;
    mode = ap mode_of e ∙ c;
    variable = λ t. ap (λ u. has_bit u 5) e ∙ d t;
  }

  went : (a v : Bool) → is_some s.announced ≡ a → has_bit s.options 5 ≡ v → WrittenBits s
  went true false p q =
      let b = adds_bit s.options ok.options_to q in
      made (s.options + 32) (is_byte true false p q) b.small b.low (λ i. record { two_line = b.two_line i; typical = b.typical i }) (λ _. b.set)
  went true true p q = made s.options (is_byte true true p q) ok.options_to refl refl (λ _. q)
  went false v p q = made s.options (is_byte false v p q) ok.options_to refl refl (λ t. absurd (true≢false (sym t ∙ p)))
