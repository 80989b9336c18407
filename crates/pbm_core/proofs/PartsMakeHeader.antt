-- The parts of a header.
use Rattle.std.proofs.Common.{◌≡◌, ◌⊎◌, inl, inr, ℕ, ◌+◌, ◌-◌, ◌*◌, min, List, [], ◌∷◌, ◌++◌, map, sym, ap, ◌∙◌, append-nil, append_assoc, arith}
use Rattle.std.specs.List.{AllByRecursion, flat_map}
use Rattle.std.specs.Int.Digits.{number_from_digits}
use Rattle.std.proofs.lemmas.List.{length_push}
use Rattle.std.proofs.lemmas.Int.Digits.{number_push}
use Rattle.pbm_core.specs.declared.fault.PbmFault.{PbmFault}
use Rattle.pbm_core.specs.declared.fault.PbmFault.TheVariants.{Truncated}
use Rattle.pbm_core.specs.declared.form.Form.{Form}
use Rattle.pbm_core.specs.Pbm.{letters_of, IsDigit, IsSpace, IsGap, IsPbmHeader, value_of}
use Rattle.pbm_core.specs.Refusal.{IsOpenGap, PartFault, IsPart, most_width, most_height}
use Rattle.pbm_core.proofs.ListsGrow.{All-push, flat_map_push, map_push}

pub gap_more : (spaces : List (List ℕ)) (space : List ℕ) → AllByRecursion IsSpace spaces → IsSpace space → IsGap (flat_map (λ s. s) spaces ++ space)
gap_more spaces space each is = record {
  spaces = spaces ++ space ∷ [];
  bytes_are = sym (flat_map_push (λ s. s) spaces space);
  some = omega (arith, length_push spaces space);
  each = All-push IsSpace spaces space each is;
}

pub value_push : (digits : List ℕ) (b : ℕ) → value_of (digits ++ b ∷ []) ≡ value_of digits * 10 + (b - 48)
value_push digits b = ap (number_from_digits 10) (map_push (λ b. b - 48) digits b) ∙ number_push 10 (map (λ b. b - 48) digits) (b - 48)

-- a number above the limit stays above it
pub value_more : (digits : List ℕ) (b limit value : ℕ) → value ≡ min (value_of digits) (limit + 1) → min (value * 10 + (b - 48)) (limit + 1) ≡ min (value_of (digits ++ b ∷ [])) (limit + 1)
value_more digits b limit value e = let p = value_push digits b in omega (arith, e, p)

-- an input that ends in a gap or right after it
pub cut_gap : {limit : ℕ} {large : PbmFault} (given : List ℕ) (f : PbmFault) → (IsOpenGap given ⊎ IsGap given) × (f ≡ Truncated) → PartFault limit large given f
cut_gap given f (inl o, e) = inl (o, e)
cut_gap given f (inr p, e) = inr (record { gap = given; digits = []; following = []; bytes_are = sym (append-nil given); is_gap = p; are_digits = tt; has_fault = e })

-- an input that ends in a number
pub cut_digits : {limit : ℕ} {large : PbmFault} (gap given : List ℕ) (f : PbmFault) → IsGap gap → AllByRecursion IsDigit given → f ≡ Truncated → PartFault limit large (gap ++ given) f
cut_digits gap given f is all e = inr (record { gap = gap; digits = given; following = []; bytes_are = ap (λ z. gap ++ z) (sym (append-nil given)); is_gap = is; are_digits = all; has_fault = e })

-- the parts of a header
pub header_of : (form : Form) (first second space : List ℕ) (width height : ℕ) → IsPart most_width first width → IsPart most_height second height → IsSpace space →
    IsPbmHeader (letters_of form ++ (first ++ (second ++ space))) form width height
header_of form first second space width height p q is = record {
  gap = p.gap;
  first = p.digits;
  between = q.gap;
  second = q.digits;
  space = space;
  bytes_are = ap (λ z. letters_of form ++ z) (ap (λ z. z ++ (second ++ space)) p.bytes_are ∙ append_assoc p.gap p.digits (second ++ space)
      ∙ ap (λ z. p.gap ++ (p.digits ++ z)) (ap (λ z. z ++ space) q.bytes_are ∙ append_assoc q.gap q.digits space));
  is_gap = p.is_gap;
  is_width = p.is_number;
  is_between = q.is_gap;
  is_height = q.is_number;
  is_space = is;
}
