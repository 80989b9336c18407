-- Bytes from hexadecimal digits, one after the other.
use Rattle.std.proofs.Common.{◌≡◌, ◌<◌, ◌+◌, ◌*◌, ◌++◌, ◌∙◌, ℕ, List, [], ◌∷◌, Option, Some, None, sym, subst, append_assoc, append-nil}
use Rattle.std.specs.Prelude.{filter_map, IfSome}
use Rattle.tests.specs.Trial.{hex_digit, paired}

-- a first digit before others
abbrev pub pending : Option ℕ → List ℕ → List ℕ
pending None ds = ds
pending (Some d) ds = d ∷ ds

-- the bytes so far, and those of a digit that waits and of the rest, are the bytes of the whole
pub record Pairs (hex items : List ℕ) (high : Option ℕ) (rest : List ℕ) : Type 0 where
  pub whole : items ++ paired (pending high (filter_map hex_digit rest)) ≡ paired (filter_map hex_digit hex)
  pub low : IfSome high (λ h. h < 16)

pub skip : (hex items : List ℕ) (high : Option ℕ) (c : ℕ) (rest : List ℕ) → hex_digit c ≡ None → Pairs hex items high (c ∷ rest) → Pairs hex items high rest
skip hex items high c rest e p = record {
  whole = subst (λ (o : Option ℕ). items ++ paired (pending high (pending o (filter_map hex_digit rest))) ≡ paired (filter_map hex_digit hex)) e p.whole;
  low = p.low;
}

pub one : (hex items : List ℕ) (c d : ℕ) (rest : List ℕ) → hex_digit c ≡ Some d → d < 16 → Pairs hex items None (c ∷ rest) → Pairs hex items (Some d) rest
one hex items c d rest e lt p = record {
  whole = subst (λ (o : Option ℕ). items ++ paired (pending o (filter_map hex_digit rest)) ≡ paired (filter_map hex_digit hex)) e p.whole;
  low = lt;
}

pub two : (hex items : List ℕ) (h c d : ℕ) (rest : List ℕ) → hex_digit c ≡ Some d → Pairs hex items (Some h) (c ∷ rest) → Pairs hex (items ++ (h * 16 + d) ∷ []) None rest
two hex items h c d rest e p = record {
  whole = append_assoc items ((h * 16 + d) ∷ []) (paired (filter_map hex_digit rest))
      ∙ subst (λ (o : Option ℕ). items ++ paired (h ∷ pending o (filter_map hex_digit rest)) ≡ paired (filter_map hex_digit hex)) e p.whole;
  low = tt;
}

pub end : (hex items : List ℕ) (high : Option ℕ) → Pairs hex items high [] → items ≡ paired (filter_map hex_digit hex)
end hex items None p = sym (append-nil items) ∙ p.whole
end hex items (Some h) p = sym (append-nil items) ∙ p.whole
