-- The header of a stream, and the body after it.
use Rattle.std.proofs.Common.{◌≡◌, ℕ, List, drop, Option, Some, None, sym, ap, ◌∙◌}
use Rattle.std.proofs.lemmas.List.{drop_at}
use Rattle.t85_core.specs.Header.{Fields, HeaderOf}
use Rattle.t85_core.specs.Laws.{HeaderLaws}
use Rattle.t85_core.specs.ToPbm.{TakesHeader}

pub same_fields : (h k : Fields) → h.xd ≡ k.xd → h.yd ≡ k.yd → h.l0 ≡ k.l0 → h.mx ≡ k.mx → h.options ≡ k.options → h ≡ k
same_fields h k xd yd l0 mx options = λ i. record { xd = xd i; yd = yd i; l0 = l0 i; mx = mx i; options = options i }

-- A header that was taken is the header of all the bytes, and the body stands after it.
pub record Splits (bytes : List ℕ) (h : Fields) (body : Option (List ℕ)) : Type 0 where
  pub header_of : HeaderOf bytes h
  pub body_is : body ≡ Some (drop 20 bytes)

pub splits : HeaderLaws → (bytes : List ℕ) (h : Fields) (body : Option (List ℕ)) → TakesHeader h (Some bytes) body → Splits bytes h body
splits laws bytes h None takes = absurd takes.taken
splits laws bytes h (Some rest) takes = record {
  header_of = rw takes.taken (laws.stands takes.given rest h takes.header_of);
  body_is = ap Some (sym (ap (λ l. drop 20 l) takes.taken ∙ drop_at takes.given rest 20 takes.long));
}
