-- A header is refused as its first twenty bytes are.
use Rattle.std.proofs.Common.{◌≡◌, ◌≤◌, ℕ, Bool, true, false, List, [], ◌++◌, length, nat_lt, Option, Some, None, refl, sym, ap, ◌∙◌, arith, append-nil}
use Rattle.std.proofs.lemmas.Bool.Decides.{nat_tests}
use Rattle.t85_core.specs.Header.{header_fault}
use Rattle.t85_core.specs.Laws.{HeaderLaws}
use Rattle.t85_core.specs.Failures.{Ends, counted_as, reads_after}
use Rattle.t85_core.specs.declared.fault.Fault.{Fault}
use Rattle.t85_core.specs.declared.fault.Fault.TheVariants.{ShortHeader, Read}

some_same : (f g : Fault) → Some f ≡ Some g → f ≡ g
some_same f g e = cc

unread : (f : Fault) → 0 ≡ reads_after f 0 → counted_as ShortHeader f ≡ f
unread Read counts = absurd (omega (arith, counts))
unread f counts = refl

-- what refuses the bytes that were taken refuses all of them, where no read failed
pub refused_whole : HeaderLaws → (bytes : List ℕ) (left : Option (List ℕ)) (f : Fault) →
    Ends ShortHeader (Some bytes) left (λ given fault. (length given ≤ 20) × (header_fault given ≡ Some fault)) f → 0 ≡ reads_after f 0 → header_fault bytes ≡ Some f
refused_whole laws bytes None f ends counts = absurd ends.taken
refused_whole laws bytes (Some rest) f ends counts = went (nat_lt (length ends.given) 20) refl where
  given : List ℕ
  given = ends.given

  is : header_fault given ≡ Some f
  is = ends.has_fault.1 ∙ ap Some (unread f counts)

  went : (test : Bool) → nat_lt (length given) 20 ≡ test → header_fault bytes ≡ Some f
  went true short =
      let f_is : f ≡ ShortHeader = (let e : header_fault given ≡ Some ShortHeader = rw short in some_same f ShortHeader (sym is ∙ e)) in
      let end : rest ≡ [] = ends.at_end f_is in
      ap (λ l. header_fault l) (ends.taken ∙ ap (λ l. given ++ l) end ∙ append-nil given) ∙ is
  went false long =
      let enough : 20 ≤ length given = grind (arith, nat_tests) in
      ap (λ l. header_fault l) ends.taken ∙ laws.refusal_stands given rest enough ∙ is
