-- A stream has one reading.
use Rattle.std.proofs.Common.{cond, ◌%◌, ◌||◌, slice_index, ◌≡◌, ◌≢◌, inl, inr, ◌<◌, ◌≤◌, ℕ, Bool, false, not, List, Option, None, Some, length, drop, nat_lt, nat_le, nat_eq, refl, sym, ap, ◌∙◌, subst, arith}
use Rattle.std.proofs.lemmas.Bool.Decides.{nat_tests}
use Rattle.t85_core.specs.declared.fault.Fault.{Fault}
use Rattle.t85_core.specs.Grammar.{Parts}
use Rattle.t85_core.specs.Header.{Fields, IsAccepted, HeaderOf, header_fault, long_at}
use Rattle.t85_core.specs.Info.{line_text, numbers_of, HasLine}
use Rattle.t85_core.specs.Refusal.{BodyFault}
use Rattle.t85_core.specs.Height.{IsHeight, StreamFaultBehind, StreamFault}
use Rattle.t85_core.proofs.BodiesParse.BodyHasOneReading.{one_parts}
use Rattle.t85_core.proofs.BodiesParse.BodyHasOneHeight.{one_height_of, height_within, whole_or_broken_at, one_fault_of}

abbrev made : ℕ → ℕ → ℕ → ℕ → ℕ → Fields
made a b c d e = record { xd = a; yd = b; l0 = c; mx = d; options = e }

-- the header of bytes that have one
pub header_is : {bytes : List ℕ} {h k : Fields} → HeaderOf bytes h → HeaderOf bytes k → h ≡ k
header_is {h} {k} p q = went (sym p.xd ∙ q.xd) (sym p.yd ∙ q.yd) (sym p.l0 ∙ q.l0) (sym p.mx ∙ q.mx) (sym p.options ∙ q.options) where
  went : h.xd ≡ k.xd → h.yd ≡ k.yd → h.l0 ≡ k.l0 → h.mx ≡ k.mx → h.options ≡ k.options → h ≡ k
  went a b c d e =
      ap (λ u. made u h.yd h.l0 h.mx h.options) a ∙ ap (λ u. made k.xd u h.l0 h.mx h.options) b ∙ ap (λ u. made k.xd k.yd u h.mx h.options) c
      ∙ ap (λ u. made k.xd k.yd k.l0 u h.options) d ∙ ap (λ u. made k.xd k.yd k.l0 k.mx u) e

skip : {t : Bool} {rest : Option Fault} (f : Fault) → t ≡ false → rest ≡ None → cond t (Some f) rest ≡ None
skip {rest} f e k = ap (λ u. cond u (Some f) rest) e ∙ k

reserved : {a : ℕ} (b c : ℕ) → a ≡ 0 → b < 16 → c < 128 → (not (nat_eq a 0) || nat_le 16 b || nat_le 128 c) ≡ false
reserved b c p q r = grind (arith, nat_tests)

layers : {a b : ℕ} → a ≡ 0 → b ≡ 0 → (not (nat_eq a 0) || not (nat_eq b 0)) ≡ false
layers p q = grind (arith, nat_tests)

planes : {a : ℕ} → a ≡ 1 → not (nat_eq a 1) ≡ false
planes p = grind (arith, nat_tests)

sizes : (a b c : ℕ) → 1 ≤ a → 1 ≤ b → 1 ≤ c → (nat_eq a 0 || nat_eq b 0 || nat_eq c 0) ≡ false
sizes a b c p q r = grind (arith, nat_tests)

not_above : (n a : ℕ) → a ≤ n → nat_lt n a ≡ false
not_above n a p = grind (arith, nat_tests)

differs : (a b : ℕ) → a ≢ b → nat_eq a b ≡ false
differs a b p = grind (arith, nat_tests)

-- an accepted header has no fault
pub accepted : (bytes : List ℕ) (h : Fields) → HeaderOf bytes h → header_fault bytes ≡ None
accepted bytes h p =
    let private : slice_index bytes 19 % 8 ≢ 6 = λ e. p.accepted.no_table (ap (λ o. o % 8) (sym p.options) ∙ e) in
    skip _ (not_above_20 (length bytes) p.whole)
    (skip _ (reserved (slice_index bytes 18) (slice_index bytes 19) p.zero p.order (omega arith))
    (skip _ (layers p.dl p.d)
    (skip _ (planes p.p)
    (skip _ (sizes (long_at 4 bytes) (long_at 8 bytes) (long_at 12 bytes) (subst (λ n. 1 ≤ n) (sym p.xd) p.accepted.width_from) (subst (λ n. 1 ≤ n) (sym p.yd) p.accepted.height_from)
    (subst (λ n. 1 ≤ n) (sym p.l0) p.accepted.stripe_from))
    (skip _ (not_above 1048576 (long_at 4 bytes) (subst (λ n. n ≤ 1048576) (sym p.xd) p.accepted.width_to))
    (skip _ (not_above 127 (slice_index bytes 16) (subst (λ n. n ≤ 127) (sym p.mx) p.accepted.offset_to))
    (skip _ (differs (slice_index bytes 19 % 8) 6 private) refl))))))) where
      not_above_20 : (n : ℕ) → 20 ≤ n → nat_lt n 20 ≡ false
      not_above_20 n q = grind (arith, nat_tests)

-- what a stream with this header has as its line
record LineOf (bytes text : List ℕ) (h : Fields) : Type 0 where
  pub height : ℕ
  pub height_is : IsHeight h (drop 20 bytes) height
  pub parts : Parts h height (drop 20 bytes)
  pub text_is : text ≡ line_text (numbers_of h height parts.stripes)

one_line_of : {bytes x y : List ℕ} {h : Fields} → IsAccepted h → LineOf bytes x h → LineOf bytes y h → x ≡ y
one_line_of {bytes} {x} {y} {h} ok p q =
    went q.height (one_height_of (drop 20 bytes) p.height q.height ok p.height_is q.height_is) q.parts q.text_is
  where
    at : (b : Parts h p.height (drop 20 bytes)) → y ≡ line_text (numbers_of h p.height b.stripes) → x ≡ y
    at b v =
        let same = one_parts ok p.parts.stripes b.stripes p.parts.rest b.rest p.parts.each b.each (p.parts.count ∙ sym b.count) (sym p.parts.body_is ∙ b.body_is) in
        p.text_is ∙ ap (λ z. line_text (numbers_of h p.height z)) same ∙ sym v

    went : (n : ℕ) → p.height ≡ n → (b : Parts h n (drop 20 bytes)) → y ≡ line_text (numbers_of h n b.stripes) → x ≡ y
    went n same = subst (λ n. (b : Parts h n (drop 20 bytes)) → y ≡ line_text (numbers_of h n b.stripes) → x ≡ y) same at

pub one_line : {bytes x y : List ℕ} → HasLine bytes x → HasLine bytes y → x ≡ y
one_line {bytes} {y} p q =
    let same : p.header ≡ q.header = header_is p.header_of q.header_of in
    let other : LineOf bytes y q.header = record { height = q.height; height_is = q.height_is; parts = q.parts; text_is = q.text_is } in
    one_line_of p.header_of.accepted (record { height = p.height; height_is = p.height_is; parts = p.parts; text_is = p.text_is })
    (subst (LineOf bytes y) (sym same) other)

-- what a stream with this header has as its fault
record FaultOf (bytes : List ℕ) (fault : Fault) (h : Fields) : Type 0 where
  pub height : ℕ
  pub height_is : IsHeight h (drop 20 bytes) height
  pub broken : BodyFault h height (drop 20 bytes) fault

-- of the same header, at the same height
fault_at : {bytes : List ℕ} {f : Fault} {h : Fields} (n : ℕ) → HeaderOf bytes h → IsHeight h (drop 20 bytes) n → StreamFaultBehind bytes f → BodyFault h n (drop 20 bytes) f
fault_at {bytes} {f} {h} n is height_is q =
    let same : h ≡ q.header = header_is is q.header_of in
    let other : FaultOf bytes f q.header = record { height = q.height; height_is = q.height_is; broken = q.broken } in
    let here : FaultOf bytes f h = subst (FaultOf bytes f) (sym same) other in
    subst (λ z. BodyFault h z (drop 20 bytes) f) (one_height_of (drop 20 bytes) here.height n is.accepted here.height_is height_is) here.broken

pub line_or_fault : {bytes text : List ℕ} (f : Fault) → HasLine bytes text → StreamFault bytes f → ⊥
line_or_fault {bytes} f p (inl e) = let k : None ≡ Some f = sym (accepted bytes p.header p.header_of) ∙ e in cc
line_or_fault {bytes} f p (inr q) =
    whole_or_broken_at p.header p.height (drop 20 bytes) f (height_within (drop 20 bytes) p.height p.header_of.accepted p.height_is) p.parts
    (fault_at p.height p.header_of p.height_is q)

pub one_fault : (bytes : List ℕ) (f g : Fault) → StreamFault bytes f → StreamFault bytes g → f ≡ g
one_fault bytes f g (inl p) (inl q) = let k : Some f ≡ Some g = sym p ∙ q in cc
one_fault bytes f g (inl p) (inr q) = let k : None ≡ Some f = sym (accepted bytes q.header q.header_of) ∙ p in absurd (cc)
one_fault bytes f g (inr p) (inl q) = let k : None ≡ Some g = sym (accepted bytes p.header p.header_of) ∙ q in absurd (cc)
one_fault bytes f g (inr p) (inr q) =
    (one_fault_of p.header p.height (drop 20 bytes) f g (height_within (drop 20 bytes) p.height p.header_of.accepted p.height_is) p.broken
    (fault_at p.height p.header_of p.height_is q)).broken.fault
