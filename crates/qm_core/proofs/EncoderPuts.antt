-- From the registers of a part to what `put` leaves.
use Rattle.std.proofs.Common.{◌≡◌, ℕ, ◌+◌, ◌-◌, ◌*◌, ◌<◌, ◌≤◌, inl, inr, Bool, true, false, not, cond, nat_lt, List, slice_set, Result, arith, refl, ap, ◌∙◌, sym, true≢false, add-zero}
use Rattle.std.proofs.lemmas.Bool.{le-ltb, cases_lt}
use Rattle.qm_core.specs.Machine.{estimate}
use Rattle.qm_core.specs.Place.{Place, State, Estimate, estimate_of, same, takes_lower, lower_part, upper_part, part, taught, renormalised}
use Rattle.qm_core.specs.Encoder.{HeldBack, RegistersAreAt, Goes, Put, encoder_state}
use Rattle.qm_core.specs.declared.encoder.Encoder.{Encoder}
use Rattle.qm_core.specs.declared.encoder.CoderFault.{CoderFault}
use Rattle.qm_core.specs.Sink.{SinkAt}
use Rattle.qm_core.proofs.StepTakesPart.{takes, upper, ltb-scaled, part_lower, part_upper}
use Rattle.qm_core.proofs.OutputIsFront.{encoder_front}

-- a pixel that leaves enough is the favoured one
pub quiet_favoured : (f : Bool) (cost span : ℕ) → (f ≡ false → cost ≡ 0x800000) → 0x400000 + cost ≤ span → span ≤ 0x800000 → f ≡ true
quiet_favoured true cost span other enough small = refl
quiet_favoured false cost span other enough small = let e = other refl in absurd (omega (arith, e, enough, small))

-- the favoured pixel takes the lower part where that is large
pub favoured_takes : (size q : ℕ) (f x : Bool) → f ≡ true → f ≡ x → 0x8000 ≤ size - q → q ≤ 0x5B12 → takes_lower size q x ≡ true
favoured_takes size q f x t g large small =
    let h : q ≤ size - q = omega arith in
    rw (sym g, t, le-ltb (size - q) q h) refl

pub codes_lower : {low span bits entry : ℕ} {tail : HeldBack} {p : Place} {pushed : List ℕ} (q : ℕ) → entry ≡ 128 * q → RegistersAreAt low span bits tail p pushed →
    RegistersAreAt low (span - entry) bits tail (lower_part p q) pushed
codes_lower q e c =
    let d = c.digits in
    record { front = c.front; is = c.is; bytes = c.bytes; trimmed = c.trimmed; digits = record { size = omega (arith, d.size); count = d.count; value = d.value } }

codes_upper : {low span bits entry : ℕ} {tail : HeldBack} {p : Place} {pushed : List ℕ} (q : ℕ) → entry ≡ 128 * q → RegistersAreAt low span bits tail p pushed →
    RegistersAreAt (low + (span - entry)) entry bits tail (upper_part p q) pushed
codes_upper q e c =
    let d = c.digits in
    record { front = c.front; is = c.is; bytes = c.bytes; trimmed = c.trimmed; digits = record { size = e; count = d.count; value = omega (arith, d.size, d.value) } }

abbrev pub either_part : Bool → Place → Estimate → Place
either_part r p e = cond r (lower_part p (upper e)) (upper_part p (upper e))

-- the part that the test names
pub codes_part : {low span bits entry : ℕ} {tail : HeldBack} {p : Place} {pushed : List ℕ} (r : Bool) (e : Estimate) → entry ≡ 128 * upper e → RegistersAreAt low span bits tail p pushed →
    RegistersAreAt (low + cond r 0 (span - entry)) (cond r (span - entry) entry) bits tail (either_part r p e) pushed
codes_part {low} true e is c = rw (add-zero low) (codes_lower (upper e) is c)
codes_part false e is c = codes_upper (upper e) is c

pub part_either : (r : Bool) (p : Place) (e : Estimate) (pixel : Bool) → takes_lower p.size (upper e) (same pixel e.pixel) ≡ r → part p e pixel ≡ either_part r p e
part_either true p e pixel h = part_lower p e pixel h
part_either false p e pixel h = part_upper p e pixel h

-- a pixel that is not quiet, of the estimate e: its cost is more than the size has, and this is the test for its part
pub record IsLoud (f : Bool) (cost span entry : ℕ) (r : Bool) (p : Place) (e : Estimate) : Type 0 where
  pub cost_is : f ≡ true → cost ≡ 128 * upper e
  pub entry_is : entry ≡ 128 * upper e
  pub lower_is : r ≡ cond (nat_lt (span - entry) entry) (not f) f
  pub short : span < 0x400000 + cost
  pub few : entry ≤ 128 * 0x5B12
  pub span_is : span ≡ 128 * p.size

-- the test of the code is that of the model
pub lower_test : {f : Bool} {cost span entry : ℕ} {r : Bool} {p : Place} {e : Estimate} → IsLoud f cost span entry r p e → takes_lower p.size (upper e) f ≡ r
lower_test {span = span} {entry} {p = p} {e} l =
    let lower : span - entry ≡ 128 * (p.size - upper e) = omega (arith, l.entry_is, l.span_is) in
    rw (l.lower_is, lower, l.entry_is, ltb-scaled (p.size - upper e) (upper e)) refl

small_lower : (f : Bool) (lower entry : ℕ) (r : Bool) → r ≡ cond (nat_lt lower entry) (not f) f → r ≡ true → (f ≡ true → lower < 0x400000) → entry ≤ 128 * 0x5B12 → lower < 0x400000
small_lower true lower entry r is t quiet small = quiet refl
small_lower false lower entry r is t quiet small = elim (cases_lt lower entry) [
  | inl below ↦ omega arith
  | inr above ↦ let test : nat_lt lower entry ≡ false = le-ltb lower entry above in absurd (true≢false (sym t ∙ (is ∙ ap (λ b. cond b true false) test)))
]

-- the part is small
part_small : (r : Bool) (p : Place) (e : Estimate) → (r ≡ true → p.size - upper e < 0x8000) → upper e < 0x8000 → (either_part r p e).size < 0x8000
part_small true p e lower small = lower refl
part_small false p e lower small = small

pub taken_small : {f : Bool} {cost span entry : ℕ} {r : Bool} {p : Place} {e : Estimate} → IsLoud f cost span entry r p e → (either_part r p e).size < 0x8000
taken_small {f} {cost} {span} {entry} {r} {p} {e} l =
    let few = l.few in
    let is = l.entry_is in
    let size = l.span_is in
    part_small r p e (λ t.
    let left : span - entry < 0x400000 = small_lower f (span - entry) entry r l.lower_is t (λ favoured. let c = l.cost_is favoured in omega (arith, c, is, l.short)) few in
    omega (arith, left, is, size)) (omega arith)

pub next_from : {f g : Bool} {cell : ℕ} (a b : ℕ) {x y : Estimate} → cell ≡ cond f a b → f ≡ g → estimate a ≡ x → estimate b ≡ y → estimate cell ≡ cond g x y
next_from {f = true} a b {x} {y} c same h k = ap estimate c ∙ (h ∙ ap (λ v. cond v x y) same)
next_from {f = false} a b {x} {y} c same h k = ap estimate c ∙ (k ∙ ap (λ v. cond v x y) same)

pub put_from : {S : Type 0} {old : SinkAt S} {to : S} {s : State} {cx : ℕ} {pixel : Bool} {learned : List Estimate} {e : Encoder} {result : Result (Unit {0}) CoderFault} (q : Place) (m : Estimate) →
    m ≡ estimate_of s.learned cx → part s.place m pixel ≡ q → learned ≡ slice_set s.learned cx (taught m pixel q.size) → Goes old (renormalised q) to e result →
    Put old s cx pixel (encoder_state to e learned) result
put_from {e = e} q m is h set g =
    let t = takes is h in
    record {
      more = g.more;
      writes = g.writes;
      codes = rw t.place g.codes;
      begins = rw t.place (encoder_front e g.codes);
      taught = set ∙ sym t.learned;
    }
