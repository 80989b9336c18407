-- The highest byte of an encoder's register.
use Rattle.std.proofs.Common.{◌≡◌, ◌≢◌, ℕ, ◌+◌, ◌-◌, ◌*◌, ◌/◌, ◌%◌, ◌^◌, ◌<◌, ◌≤◌, ◌⊎◌, inl, inr, List, arith, ap, ◌∙◌}
use Rattle.std.proofs.lemmas.Nat.{pow_pos, div_below}
use Rattle.std.proofs.lemmas.Bool.{cases_eq}
use Rattle.std.proofs.Math.Nat.{mod-eq_of_lt, pow-le-pow_right, div-mul-le_self, lt-div-mul-add}
use Rattle.qm_core.proofs.MultiplesShift.{power_at}
use Rattle.qm_core.specs.Place.{Place}
use Rattle.qm_core.specs.Code.{number}
use Rattle.qm_core.specs.Machine.{Digits, Appends}

powers : (bits : ℕ) → 1 ≤ bits → (2 ^ (bits + 8) ≡ 512 * 2 ^ (bits - 1)) × (2 ^ (bits + 7) ≡ 256 * 2 ^ (bits - 1)) × (2 ^ bits ≡ 2 * 2 ^ (bits - 1))
powers bits h = (power_at 9 (bits - 1) (bits + 8) (omega arith), power_at 8 (bits - 1) (bits + 7) (omega arith), power_at 1 (bits - 1) bits (omega arith))

unit_large : (bits : ℕ) → 24 ≤ bits → 0x80_0000 ≤ 2 ^ (bits - 1)
unit_large bits h =
    let two : 0 < 2 = omega arith in
    let e : 23 ≤ bits - 1 = omega arith in
    let m = pow-le-pow_right two e in
    m

module _ (low span bits : ℕ) (bounds : (24 ≤ bits) × (bits ≤ 54)) where
  pub byte_below : low + span ≤ 2 ^ (bits + 8) → 1 ≤ span → low / 2 ^ (bits - 1) < 512
  byte_below room some = let p = powers bits (omega arith) in div_below low (2 ^ (bits - 1)) 512 (pow_pos (bits - 1)) (omega (arith, p.0))

  pub no_carry : low + span ≤ 2 ^ (bits + 7) → 1 ≤ span → low / 2 ^ (bits - 1) < 256
  no_carry room some = let p = powers bits (omega arith) in div_below low (2 ^ (bits - 1)) 256 (pow_pos (bits - 1)) (omega (arith, p.1))

  pub high_whole : low + span ≤ 2 ^ (bits + 8) → (low / 2 ^ (bits - 1) * 2 ^ (bits - 1)) % 2 ^ 64 ≡ low / 2 ^ (bits - 1) * 2 ^ (bits - 1)
  high_whole room =
      let two : 0 < 2 = omega arith in
      let e : bits + 8 ≤ 62 = omega arith in
      let m = pow-le-pow_right two e in
      let d = div-mul-le_self low (2 ^ (bits - 1)) in
      mod-eq_of_lt (omega arith)

  pub left_below : low - low / 2 ^ (bits - 1) * 2 ^ (bits - 1) < 2 ^ (bits - 1)
  left_below =
      let d : low < low / 2 ^ (bits - 1) * 2 ^ (bits - 1) + 2 ^ (bits - 1) = lt-div-mul-add (pow_pos (bits - 1)) in
      let d2 = div-mul-le_self low (2 ^ (bits - 1)) in
      omega arith

  pub left_room : span ≤ 0x80_0000 → (low - low / 2 ^ (bits - 1) * 2 ^ (bits - 1)) + span ≤ 2 ^ bits
  left_room small =
      let p = powers bits (omega arith) in
      let u = unit_large bits bounds.0 in
      omega (arith, left_below, p.2)

  pub left_fixed : ((low / 2 ^ (bits - 1) ≡ 511) ⊎ ((low / 2 ^ (bits - 1) ≡ 255) × (low + span ≤ 2 ^ (bits + 7)))) → low + span ≤ 2 ^ (bits + 8) →
      (low - low / 2 ^ (bits - 1) * 2 ^ (bits - 1)) + span ≤ 2 ^ (bits - 1)
  left_fixed way room =
      let p = powers bits (omega arith) in
      let d = div-mul-le_self low (2 ^ (bits - 1)) in
      elim way [
        | inl e ↦ let f : low / 2 ^ (bits - 1) * 2 ^ (bits - 1) ≡ 511 * 2 ^ (bits - 1) = ap (λ k. k * 2 ^ (bits - 1)) e in omega (arith, p.0)
        | inr e ↦ let f : low / 2 ^ (bits - 1) * 2 ^ (bits - 1) ≡ 255 * 2 ^ (bits - 1) = ap (λ k. k * 2 ^ (bits - 1)) e.0 in let r = e.1 in omega (arith, p.1)
      ]

  pub left_digits : {p : Place} {old new : List ℕ} → Appends old new (low / 2 ^ (bits - 1)) → Digits low span bits p old → Digits (low - low / 2 ^ (bits - 1) * 2 ^ (bits - 1)) span (bits - 8) p new
  left_digits {p} {old} {new} a d =
      let w = powers bits (omega arith) in
      let e : (bits - 8) + 7 ≡ bits - 1 = omega arith in
      let h = div-mul-le_self low (2 ^ (bits - 1)) in
      let v = ap (λ k. k * 2 ^ (bits - 1)) a.value in
      let o = d.value ∙ ap (λ k. number old * k + low) w.1 in
      record { size = d.size; count = omega (arith, a.longer, d.count); value = rw e (omega arith) }

pub way_of : (byte : ℕ) (A : Type 0) → (byte ≢ 511 → (byte ≡ 255) × A) → (byte ≡ 511) ⊎ ((byte ≡ 255) × A)
way_of byte A f = elim (cases_eq byte 511) [ inl e ↦ inl e | inr n ↦ inr (f n) ]
