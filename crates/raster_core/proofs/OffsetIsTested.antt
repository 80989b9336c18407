-- Tests of const parameters, and offsets.
use Rattle.std.proofs.Common.{◌≡◌, ◌≤◌, ℕ, zero, suc, Bool, true, false, not, refl, sym, ◌∙◌, ap, arith, eqb}
use Rattle.std.proofs.lemmas.Bool.Decides.{nat_tests}
use Rattle.raster_core.specs.Machine.Registers.{is_moved}

pub set_is : {n : ℕ} {b : Bool} → (n ≡ 0 → ⊥) → not (eqb n 0) ≡ b → b ≡ true
set_is {n = zero} h e = absurd (h refl)
set_is {n = suc n} h e =
    let test : eqb (suc n) 0 ≡ false = grind (arith, nat_tests) in
    sym e ∙ ap not test

pub clear_is : {n : ℕ} {b : Bool} → n ≡ 0 → not (eqb n 0) ≡ b → b ≡ false
clear_is {n = zero} h e = sym e
clear_is {n = suc n} h e = absurd (omega arith)

pub nominal_none : (offset : ℕ) → is_moved offset ≡ false → offset ≡ 0
nominal_none zero h = refl
nominal_none (suc t) h = cc

pub moved_some : (offset : ℕ) → is_moved offset ≡ true → 1 ≤ offset
moved_some zero h = cc
moved_some (suc t) h = omega arith
