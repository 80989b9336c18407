-- The pixel that the code decides, and the interval after it.
use Rattle.std.specs.Bool.{beq}
use Rattle.std.proofs.Common.{◌≡◌, ℕ, ◌+◌, ◌-◌, ◌^◌, ◌≤◌, Bool, true, false, not, List, [], append-nil, arith, refl, sym, subst, ◌∙◌}
use Rattle.qm_core.specs.Place.{Place, State, Estimate, same, step}
use Rattle.qm_core.specs.Code.{Lies}
use Rattle.qm_core.specs.Machine.{Registers}
use Rattle.qm_core.proofs.CodesLieInside.{Registers-Lies}
use Rattle.qm_core.proofs.PlacesStayInside.{Lies-renormalised}
use Rattle.qm_core.proofs.StepTakesPart.{Takes}

-- the pixel, given whether it is the favoured one
pub favoured_is : (pixel m f : Bool) → f ≡ same pixel m → f ≡ true → m ≡ pixel
favoured_is true m f e h = sym (e) ∙ h
favoured_is false true f e h = absurd (let bot : ⊥ = cc in bot)
favoured_is false false f e h = refl

pub other_is : (pixel m f : Bool) → f ≡ same pixel m → f ≡ false → m ≡ not pixel
other_is true m f e h = sym (e) ∙ h
other_is false true f e h = refl
other_is false false f e h = absurd (let bot : ⊥ = cc in bot)

-- the pixel of a part, given whether it is the other one
pub part_is : (pixel m f o : Bool) → f ≡ same pixel m → beq f o ≡ false → same (not o) m ≡ pixel
part_is pixel m f o e h = grind arith

pub part_is_not : (pixel m f o : Bool) → f ≡ same pixel m → beq f o ≡ true → same (not o) m ≡ not pixel
part_is_not pixel m f o e h = grind arith

-- the same step, for a pixel that is this one
pub takes_as : {s : State} {cx : ℕ} {pixel x : Bool} {p : Place} {e : Estimate} → Takes s cx x p e → x ≡ pixel → Takes s cx pixel p e
takes_as {s} {cx} {p = p} {e} t is = subst (λ x. Takes s cx x p e) is t

-- bytes whose registers fit the part that a pixel takes are in the interval after it
pub takes_inside : {s : State} {cx : ℕ} {pixel : Bool} {p : Place} {e : Estimate} {code span bits : ℕ} {b : List ℕ} → Takes s cx pixel p e → bits ≤ 23 →
    code + 2 ^ (23 - bits) ≤ span → Registers code span bits p b → Lies b (step s cx pixel).place
takes_inside {p = p} {b = b} t few room r = rw t.place (Lies-renormalised b p (rw append-nil at (Registers-Lies [] few room r tt)))
