use Rattle.std.proofs.Common.{arith, rules, refl, ap, ◌∷◌, ◌++◌, []}
use Rattle.pbm_core.specs.declared.fault.PbmFault.TheVariants.{BadDigit}
use Rattle.pbm_core.specs.Pbm.{IsWhite}
use Rattle.pbm_core.proofs.CallsRead.{passes-none, passes-more, passed_byte, reads, fails-at, fails-after}
use Rattle.pbm_core.proofs.ListsGrow.{All-push}
use Rattle.pbm_core.proofs.rows.read_pixel.Goals as goal

pub space-init : goal.space-init
space-init g c = record { space = []; passes = passes-none _; is_space = tt }

pub space-preserved : goal.space-preserved
space-preserved g c =
    let v = c.space.invariant in
    let white : IsWhite c.in_ok-byte.byte = search rules in
    record {
      space = v.space ++ c.in_ok-byte.byte ∷ [];
      passes = passes-more v.passes (passed_byte c.in_ok-byte.ensures);
      is_space = All-push IsWhite _ _ v.is_space white;
    }

pub returns-in_err-byte : goal.returns-in_err-byte
returns-in_err-byte g c =
    let v = c.space.invariant in
    fails-after _ c.from_residual.ensures.1 v.passes c.in_err-byte.ensures
    (λ given f p. record {
      pixels = [];
      digits = [];
      space = v.space;
      following = [];
      bytes_are = ap
          (λ z. v.space ++ z) p.0;
      few = omega arith;
      are_pixels = refl;
      is_space = v.is_space;
      has_fault = p.1;
    })

pub returns-in-Some : goal.returns-in-Some
returns-in-Some g c =
    let v = c.space.invariant in
    reads (passes-more v.passes (passed_byte c.in_ok-byte.ensures)) (v.space, [], ap (λ b. v.space ++ b ∷ []) c.in-Some.ensures.some, v.is_space, refl)

pub returns-then-not-is_white : goal.returns-then-not-is_white
returns-then-not-is_white g c =
    let v = c.space.invariant in
    let other : ¬ IsWhite c.in_ok-byte.byte = search rules in
    fails-at BadDigit refl (λ h. cc) (passes-more v.passes (passed_byte c.in_ok-byte.ensures))
    (record {
      pixels = [];
      digits = [];
      space = v.space;
      following = c.in_ok-byte.byte ∷ [];
      bytes_are = refl;
      few = omega arith;
      are_pixels = refl;
      is_space = v.is_space;
      has_fault = (other, c.in-None.ensures.none refl, refl);
    })
