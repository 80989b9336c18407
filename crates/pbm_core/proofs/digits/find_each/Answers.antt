use Rattle.std.proofs.Common.{rules, arith, refl, ◌≡◌, ◌+◌, ◌*◌, ◌∷◌, ◌++◌, [], length, take, get_or}
use Rattle.std.proofs.lemmas.List.{length_push, take_more}
use Rattle.pbm_core.specs.Pbm.{IsWhite}
use Rattle.pbm_core.proofs.PixelsFillBytes.{binary_push, push_small, byte_shifted, bool_weight, weight_small}
use Rattle.pbm_core.proofs.BytesAreScanned.{scans-all, scans-white, scans-digit}
use Rattle.pbm_core.proofs.digits.find_each.Goals as goal

pub bytes-init : goal.bytes-init
bytes-init c = record { pixels = []; within = omega arith; some = c.requires.some; many = omega arith; made = refl; scans = scans-all [] [] refl }

pub overflow_mul-made : goal.overflow_mul-made
overflow_mul-made c =
    let v = c.bytes.invariant in
    omega (arith, v.made, push_small v.pixels c.args.count (omega (arith, v.many, v.some)) c.requires.few)

pub overflow_add-made : goal.overflow_add-made
overflow_add-made c =
    let v = c.bytes.invariant in
    omega (arith, v.made, push_small v.pixels c.args.count (omega (arith, v.many, v.some)) c.requires.few, c.from.ensures, bool_weight c.in-Some.black, weight_small c.in-Some.black)

pub returns-then-left-eq0 : goal.returns-then-left-eq0
returns-then-left-eq0 c =
    let v = c.bytes.invariant in
    let end = c.bytes.end in
    let bytes = c.args.bytes.now in
    let pixels = v.pixels ++ c.in-Some.black ∷ [] in
    let more = take_more bytes end 0 c.bytes-test.true in
    let long = length_push v.pixels c.in-Some.black in
    let many : length pixels ≡ c.args.count = omega (arith, long, v.many, v.some, c.if-left-eq0.true) in
    let made = binary_push v.pixels c.in-Some.black in
    record {
      within = omega (arith, c.bytes-test.true);
      make = record {
        pixels = pixels;
        many = many;
        byte_is = byte_shifted pixels (c.bytes.made * 2 + c.from.result) c.args.count (omega (arith, made, v.made, c.from.ensures, bool_weight c.in-Some.black)) many c.requires.few;
        are_pixels = rw more (scans-digit (take end bytes) v.pixels _ c.in-Some.black v.scans c.in-Some.ensures.some);
      };
    }

pub bytes-preserved-else-left-eq0 : goal.bytes-preserved-else-left-eq0
bytes-preserved-else-left-eq0 c =
    let v = c.bytes.invariant in
    let end = c.bytes.end in
    let bytes = c.args.bytes.now in
    let pixels = v.pixels ++ c.in-Some.black ∷ [] in
    let more = take_more bytes end 0 c.bytes-test.true in
    record {
      pixels = pixels;
      within = omega (arith, c.bytes-test.true);
      some = omega (arith, v.some, c.if-left-eq0.false);
      many = omega (arith, length_push v.pixels c.in-Some.black, v.many, v.some);
      made = omega (arith, binary_push v.pixels c.in-Some.black, v.made, c.from.ensures, bool_weight c.in-Some.black);
      scans = rw more (scans-all _ _ (scans-digit (take end bytes) v.pixels _ c.in-Some.black v.scans c.in-Some.ensures.some));
    }

pub bytes-preserved : goal.bytes-preserved
bytes-preserved c =
    let v = c.bytes.invariant in
    let end = c.bytes.end in
    let bytes = c.args.bytes.now in
    let more = take_more bytes end 0 c.bytes-test.true in
    let white : IsWhite (get_or bytes end 0) = search rules in
    record {
      pixels = v.pixels;
      within = omega (arith, c.bytes-test.true);
      some = v.some;
      many = v.many;
      made = v.made;
      scans = rw more (scans-white (take end bytes) v.pixels _ v.scans white);
    }
