use Rattle.std.proofs.Common.{arith, refl, ◌∷◌, ◌++◌, []}
use Rattle.std.proofs.lemmas.List.{length_push}
use Rattle.pbm_core.proofs.CallsRead.{passes-none, passes-more, passed, reads, fails-after}
use Rattle.pbm_core.proofs.RowIsJudged.{pixels-append, pixels_then}
use Rattle.pbm_core.proofs.PixelsFillBytes.{binary_push, push_small, byte_shifted, bool_weight, weight_small}
use Rattle.pbm_core.proofs.rows.read_each.Goals as goal

pub pixels-init : goal.pixels-init
pixels-init g c = record { given = []; pixels = []; many = refl; byte_is = refl; are_pixels = refl; passes = passes-none _ }

pub returns-in_err-black : goal.returns-in_err-black
returns-in_err-black g c =
    let v = c.pixels.invariant in
    fails-after _ c.from_residual.ensures.1 v.passes c.in_err-black.ensures (pixels_then v.given v.pixels v.are_pixels (omega (arith, v.many)))

pub overflow_mul-byte : goal.overflow_mul-byte
overflow_mul-byte g c =
    let v = c.pixels.invariant in
    omega (arith, v.byte_is, push_small v.pixels c.args.count (omega (arith, v.many)) c.requires.few)

pub overflow_add-byte : goal.overflow_add-byte
overflow_add-byte g c =
    let v = c.pixels.invariant in
    omega (arith, v.byte_is, push_small v.pixels c.args.count (omega (arith, v.many)) c.requires.few, c.from.ensures, bool_weight c.in_ok-black.black, weight_small c.in_ok-black.black)

pub pixels-preserved : goal.pixels-preserved
pixels-preserved g c =
    let v = c.pixels.invariant in
    let next = c.in_ok-black.ensures in
    record {
      given = v.given ++ next.given;
      pixels = v.pixels ++ c.in_ok-black.black ∷ [];
      many = omega (arith, length_push v.pixels c.in_ok-black.black, v.many);
      byte_is = omega (arith, binary_push v.pixels c.in_ok-black.black, v.byte_is, c.from.ensures, bool_weight c.in_ok-black.black);
      are_pixels = pixels-append v.given next.given v.pixels (c.in_ok-black.black ∷ []) v.are_pixels next.value;
      passes = passes-more v.passes (passed next);
    }

pub returns : goal.returns
returns g c =
    let v = c.pixels.invariant in
    reads v.passes (record {
      pixels = v.pixels;
      many = omega (arith, v.many);
      byte_is = byte_shifted v.pixels c.pixels.byte c.args.count v.byte_is (omega (arith, v.many)) c.requires.few;
      are_pixels = v.are_pixels;
    })
