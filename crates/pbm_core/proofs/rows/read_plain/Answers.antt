use Rattle.std.proofs.Common.{arith, ◌≡◌, ◌≢◌, ◌<◌, ◌*◌, ◌∙◌, ◌++◌, ℕ, List, length, sym, get_or-set_same, get_or-set_other, below_more, length-append, refl, []}
use Rattle.pbm_core.proofs.CallsRead.{passes-none, passes-more, passed, reads, fails-after}
use Rattle.pbm_core.proofs.RowIsJudged.{pixels-append, pixels_then}
use Rattle.pbm_core.proofs.PixelsFillBytes.{inside, enough, byte_before, byte_behind, row_packed, plain_row}
use Rattle.pbm_core.proofs.rows.read_plain.Goals as goal

pub loop-i-init : goal.loop-i-init
loop-i-init g c = record { given = []; pixels = []; many = omega arith; others = omega arith; bytes = (λ k h. absurd (omega arith)); are_pixels = refl; passes = passes-none _ }

pub loop-i-preserved : goal.loop-i-preserved
loop-i-preserved g c =
    let v = c.loop-i.invariant in
    let next = c.in_ok-row.ensures in
    let e = next.value in
    let i : ℕ = c.loop-i.i in
    let row : List ℕ = c.loop-i.row in
    let within : i < length row = omega (arith, c.loop-i.auto.row) in
    let before : 8 * i < c.args.size.width = inside c.args.size.width i (omega (arith, c.loop-i.auto.row, c.requires)) in
    let many : length v.pixels ≡ 8 * i = omega (arith, v.many) in
    let grown = length-append v.pixels e.pixels in
    record {
      given = v.given ++ next.given;
      pixels = v.pixels ++ e.pixels;
      many = omega (arith, grown, many, e.many, v.others, c.min-count.ensures);
      others = omega (arith, grown, e.many, v.others, c.min-count.ensures);
      bytes = below_more _ _
          (λ k h. let other : k ≢ i = omega arith in get_or-set_other row i k c.in_ok-row.field-0 0 other ∙ v.bytes k h ∙ sym (byte_before v.pixels e.pixels k (omega (arith, many, h))))
          (get_or-set_same row i c.in_ok-row.field-0 0 within ∙ e.byte_is ∙ sym (byte_behind v.pixels e.pixels i many));
      are_pixels = pixels-append v.given next.given v.pixels e.pixels v.are_pixels e.are_pixels;
      passes = passes-more v.passes (passed next);
    }

pub returns : goal.returns
returns g c =
    let v = c.loop-i.invariant in
    let whole = c.loop-i.auto.row ∙ c.requires in
    let wide : length v.pixels ≡ c.args.size.width = omega (arith, v.many, enough c.args.size.width, c.requires, c.loop-i-test.false) in
    reads v.passes (plain_row c.args.size.width v.given v.pixels c.loop-i.row c.args.size.some_width wide v.are_pixels
    (row_packed c.args.size.width c.loop-i.row v.pixels wide whole (λ k h. v.bytes k (omega (arith, h, c.loop-i.auto.row, c.loop-i-test.false)))))

pub returns-in_err-row : goal.returns-in_err-row
returns-in_err-row g c =
    let v = c.loop-i.invariant in
    fails-after _ c.from_residual.ensures.1 v.passes c.in_err-row.ensures (pixels_then v.given v.pixels v.are_pixels (omega (arith, v.others, c.min-count.ensures)))
