use Rattle.std.proofs.Common.{◌≡◌, ◌+◌, ◌*◌, ◌/◌, ◌%◌, length, arith, sym, refl, append-nil, length-append, ◌∙◌, ◌∷◌, ◌++◌, []}
use Rattle.std.proofs.lemmas.List.{length_push}
use Rattle.pbm_core.proofs.PixelsFillBytes.{bool_weight, byte_shifted}
use Rattle.pbm_core.proofs.RowGrows.{made_grown, stored_at, eight_stored, counts, grows, row_has, whole_stored}
use Rattle.pbm_core.proofs.row_reader.RowReader.put.Goals as goal

pub returns-then-filled-size : goal.returns-then-filled-size
returns-then-filled-size c pixels h =
    let n = counts h in
    let few = h.few in
    let below = h.below in
    let filled = h.filled in
    let at : c.min-at.result ≡ c.args.self.now.filled = omega (arith, c.min-at.ensures, below, filled) in
    let i : c.min-at.result / 8 ≡ h.bytes = omega (arith, at, n, few) in
    let long : length (h.part ++ c.args.black ∷ []) ≡ c.min-at.result % 8 + 1 = omega (arith, length_push h.part c.args.black, at, n, few) in
    let wide : length (pixels ++ c.args.black ∷ []) ≡ c.args.size.width = omega (arith, length_push pixels c.args.black, at, filled, c.if-filled-size.true) in
    let made = made_grown h.part c.args.black c.args.self.now.made c.from.result h.made few (c.from.ensures ∙ bool_weight c.args.black) in
    let byte = byte_shifted (h.part ++ c.args.black ∷ []) (c.args.self.now.made % 128 * 2 + c.from.result) (c.min-at.result % 8 + 1) made long (omega (arith, few)) in (
      wide,
      whole_stored c.args.size.width h c.args.black (c.min-at.result / 8) _ i wide c.requires byte,
      c.start.ensures.plain c.args.size.width _ c.args.size.some_width,
    )

pub returns-then-count-eq8 : goal.returns-then-count-eq8
returns-then-count-eq8 c pixels h =
    let n = counts h in
    let few = h.few in
    let below = h.below in
    let filled = h.filled in
    let at : c.min-at.result ≡ c.args.self.now.filled = omega (arith, c.min-at.ensures, below, filled) in
    let i : c.min-at.result / 8 ≡ h.bytes = omega (arith, at, n, few) in
    let eight : length (h.part ++ c.args.black ∷ []) ≡ 8 = omega (arith, length_push h.part c.args.black, at, n, few, c.if-count-eq8.true) in
    let made = made_grown h.part c.args.black c.args.self.now.made c.from.result h.made few (c.from.ensures ∙ bool_weight c.args.black) in
    let many = h.many in
    record {
      bytes = h.bytes + 1;
      whole = h.whole ++ (h.part ++ c.args.black ∷ []);
      part = [];
      pixels_are = grows h c.args.black ∙ sym (append-nil (h.whole ++ (h.part ++ c.args.black ∷ [])));
      many = omega (arith, length-append h.whole (h.part ++ c.args.black ∷ []), many, eight);
      few = omega arith;
      filled = omega (arith, length_push pixels c.args.black, at, filled);
      below = omega (arith, length_push pixels c.args.black, at, filled, below, c.if-filled-size.false);
      made = refl;
      packed = stored_at h.whole (h.part ++ c.args.black ∷ []) c.args.row.now i h.many
          (row_has c.args.size.width h c.args.row.now c.requires)
          (eight_stored (h.part ++ c.args.black ∷ []) (c.args.self.now.made % 128 * 2 + c.from.result) made eight) h.packed;
    }

pub returns-else-count-eq8 : goal.returns-else-count-eq8
returns-else-count-eq8 c pixels h =
    let n = counts h in
    let few = h.few in
    let below = h.below in
    let filled = h.filled in
    let at : c.min-at.result ≡ c.args.self.now.filled = omega (arith, c.min-at.ensures, below, filled) in
    record {
      bytes = h.bytes;
      whole = h.whole;
      part = h.part ++ c.args.black ∷ [];
      pixels_are = grows h c.args.black;
      many = h.many;
      few = omega (arith, length_push h.part c.args.black, at, n, few, c.if-count-eq8.false);
      filled = omega (arith, length_push pixels c.args.black, at, filled);
      below = omega (arith, length_push pixels c.args.black, at, filled, below, c.if-filled-size.false);
      made = made_grown h.part c.args.black c.args.self.now.made c.from.result h.made few (c.from.ensures ∙ bool_weight c.args.black);
      packed = h.packed;
    }
