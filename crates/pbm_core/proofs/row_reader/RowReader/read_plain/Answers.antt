use Rattle.std.proofs.Common.{arith, rules, refl, sym, subst, ◌∙◌, get_or}
use Rattle.pbm_core.specs.declared.form.Form.TheVariants.{Plain}
use Rattle.pbm_core.specs.Pbm.{IsWhite}
use Rattle.pbm_core.specs.Image.{EndsInPixels, IsRowOf}
use Rattle.pbm_core.specs.declared.fault.PbmFault.TheVariants.{BadDigit}
use Rattle.pbm_core.specs.RowPieces.{ScansPixels}
use Rattle.pbm_core.proofs.ListsGrow.{taken_more}
use Rattle.pbm_core.proofs.RowGrows.{white_more, digit_more, digit_last, no_digit}
use Rattle.pbm_core.proofs.row_reader.RowReader.read_plain.Goals as goal

pub bytes-preserved-then-not-put : goal.bytes-preserved-then-not-put
bytes-preserved-then-not-put c =
    let v = c.bytes.invariant in
    record {
      within = omega (arith, c.bytes-test.true);
      long = c.put.auto.row ∙ v.long;
      scans = (λ before is.
          subst (λ z. ScansPixels c.put.new.self c.args.size.width c.put.new.row z) (sym (taken_more before c.args.piece.now c.bytes.taken c.bytes-test.true))
          (digit_more (get_or c.args.piece.now c.bytes.taken 0) c.in-Some.black (v.scans before is) c.in-Some.ensures.some c.if-not-put.ensures));
    }

pub bytes-preserved : goal.bytes-preserved
bytes-preserved c =
    let v = c.bytes.invariant in
    let white : IsWhite (get_or c.args.piece.now c.bytes.taken 0) = search rules in
    record {
      within = omega (arith, c.bytes-test.true);
      long = v.long;
      scans = (λ before is.
          subst (λ z. ScansPixels c.bytes.self c.args.size.width c.bytes.row z) (sym (taken_more before c.args.piece.now c.bytes.taken c.bytes-test.true))
          (white_more (get_or c.args.piece.now c.bytes.taken 0) (v.scans before is) white));
    }

pub returns-else-not-put-clause-takes : goal.returns-else-not-put-clause-takes
returns-else-not-put-clause-takes c before is =
    let v = c.bytes.invariant in
    let s = v.scans before is in
    let last = c.if-not-put.ensures s.pixels s.holds in
    record {
      decides = (
        subst (λ z. IsRowOf Plain c.args.size.width z c.put.new.row) (sym (taken_more before c.args.piece.now c.bytes.taken c.bytes-test.true))
            (digit_last (get_or c.args.piece.now c.bytes.taken 0) c.in-Some.black s c.in-Some.ensures.some c.args.size.some_width last.0 last.1),
        last.2,
      );
      all_taken = (λ h. cc);
    }

pub returns-else-is_white-clause-takes : goal.returns-else-is_white-clause-takes
returns-else-is_white-clause-takes c before is =
    let v = c.bytes.invariant in
    let other : ¬ IsWhite (get_or c.args.piece.now c.bytes.taken 0) = search rules in
    record {
      decides = (
        subst (λ z. EndsInPixels c.args.size.width z BadDigit) (sym (taken_more before c.args.piece.now c.bytes.taken c.bytes-test.true))
            (no_digit (get_or c.args.piece.now c.bytes.taken 0) (v.scans before is) other (c.in-None.ensures.none refl)),
        λ h. cc,
      );
      all_taken = (λ h. cc);
    }
