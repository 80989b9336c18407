use Rattle.std.proofs.Common.{arith, sym, subst, ◌++◌, take}
use Rattle.pbm_core.specs.HeaderPieces.{HasHeaderError}
use Rattle.pbm_core.proofs.ListsGrow.{taken_more}
use Rattle.pbm_core.proofs.HeaderGrows.{scanned_cut}
use Rattle.pbm_core.proofs.header_reader.HeaderReader.read.Goals as goal

pub returns-in-Broken-clause-takes : goal.returns-in-Broken-clause-takes
returns-in-Broken-clause-takes c before is =
    let v = c.bytes.invariant in
    let broken = c.in-Broken.ensures (before ++ take c.bytes.taken c.args.piece.now) (v.scanned before is) in
    record {
      decides = subst (λ z. HasHeaderError z c.in-Broken.fault) (sym (taken_more before c.args.piece.now c.bytes.taken c.bytes-test.true)) broken;
      all_taken = (λ h. cc);
    }

pub returns-clause-takes : goal.returns-clause-takes
returns-clause-takes c before is =
    let v = c.bytes.invariant in
    let scanned = v.scanned before is in
    record {
      decides = (scanned, scanned_cut c.bytes.self.place c.bytes.self (before ++ take c.bytes.taken c.args.piece.now) scanned);
      all_taken = (λ h. omega (arith, v.within, c.bytes-test.false));
    }
