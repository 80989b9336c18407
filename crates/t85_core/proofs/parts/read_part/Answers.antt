use Rattle.t85_core.specs.Options.{fields_of}
use Rattle.t85_core.proofs.BytesJoin.WalkEnds.{exit}
use Rattle.t85_core.proofs.StreamsAreWalked.PartsAreRead.{not_read, missed_among, missed_piece, missed_entity, read_entity}
use Rattle.t85_core.proofs.parts.read_part.Goals as goal

pub returns-in_err-height-clause-err : goal.returns-in_err-height-clause-err
returns-in_err-height-clause-err c =
    exit _ _ c.from_residual.ensures.1 (missed_piece (fields_of c.args.header.now) c.args.place c.args.moved (not_read _ c.in_err-height.ensures.reads.counts) c.in_err-height.ensures.err)

pub returns-in_err-skip_rest-in-Code-clause-err : goal.returns-in_err-skip_rest-in-Code-clause-err
returns-in_err-skip_rest-in-Code-clause-err c =
    let h = rw c.in-Code.is at c.in_ok-height.ensures.ok in
    exit _ _ c.from_residual-in_err-skip_rest-in-Code.ensures.1
    (missed_entity (fields_of c.args.header.now) c.args.place c.args.moved c.in-Code.first h.0 h.1
    (not_read _ c.in_err-skip_rest-in-Code.ensures.reads.counts) c.in_err-skip_rest-in-Code.ensures.err)

pub returns-in_ok-skip_rest-in-Code-clause-ok : goal.returns-in_ok-skip_rest-in-Code-clause-ok
returns-in_ok-skip_rest-in-Code-clause-ok c =
    let h = rw c.in-Code.is at c.in_ok-height.ensures.ok in
    read_entity (fields_of c.args.header.now) c.args.place c.args.moved _ _ c.in-Code.first h.0 h.1 c.in_ok-skip_rest-in-Code.ensures.ok

pub returns-in_err-height-clause-among : goal.returns-in_err-height-clause-among
returns-in_err-height-clause-among c =
    let other = not_read _ c.in_err-height.ensures.reads.counts in
    exit _ _ c.from_residual.ensures.1
    (missed_among (fields_of c.args.header.now) c.args.place c.args.moved _ _ (missed_piece (fields_of c.args.header.now) c.args.place c.args.moved other c.in_err-height.ensures.err), other)

pub returns-in_err-skip_rest-in-Code-clause-among : goal.returns-in_err-skip_rest-in-Code-clause-among
returns-in_err-skip_rest-in-Code-clause-among c =
    let h = rw c.in-Code.is at c.in_ok-height.ensures.ok in
    let other = not_read _ c.in_err-skip_rest-in-Code.ensures.reads.counts in
    exit _ _ c.from_residual-in_err-skip_rest-in-Code.ensures.1 (
      missed_among (fields_of c.args.header.now) c.args.place c.args.moved _ _
          (missed_entity (fields_of c.args.header.now) c.args.place c.args.moved c.in-Code.first h.0 h.1 other c.in_err-skip_rest-in-Code.ensures.err),
      other,
    )
