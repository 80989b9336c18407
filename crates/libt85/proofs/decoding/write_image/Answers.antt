use Rattle.std.proofs.Common.{inl, inr, sym, subst, ap, ◌∙◌, ◌++◌, flat_map, arith, append_assoc}
use Rattle.devices.specs.Device.{AppendsBeginning, one_more}
use Rattle.pbm_core.specs.Pbm.{header_text}
use Rattle.raster_core.specs.Packed.{packed_row}
use Rattle.t85_core.specs.Options.{fields_of}
use Rattle.libt85.proofs.BeginningsGrow.{begun_after, begun_longer}
use Rattle.libt85.proofs.PremisesHold.{bytes_each, in_use}
use Rattle.libt85.proofs.TextIsDelivered.{all_put, begins_so, none_failed, rows_are, some_put, spilled_over, unspilled}
use Rattle.libt85.proofs.RoomSuffices.{nothing_in, text_of}
use Rattle.libt85.proofs.decoding.write_image.Goals as goal

pub returns-in-Err-clause-writes : goal.returns-in-Err-clause-writes
returns-in-Err-clause-writes c =
    let o = c.outcomes.ensures.one_outcome (fields_of c.args.header.now) c.args.height c.args.body.now (in_use c.args.header.now c.args.height c.requires.from c.requires.to)
    (bytes_each c.args.body.now (λ i. omega (arith, c.type_inv.body i))) in
    let out = c.write_header.new.output in
    let empty = nothing_in c.args.room.now (c.requires.fresh, c.requires.empty, c.requires.unspilled) in
    let failed = c.in-Err.ensures.failures ∙ ap one_more c.requires.fresh in
    let begins = begins_so _ _ _ o.fault o.text o.is in
    let cut = subst (AppendsBeginning _ _) (sym begins.1) (begun_longer begins.0 c.in-Err.ensures.cut) in
    record { outcome = o; delivers = inr (spilled_over out.spilled empty (out.full (omega (arith, failed))) out.spilled_last cut) }

pub returns-then-is_some-clause-writes : goal.returns-then-is_some-clause-writes
returns-then-is_some-clause-writes c =
    let o = c.outcomes.ensures.one_outcome (fields_of c.args.header.now) c.args.height c.args.body.now (in_use c.args.header.now c.args.height c.requires.from c.requires.to)
    (bytes_each c.args.body.now (λ i. omega (arith, c.type_inv.body i))) in
    let out = c.decode_rows-answer.new.sink in
    let rows = c.decode_rows-answer.ensures.rows in
    let empty = nothing_in c.args.room.now (c.requires.fresh, c.requires.empty, c.requires.unspilled) in
    let cut = subst (AppendsBeginning _ _) (sym (rows_are o rows)) (begun_after (header_text c.args.header.now.xd c.args.height) c.in-Ok.ensures.whole (some_put o _ rows)) in
    record { outcome = o; delivers = inr (spilled_over out.spilled empty (sym c.is_some.ensures ∙ c.if-is_some.true) out.spilled_last cut) }

pub returns-clause-writes : goal.returns-clause-writes
returns-clause-writes c =
    let o = c.outcomes.ensures.one_outcome (fields_of c.args.header.now) c.args.height c.args.body.now (in_use c.args.header.now c.args.height c.requires.from c.requires.to)
    (bytes_each c.args.body.now (λ i. omega (arith, c.type_inv.body i))) in
    let out = c.decode_rows-answer.new.sink in
    let rows = c.decode_rows-answer.ensures.rows in
    let empty = nothing_in c.args.room.now (c.requires.fresh, c.requires.empty, c.requires.unspilled) in
    let none = sym c.is_some.ensures ∙ c.if-is_some.false in
    let put = all_put o _ rows (c.in-Ok.ensures.failures ∙ c.requires.fresh) (none_failed out.failures _ none out.full) in
    let packed = flat_map packed_row rows.rows in
    let head = header_text c.args.header.now.xd c.args.height in
    let whole = put.0 ∙ ap (λ l. l ++ packed) c.in-Ok.ensures.whole ∙ append_assoc (text_of c.args.room.now) head packed ∙ ap (λ l. text_of c.args.room.now ++ l) (sym (rows_are o rows)) in
    record { outcome = o; delivers = inl (unspilled out.spilled empty none out.within (c.answer_status.ensures ∙ put.1) whole) }
