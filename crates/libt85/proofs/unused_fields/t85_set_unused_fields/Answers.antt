use Rattle.std.proofs.Common.{inl, inr, sym, subst, ◌++◌, drop}
use Rattle.libt85.specs.UnusedFields.{SetsUnused, unused}
use Rattle.libt85.proofs.UnusedBytesChangeNothing.{accepts, rejects, sets_of}
use Rattle.libt85.proofs.unused_fields.t85_set_unused_fields.Goals as goal

pub returns-in-Ok-read_header : goal.returns-in-Ok-read_header
returns-in-Ok-read_header c =
    let laws = c.headers.ensures in
    let sets = sets_of laws _ _ (unused c.args.my c.args.order c.args.options) _ c.in-Ok.ensures.accepted c.copy_from_slice.ensures.after c.ranges.options.fits in
    inl (subst (λ s. SetsUnused c.args.stream.now (s ++ drop 20 c.args.stream.now) (unused c.args.my c.args.order c.args.options) 0) (sym c.copy_from_slice-in-Ok-read_header.ensures.after)
    (accepts laws _ _ _ _ _ sets c.in-Ok-read_header.ensures.accepted))

pub returns-in-Err-read_header : goal.returns-in-Err-read_header
returns-in-Err-read_header c =
    let laws = c.headers.ensures in
    let sets = sets_of laws _ _ (unused c.args.my c.args.order c.args.options) _ c.in-Ok.ensures.accepted c.copy_from_slice.ensures.after c.ranges.options.fits in
    inr (inr (rejects laws _ _ _ _ _ _ sets c.in-Err-read_header.ensures.refused c.number-in-Err-read_header.ensures))
