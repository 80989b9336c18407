use Rattle.std.proofs.Common.{◌≡◌, ◌+◌, ◌-◌, ◌∙◌, arith, refl}
use Rattle.t85_core.specs.Options.{fields_of}
use Rattle.t85_core.proofs.BytesJoin.WalkEnds.{exit}
use Rattle.t85_core.proofs.StreamsAreWalked.StripesAreSkipped.{stripes_none, stripes_more, stripes_to, cut_stripes}
use Rattle.t85_core.proofs.height.skip_stripes.Goals as goal

pub stripes-init : goal.stripes-init
stripes-init g c = record { has = stripes_none (fields_of c.args.header.now) c.args.moved_before _ _ (omega arith); least = omega arith; few = omega arith; same_source = refl; unfailed = refl }

pub returns-in_err-skipped-clause-err : goal.returns-in_err-skipped-clause-err
returns-in_err-skipped-clause-err g c =
    let at : c.stripes.entities ≡ c.args.from + (c.stripes.entities - c.args.from) = omega arith in
    exit _ _ c.from_residual.ensures.1 (cut_stripes c.stripes.invariant.has c.args.from c.stripes.entities c.args.count at c.stripes-test.true c.in_err-skipped.ensures.err)

pub returns-in-Some-clause-ok : goal.returns-in-Some-clause-ok
returns-in-Some-clause-ok g c =
    let at : c.stripes.entities ≡ c.args.from + (c.stripes.entities - c.args.from) = omega arith in
    (c.stripes-test.true, stripes_to c.stripes.invariant.has c.args.from c.stripes.entities at (rw c.in-Some.is at c.in_ok-skipped.ensures.ok))

pub stripes-preserved : goal.stripes-preserved
stripes-preserved g c = record {
  has = stripes_more c.stripes.invariant.has _ _ (omega arith) (rw c.in-None.is at c.in_ok-skipped.ensures.ok) c.saturating_add.ensures;
  least = omega arith;
  few = omega (arith, c.stripes.invariant.few, c.stripes.invariant.least, c.in_ok-skipped.ensures.few);
  same_source = c.in_ok-skipped.ensures.reads.same_source ∙ c.stripes.invariant.same_source;
  unfailed = c.in_ok-skipped.ensures.reads.counts ∙ c.stripes.invariant.unfailed;
}
