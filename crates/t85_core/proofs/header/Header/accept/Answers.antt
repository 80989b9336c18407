use Rattle.std.proofs.Common.{◌∙◌, drop, refl, sym, arith}
use Rattle.byteorder.specs.Numbers.{big_from-take}
use Rattle.t85_core.proofs.header.Header.accept.Goals as goal

pub returns-clause-accepted : goal.returns-clause-accepted
returns-clause-accepted c = record {
  whole = omega arith;
  dl = c.if-bytes-ne0-2.false;
  d = c.if-bytes-ne0-3.false;
  p = c.if-bytes-ne1.false;
  zero = c.if-bytes-ne0.false;
  xd = sym (big_from-take 0 4 16 (drop 4 c.args.bytes.now) (omega arith)) ∙ sym c.read_u32-xd.ensures;
  yd = sym (big_from-take 0 4 12 (drop 8 c.args.bytes.now) (omega arith)) ∙ sym c.read_u32-yd.ensures;
  l0 = sym (big_from-take 0 4 8 (drop 12 c.args.bytes.now) (omega arith)) ∙ sym c.read_u32-l0.ensures;
  mx = refl;
  order = c.if-bytes-ge16.false;
  options = refl;
  accepted = record {
    width_from = omega arith;
    width_to = c.if-xd-gt1048576.false;
    height_from = omega arith;
    height_to = omega arith;
    stripe_from = omega arith;
    stripe_to = omega arith;
    offset_to = c.if-mx-gt127.false;
    options_to = c.if-options-ge128.false;
    no_table = c.if-options-eq6.false;
  };
}
