use Rattle.std.proofs.Common.{◌≡◌, ◌-◌, ℕ, true, length, min, length-drop, ap, arith}
use Rattle.devices.specs.Buffered.{bytes_between}
use Rattle.t85_core.proofs.BytesJoin.InputHoldsBytes.{kept_last}
use Rattle.t85_core.proofs.byte_source.BufferedHeldSource.keep.Goals as goal

pub returns : goal.returns
returns g c =
    let s = c.args.self.now in
    let held = bytes_between s.bytes s.at s.end in
    let long = ap length c.held-held.ensures.all in
    let most = c.min.ensures in
    let count : ℕ = length c.held-held.result.now - c.min.result in
    let fits : c.pass.result ≡ true = c.pass.ensures.enough (omega (arith, long)) in
    let passed = c.pass.ensures.passed fits in
    let rest = c.pass.ensures.rest fits in
    let few = ap length rest in
    let these : count ≡ length held - min c.args.left (length held) = omega (arith, long, most) in
    record {
      taken = λ front back is long. kept_last _ _ held _ these rest passed.taken front back is long;
      within = omega (arith, few, length-drop count held, long, most);
      still = omega (arith, few, length-drop count held, long, most, passed.left, passed.within);
      beyond = ap (λ v. v.remaining) c.pass.ensures.behind;
      unfailed = passed.failures;
      same_source = passed.same_source;
    }
