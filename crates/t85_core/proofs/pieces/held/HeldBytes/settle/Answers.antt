use Rattle.std.proofs.Common.{◌≡◌, ◌++◌, ◌-◌, min, take, drop, refl, sym, ap, ◌∙◌, arith}
use Rattle.t85_core.specs.Feeds.{held_bytes}
use Rattle.t85_core.proofs.BodiesDecode.DecoderHoldsRest.{settled_all, settled_earlier, settled_first}
use Rattle.t85_core.proofs.pieces.held.HeldBytes.settle.Goals as goal

pub returns-in-More : goal.returns-in-More
returns-in-More c = record {
  outcome_is = sym c.in-More.is;
  bound = omega arith;
  rest = settled_all c.args.bytes.now (held_bytes c.keep.new.self) c.args.count c.args.call.taken (c.keep.ensures ∙ c.split_at.ensures.back);
  all = λ _. refl;
  earlier = λ other. absurd (other c.in-More.is);
  none = λ z other. absurd (other c.in-More.is);
}

pub returns-in_default : goal.returns-in_default
returns-in_default c =
    let held : held_bytes c.keep-in_default.new.self ≡ drop (min c.args.call.taken c.args.count) (take c.args.count c.args.bytes.now) = c.keep-in_default.ensures ∙ c.split_at-in_default-2.ensures.back
    ∙ ap (drop c.min-taken.result) c.split_at-in_default.ensures.front ∙ ap (λ n. drop n (take c.args.count c.args.bytes.now)) c.min-taken.ensures in
    let sum : c.args.call.taken - c.min-taken.result ≡ c.args.call.taken - c.args.count = omega (arith, c.min-taken.ensures) in
    record {
      outcome_is = refl;
      bound = omega (arith, sum, c.requires.bound);
      rest = ap (λ n. held_bytes c.keep-in_default.new.self ++ drop n (drop c.args.count c.args.bytes.now)) sum
          ∙ settled_first c.args.bytes.now (held_bytes c.keep-in_default.new.self) c.args.count c.args.call.taken c.requires.within held;
      all = λ e. absurd (c.in_default.not-More e);
      earlier = λ _. settled_earlier c.args.bytes.now (held_bytes c.keep-in_default.new.self) c.args.count c.args.call.taken (c.args.call.taken - c.min-taken.result) c.requires.within held sum;
      none = λ z _.
          let first : min c.args.call.taken c.args.count ≡ 0 = omega (arith, z) in
          let none : c.args.call.taken - c.args.count ≡ 0 = omega (arith, z) in (held ∙ ap (λ n. drop n (take c.args.count c.args.bytes.now)) first, sum ∙ none);
    }
