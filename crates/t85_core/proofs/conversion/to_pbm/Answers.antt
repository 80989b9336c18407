use Rattle.std.proofs.Common.{inl, inr, refl, sym, ◌∙◌}
use Rattle.t85_core.specs.Options.{fields_of}
use Rattle.t85_core.proofs.BytesJoin.InputHoldsBytes.{Keeps-same}
use Rattle.t85_core.proofs.BodiesDecode.StreamIsConverted.{goes_once, goes_twice}
use Rattle.t85_core.proofs.conversion.to_pbm.Goals as goal

pub returns-then-not-is_variable-clause-outcome : goal.returns-then-not-is_variable-clause-outcome
returns-then-not-is_variable-clause-outcome g c =
    let taken = c.in_ok-header.ensures.accepted in
    goes_once c.coder_laws.ensures (fields_of c.in_ok-header.header) c.args.max_rows _ (g.R.Input.view c.read.new.input).remaining _ _ _ _ _ _ _ _ _ _ _ _ c.convert.result
    (record { given = taken.0; long = taken.1; taken = taken.2; header_of = taken.3 }) (sym c.is_variable.ensures ∙ c.if-not-is_variable.true)
    (rw c.in_ok-header.ensures.counts at c.convert.ensures.outcome) refl

pub returns-in-Some-clause-outcome : goal.returns-in-Some-clause-outcome
returns-in-Some-clause-outcome g c =
    let taken = c.in_ok-header.ensures.accepted in
    goes_twice c.coder_laws.ensures (λ reading. (g.Second.Input.view reading).remaining) (λ reading. (g.Second.Input.view reading).failures) (fields_of c.in_ok-header.header) c.args.max_rows _
    (g.R.Input.view c.read.new.input).remaining _ _ _ _ _ _ _ _ _ _ c.convert_again.result
    (record { given = taken.0; long = taken.1; taken = taken.2; header_of = taken.3 }) (sym c.is_variable.ensures ∙ c.if-not-is_variable.false)
    (rw c.in_ok-header.ensures.counts at c.convert_again.ensures.outcome) c.args.again.now c.in-Some.is

pub returns-in-None-clause-outcome : goal.returns-in-None-clause-outcome
returns-in-None-clause-outcome g c =
    let taken = c.in_ok-header.ensures.accepted in
    record {
      went = inr (inr (inl (
        record {
          header = fields_of c.in_ok-header.header;
          taken = record { given = taken.0; long = taken.1; taken = taken.2; header_of = taken.3 };
          variable = sym c.is_variable.ensures ∙ c.if-not-is_variable.false;
          once = rw c.in-None.is;
          answer_is = refl;
          unfailed = c.in_ok-header.ensures.counts;
          nothing = record { kept = Keeps-same _; unfailed = refl };
        },
        refl,
      )));
      denoted = tt;
    }
