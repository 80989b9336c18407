use Rattle.std.proofs.Common.{inl, inr, refl}
use Rattle.t85_core.specs.Options.{fields_of}
use Rattle.t85_core.proofs.BytesJoin.InputHoldsBytes.{Keeps-same}
use Rattle.t85_core.proofs.BodiesDecode.StreamIsConverted.{same_fields, other_fields}
use Rattle.t85_core.proofs.conversion.convert_again.Goals as goal

pub returns-then-not-is_same-clause-outcome : goal.returns-then-not-is_same-clause-outcome
returns-then-not-is_same-clause-outcome g c =
    let taken = c.in-Ok.ensures.accepted in
    inr (
      c.in_ok-height.height,
      c.in_ok-height.ensures,
      inr (inl (record {
        other = fields_of c.in-Ok.other;
        taken = record { given = taken.0; long = taken.1; taken = taken.2; header_of = taken.3 };
        differs = other_fields (fields_of c.in-Ok.other) (fields_of c.args.header.now) c.is_same.result c.is_same.ensures c.if-not-is_same.true;
        answer_is = refl;
        unfailed = c.in-Ok.ensures.counts;
        nothing = record { kept = Keeps-same _; unfailed = refl };
      })),
    )

pub returns-else-not-is_same-clause-outcome : goal.returns-else-not-is_same-clause-outcome
returns-else-not-is_same-clause-outcome g c =
    let taken = c.in-Ok.ensures.accepted in
    let same = same_fields (fields_of c.in-Ok.other) (fields_of c.args.header.now) c.is_same.result c.is_same.ensures c.if-not-is_same.false in
    inr (
      c.in_ok-height.height,
      c.in_ok-height.ensures,
      inr (inr (record {
        body = (g.Second.Input.view c.read.new.input).remaining;
        taken = rw (← same) (record { given = taken.0; long = taken.1; taken = taken.2; header_of = taken.3 });
        converts = rw c.in-Ok.ensures.counts at c.convert.ensures.outcome;
      })),
    )
