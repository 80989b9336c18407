use Rattle.std.proofs.Common.{◌++◌, [], ap, subst}
use Rattle.std.specs.Prelude.{flat_map, true}
use Rattle.std.proofs.lemmas.Result.{IfOk-weaker}
use Rattle.t85_core.specs.Options.{fields_of}
use Rattle.t85_core.specs.Pieces.{row_given}
use Rattle.t85_core.specs.Lent.{decoder_over}
use Rattle.examples.specs.Pieces.{SaysOfRows}
use Rattle.examples.proofs.pieces.rows_of_body.Goals as goal

pub returns : goal.returns
returns c =
    let body = c.args.first.now ++ c.args.second.now in
    IfOk-weaker c.rows_of_two.result _ _ (λ answer t. record {
      decoder = decoder_over c.start-decoder.result c.start-decoder.new.window c.start-decoder.new.learned;
      fresh = c.start-decoder.ensures.none;
      last = decoder_over c.rows_of_two.new.decoder c.rows_of_two.new.window c.rows_of_two.new.learned;
      calls = t.calls;
      made = t.made;
      appended = t.appended;
      full = t.full;
      ends = t.ends;
      says = subst (λ h. SaysOfRows h true (decoder_over c.rows_of_two.new.decoder c.rows_of_two.new.window c.rows_of_two.new.learned) answer body (flat_map row_given t.calls))
          (ap fields_of c.start-decoder.ensures.stream) (t.tells [] [] c.start-decoder.ensures.none);
    }) c.rows_of_two.ensures.read
