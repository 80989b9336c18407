use Rattle.std.proofs.Common.{◌++◌, ◌∙◌, [], Some, true≢false, ap, append-nil, arith, refl, subst, sym}
use Rattle.t85_core.specs.Options.{fields_of}
use Rattle.t85_core.specs.Outcomes.{end_in}
use Rattle.t85_core.specs.Pieces.{HasDecoded, HandsOut, stream_of, row_held}
use Rattle.t85_core.specs.declared.fault.Fault.TheVariants.{Truncated}
use Rattle.t85_core.specs.Lent.{decoder_lent}
use Rattle.t85_core.proofs.BodiesDecode.PieceStands.{call_on, taken_is}
use Rattle.t85_core.proofs.pieces.PieceDecoder.take.Goals as goal

pub returns-clause-call : goal.returns-clause-call
returns-clause-call c = record {
  same = ap fields_of c.go_on-outcome.ensures.leaves.header;
  bound = omega arith;
  ends = λ all is. absurd (true≢false (sym all ∙ (c.go_on-outcome.ensures.leaves.more (ap Some is)).0));
  few_left = λ is. let few = (c.go_on-outcome.ensures.leaves.more (ap Some is)).3 in omega (arith, few);
  ended = c.end_of-self.ensures;
  again = λ end is. absurd (c.in_default.not-Some end is);
  row = λ is. call_on (decoder_lent c.args.self.now c.args.lent.now) (decoder_lent c.go_on-outcome.new.self c.go_on-outcome.new.lent) _ c.args.piece.now c.go_on-outcome.new.piece.rest.now
      (row_held (decoder_lent c.go_on-outcome.new.self c.go_on-outcome.new.lent)) _ refl refl refl refl refl refl refl (c.end_of-self.ensures ∙ ap end_in is)
      (c.go_on-outcome.ensures.leaves.row (ap Some is));
  waits = λ is late marked text out rest n s follows i. c.go_on-outcome.ensures.leaves.waits (ap Some is) late marked text out rest n s.stands follows i;
  more = λ is text out s.
      let k = c.go_on-outcome.ensures.leaves.more (ap Some is) in (
        subst (HasDecoded _ _) (append-nil out) (call_on (decoder_lent c.args.self.now c.args.lent.now)
            (decoder_lent c.go_on-outcome.new.self c.go_on-outcome.new.lent) _ c.args.piece.now c.go_on-outcome.new.piece.rest.now [] _ refl refl refl refl refl refl refl
            (c.end_of-self.ensures ∙ ap end_in is) k.1 text out s),
        (λ waits. subst (λ z. HandsOut (stream_of (decoder_lent c.args.self.now c.args.lent.now)) z c.go_on-outcome.new.self.image.height Truncated out) (append-nil (text ++ c.args.piece.now))
            (k.2 waits text out [] s.stands (λ _. refl))),
        (λ waits. k.4 waits text out s.stands),
      );
  done = λ n is.
      let k = c.go_on-outcome.ensures.leaves.done n (ap Some is) in (k.0, (λ text out rest s follows. k.1 text out rest s.stands follows));
  consumed = λ n is text out rest s follows.
      let k = (c.go_on-outcome.ensures.leaves.done n (ap Some is)).2 text out rest s.stands follows in (
        text ++ k.0,
        ap (λ z. text ++ z) (taken_is c.args.piece.now c.go_on-outcome.new.piece.rest.now k.0 k.1) ∙ sym (append-nil (text ++ k.0)),
        k.2,
      );
  broken = λ f is text out rest s follows. c.go_on-outcome.ensures.leaves.broken f (ap Some is) text out rest s.stands follows;
}
