use Rattle.std.specs.Prelude.{IfErr}
use Rattle.std.proofs.Common.{rules, ◌≡◌, ◌≤◌, ◌∙◌, ap, sym, subst}
use Rattle.t85_core.specs.Private.Buffers.{SameSink}
use Rattle.t85_core.specs.Private.Views.{sink_view}
use Rattle.t85_core.specs.Failures.{CountsWrite}
use Rattle.t85_core.specs.declared.fault.Fault.TheVariants.{Write}
use Rattle.t85_core.proofs.ImagesEncode.TargetAcceptsRow.{end_stays, end_inked, sent_err, sent_counts}
use Rattle.t85_core.proofs.encoding.steps.end_code.Given as given
use Rattle.t85_core.proofs.encoding.steps.end_code.Goals as goal

-- it is the same target
stays : (g : given.Over) (c : goal.After-written g) → SameSink (sink_view g.P.ByteTarget.view c.new-ink.result) (sink_view g.P.ByteTarget.view c.restart.new.out)
stays g c =
    end_stays (sink_view g.P.ByteTarget.view) (λ s. (g.P.ByteTarget.view s.target.now).failures) c.new-ink.result c.restart.new.out _
    (c.restart.ensures.code c.requires.somewhere.0 c.requires.somewhere.1 c.requires.going c.requires.somewhere.2)

pub returns-clause-ended : goal.returns-clause-ended
returns-clause-ended g c p pushed codes =
    rw c.written.ensures
    let same = (stays g c).same_buffer in
    end_inked (sink_view g.P.ByteTarget.view) (λ s. (g.P.ByteTarget.view s.target.now).failures) c.new-ink.result c.restart.new.out _ _
    (ap (λ m. (g.P.ByteTarget.view m.now).text) c.new-ink.ensures.lent) (ap (λ t. (g.P.ByteTarget.view t).text) (search (rules, same))) _ _ c.restart.result
    (c.restart.ensures.code p pushed c.requires.going codes)

pub returns-clause-fails : goal.returns-clause-fails
returns-clause-fails g c =
    let same = (stays g c).same_buffer in
    let last = ap (λ t. (g.P.ByteTarget.view t).failures) (search (rules, same)) in (
      subst (λ r. IfErr r (λ f. f ≡ Write)) (sym c.written.ensures) (sent_err c.restart.result),
      record {
        counts = subst (λ n. CountsWrite (g.P.ByteTarget.view c.args.target.now).failures n c.written.result) last
            (subst (λ n. CountsWrite n (g.P.ByteTarget.view c.restart.new.out.target.now).failures c.written.result) (ap (λ m. (g.P.ByteTarget.view m.now).failures) c.new-ink.ensures.lent)
            (subst (CountsWrite _ _) (sym c.written.ensures) (sent_counts c.restart.result _ _ c.restart.ensures.fails.0.2 (c.restart.ensures.fails.0.3 c.requires.going))));
        grows = subst (λ n. (g.P.ByteTarget.view c.args.target.now).written ≤ n) (ap (λ t. (g.P.ByteTarget.view t).written) (search (rules, same)))
            (subst (λ n. n ≤ (g.P.ByteTarget.view c.restart.new.out.target.now).written) (ap (λ m. (g.P.ByteTarget.view m.now).written) c.new-ink.ensures.lent) (stays g c).grows);
        same_writer = sym (ap (λ t. (g.P.ByteTarget.view t).writer) (search (rules, same))) ∙ (stays g c).same_writer ∙ ap (λ m. (g.P.ByteTarget.view m.now).writer) c.new-ink.ensures.lent;
      },
    )
