use Rattle.std.proofs.Common.{ap, map, subst, ◌≡◌, ◌∙◌}
use Rattle.std.proofs.lemmas.Result.{err_from_is_err_and}
use Rattle.clap.specs.Words.{App, app_of, fault_of, is_simple, is_simple_and_free, matches_of}
use Rattle.program_core.specs.Line.{IsRefusal}
use Rattle.program_core.specs.Jbgtopbm85.{decode_command, decode_matches, decode_refusals}
use Rattle.program_core.proofs.jbgtopbm85.words.job.Goals as goal

pub returns-in_err-matches-clause-fault : goal.returns-in_err-matches-clause-fault
unfolding decode_refusals
returns-in_err-matches-clause-fault g c =
    let is : app_of c.in_ok-command.command ≡ decode_command = c.in_ok-command.ensures in
    let words = map g.S.AsStr.text c.args.words.now in
    let told = c.in_err-matches.ensures.fault (ap is_simple_and_free is) in
    let p = err_from_is_err_and c.from_residual-in_err-matches.result c.from_residual-in_err-matches.ensures.1 in
    rw (p.1, p.2) (subst (λ (a : App). IsRefusal (fault_of a words) c.in_err-matches.field-0.0) is told)

pub returns-clause-values : goal.returns-clause-values
unfolding decode_matches
returns-clause-values g c =
    let is : app_of c.in_ok-command.command ≡ decode_command = c.in_ok-command.ensures in
    let words = map g.S.AsStr.text c.args.words.now in
    rw (c.in_ok-matches.ensures.rows (ap is_simple is) ∙ ap (λ (a : App). matches_of a words) is) at c.in_ok-job.ensures
