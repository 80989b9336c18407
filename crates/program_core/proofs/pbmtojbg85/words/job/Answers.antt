use Rattle.program_core.proofs.GetterReadsNumber.{number_of_rows}
use Rattle.program_core.proofs.DefaultsGiveNumbers.{default_given, lone_at}
use Rattle.std.proofs.Common.{arith, codes, inl, inr, is_some, refl, sym, ap, map, subst, ◌≡◌, ◌∙◌, List}
use Rattle.std.proofs.lemmas.Result.{IfErr-weaker, err_from_is_err_and}
use Rattle.clap.specs.Words.{App, Row, found_of, app_of, fault_of, is_simple, is_simple_and_free, matches_of, rows_of}
use Rattle.program_core.specs.Line.{IsRefusal}
use Rattle.program_core.specs.Pbmtojbg85.{IsFaultOf, IsOptionFault, encode_command, encode_matches, encode_refusals}
use Rattle.program_core.proofs.pbmtojbg85.words.job.Goals as goal

pub returns-in_err-matches-clause-fault : goal.returns-in_err-matches-clause-fault
unfolding encode_refusals
returns-in_err-matches-clause-fault g c =
    let is : app_of c.in_ok-command.command ≡ encode_command = c.in_ok-command.ensures in
    let words = map g.S.AsStr.text c.args.words.now in
    let told = c.in_err-matches.ensures.fault (ap is_simple_and_free is) in
    let p = err_from_is_err_and c.from_residual-in_err-matches.result c.from_residual-in_err-matches.ensures.1 in
    rw (p.1, p.2) (inl (subst (λ (a : App). IsRefusal (fault_of a words) c.in_err-matches.field-0.0) is told))

pub job_of-requires : goal.job_of-requires
unfolding lone_at
job_of-requires g c =
    let is : app_of c.in_ok-command.command ≡ encode_command = c.in_ok-command.ensures in
    let m = c.in_ok-matches.matches in
    let given = default_given c.in_ok-command.command m c.in_ok-matches.ensures.parsed is in
    let f = found_of m in
    record {
      p = ap is_some (sym (number_of_rows f (codes "options"))) ∙ given 0 (codes "options") 112 (codes "8") (omega arith) (λ d. refl) refl refl refl refl;
      s = ap is_some (sym (number_of_rows f (codes "stripe"))) ∙ given 1 (codes "stripe") 115 (codes "128") (omega arith) (λ d. refl) refl refl refl refl;
      m = ap is_some (sym (number_of_rows f (codes "move"))) ∙ given 2 (codes "move") 109 (codes "0") (omega arith) (λ d. refl) refl refl refl refl;
    }

pub returns-clause-values : goal.returns-clause-values
unfolding encode_matches
returns-clause-values g c =
    let is : app_of c.in_ok-command.command ≡ encode_command = c.in_ok-command.ensures in
    let words = map g.S.AsStr.text c.args.words.now in
    rw (c.in_ok-matches.ensures.rows (ap is_simple is) ∙ ap (λ (a : App). matches_of a words) is) at c.job_of.ensures.values

pub returns-clause-fault : goal.returns-clause-fault
unfolding encode_matches
returns-clause-fault g c =
    let is : app_of c.in_ok-command.command ≡ encode_command = c.in_ok-command.ensures in
    let words = map g.S.AsStr.text c.args.words.now in
    let rows_is = c.in_ok-matches.ensures.rows (ap is_simple is) ∙ ap (λ (a : App). matches_of a words) is in
    IfErr-weaker c.job_of.result (IsOptionFault (rows_of (found_of c.in_ok-matches.matches))) (IsFaultOf words)
    (λ fault told. inr (subst (λ (rows : List Row). IsOptionFault rows fault) rows_is told)) c.job_of.ensures.fault
