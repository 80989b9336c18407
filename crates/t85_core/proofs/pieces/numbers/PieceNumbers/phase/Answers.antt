use Rattle.std.proofs.Common.{Some, ap, sym, ◌∙◌}
use Rattle.t85_core.specs.Phases.{phase_stage}
use Rattle.t85_core.proofs.BodiesDecode.NumbersFixDecoder.{code_phase_of, first_phase_of, some_is}
use Rattle.t85_core.proofs.pieces.numbers.PieceNumbers.phase.Goals as goal

pub returns-in-Head-clause-all : goal.returns-in-Head-clause-all
returns-in-Head-clause-all c = λ phase k s fits.
    let first = first_phase_of c.args.self.now phase c.in-Head.head c.if-self-eq0.false k (sym c.in-Head.is ∙ some_is (c.in_ok-stage.ensures.all (phase_stage phase) s fits)) in
    c.first.ensures.all first.head first.waits first.start first.numbers ∙ ap Some (sym first.is)

pub returns-in-Code-clause-all : goal.returns-in-Code-clause-all
returns-in-Code-clause-all c = λ phase k s fits.
    code_phase_of c.args.self.now phase c.in-Code.code c.phase_in.result c.if-self-eq0.false k
    (sym c.in-Code.is ∙ some_is (c.in_ok-stage.ensures.all (phase_stage phase) s fits)) c.phase_in.ensures.code c.phase_in.ensures.behind
