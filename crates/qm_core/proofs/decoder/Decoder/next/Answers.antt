use Rattle.std.proofs.Common.{◌≤◌, List, [], ◌++◌, append-nil, sym}
use Rattle.qm_core.specs.Place.{state_of}
use Rattle.qm_core.specs.Source.{Pulls, Gives}
use Rattle.qm_core.specs.Decoder.{DecoderIsAt}
use Rattle.qm_core.specs.declared.source.Pulled.{Pulled}
use Rattle.qm_core.proofs.DecoderDecides.{next_ok, next_err}
use Rattle.qm_core.proofs.decoder.Decoder.next.Goals as goal
use Rattle.qm_core.proofs.decoder.Decoder.next.Goals.{then-self-lt16+in_ok-fill, else-self-lt16}

pub returns-in_err-fill-clause-next : goal.returns-in_err-fill-clause-next
returns-in_err-fill-clause-next g c = λ p answers s.
    next_err {s = state_of p c.args.learned.now} (c.in_err-fill.ensures.fills p answers s) c.from_residual.ensures.0

pub returns-clause-next : goal.returns-clause-next
returns-clause-next g c = λ p answers s.
    let ready : (more : List Pulled) × Gives (Pulls g.S.CodeBytes.gives g.S.CodeBytes.failed) c.args.source.now more c.if-self-lt16.source
    × DecoderIsAt c.if-self-lt16.self p (answers ++ more) × (16 ≤ c.if-self-lt16.self.bits) =
    elim c.if-self-lt16.branch [
      | then-self-lt16+in_ok-fill w ↦
          let f = w.in_ok-fill.ensures.fills p answers s in
          (f.more, rw w.source-is f.gives, rw w.self-is f.stands, rw w.self-is w.in_ok-fill.ensures.bits)
      | else-self-lt16 w ↦
          ([], sym w.source-is, rw (w.self-is, append-nil) s, rw w.self-is w.if-self-lt16.false)
    ] in
    next_ok {s = state_of p c.args.learned.now} ready.0 ready.1 ready.2
    (record { enough = ready.3; heard = c.decide.ensures.heard; less = c.decide.ensures.bits; registers = c.decide.ensures.place p })
    (c.decide.ensures.learned p ready.2.registers.size)
