use Rattle.std.proofs.Common.{Some, true, refl, subst, rules, arith}
use Rattle.t85_core.specs.Lent.{PieceView, decoder_lent, phase_lent}
use Rattle.t85_core.specs.Options.{fields_of}
use Rattle.t85_core.specs.Phases.{phase_waits}
use Rattle.t85_core.specs.Private.Behind.{StopsBehind}
use Rattle.t85_core.specs.States.Behind.{behind_at}
use Rattle.t85_core.specs.Private.PieceSteps.{is_last_of}
use Rattle.t85_core.specs.declared.fault.Fault.TheVariants.{Truncated}
use Rattle.t85_core.specs.declared.lent.Lent.{Lent}
use Rattle.t85_core.specs.declared.pieces.Outcome.TheVariants as outcome
use Rattle.t85_core.specs.declared.pieces.PieceDecoder.{PieceDecoder}
use Rattle.t85_core.specs.declared.pieces.code.InCode.{InCode}
use Rattle.t85_core.specs.declared.pieces.head.Head.{Head}
use Rattle.t85_core.specs.declared.pieces.phase.Phase.TheVariants as phase
use Rattle.t85_core.proofs.BodiesDecode.DecoderLooksBehind.{passed_behind}
use Rattle.t85_core.proofs.BodiesDecode.HeightStaysOpen.{still_open}
use Rattle.t85_core.proofs.BodiesDecode.PieceStands.{fewer_after, leaves_after, leaves_more, on_none}
use Rattle.t85_core.proofs.pieces.PieceDecoder.step_behind.Goals as goal

-- the decoder there, with these marker segments
abbrev with_head : PieceDecoder → InCode → Lent → Head → PieceView
with_head d code lent head = phase_lent d (phase.Behind (record { code = code; head = head })) lent

pub returns-in-Height-clause-leaves : goal.returns-in-Height-clause-leaves
returns-in-Height-clause-leaves c =
    let d = with_head c.args.self.now c.args.behind.code c.args.lent.now in
    leaves_after c.args.is_all (d c.args.behind.head) (d c.pass.new.self)
    (decoder_lent c.take_height.new.self c.take_height.new.lent) c.args.piece.now.rest.now c.pass.new.piece.rest.now c.take_height.new.piece.rest.now refl refl
    (passed_behind (d c.args.behind.head) (d c.pass.new.self) c.args.behind.head c.pass.new.self c.args.piece.now.rest.now c.pass.new.piece.rest.now _ _ refl refl refl refl refl refl refl refl refl
    (c.place_behind.ensures c.args.behind) (c.is_last.ensures c.args.behind) (c.pass.ensures.on c.place_behind.result.given)) c.take_height.result (c.take_height.ensures.leaves c.args.is_all)

pub returns-in-Height-clause-lowers : goal.returns-in-Height-clause-lowers
returns-in-Height-clause-lowers c = (
  (let now = c.take_height.ensures.lowers.0 in let was = c.pass.ensures.no_more in omega (arith, now, was)),
  λ is. fewer_after true true (phase_waits c.take_height.new.self.phase) c.args.piece.now.rest.now c.pass.new.piece.rest.now c.take_height.new.piece.rest.now refl c.pass.ensures.no_more
      (c.take_height.ensures.lowers.1 is),
)

pub returns-in-Code-clause-leaves : goal.returns-in-Code-clause-leaves
returns-in-Code-clause-leaves c =
    let d = with_head c.args.self.now c.args.behind.code c.args.lent.now in
    leaves_after c.args.is_all (d c.args.behind.head) (d c.pass.new.self)
    (decoder_lent c.go_past.new.self c.go_past.new.lent) c.args.piece.now.rest.now c.pass.new.piece.rest.now c.go_past.new.piece.rest.now refl refl
    (passed_behind (d c.args.behind.head) (d c.pass.new.self) c.args.behind.head c.pass.new.self c.args.piece.now.rest.now c.pass.new.piece.rest.now _ _ refl refl refl refl refl refl refl refl refl
    (c.place_behind.ensures c.args.behind) (c.is_last.ensures c.args.behind) (c.pass.ensures.on c.place_behind.result.given)) c.go_past.result c.go_past.ensures.leaves

pub returns-in-Code-clause-lowers : goal.returns-in-Code-clause-lowers
returns-in-Code-clause-lowers c = (
  (let now = c.go_past.ensures.lowers.0 in let was = c.pass.ensures.no_more in omega (arith, now, was)),
  λ is. fewer_after true true (phase_waits c.go_past.new.self.phase) c.args.piece.now.rest.now c.pass.new.piece.rest.now c.go_past.new.piece.rest.now refl c.pass.ensures.no_more
      (c.go_past.ensures.lowers.1 is),
)

pub returns-then-is_open_end-clause-leaves : goal.returns-then-is_open_end-clause-leaves
returns-then-is_open_end-clause-leaves c =
    let h = fields_of c.args.self.now.image.header in
    let d = with_head c.args.self.now c.args.behind.code c.args.lent.now in
    let ended = (c.is_open_end.ensures.yes (search rules)).0 in
    let stops = subst (StopsBehind h (behind_at c.place_behind.result c.is_last.result) c.pass.new.self c.pass.new.piece.rest.now) ended c.in-Err.ensures.err in
    let here = subst (λ z. StopsBehind h (behind_at z (is_last_of c.args.self.now c.args.behind)) c.pass.new.self c.pass.new.piece.rest.now Truncated) (c.place_behind.ensures c.args.behind)
    (subst (λ l. StopsBehind h (behind_at c.place_behind.result l) c.pass.new.self c.pass.new.piece.rest.now Truncated) (c.is_last.ensures c.args.behind) stops) in
    leaves_after c.args.is_all (d c.args.behind.head) (d c.pass.new.self) (d c.pass.new.self) c.args.piece.now.rest.now c.pass.new.piece.rest.now c.pass.new.piece.rest.now refl refl
    (passed_behind (d c.args.behind.head) (d c.pass.new.self) c.args.behind.head c.pass.new.self c.args.piece.now.rest.now c.pass.new.piece.rest.now _ _ refl refl refl refl refl refl refl refl refl
    (c.place_behind.ensures c.args.behind) (c.is_last.ensures c.args.behind) (c.pass.ensures.on c.place_behind.result.given)) (Some outcome.More)
    (leaves_more c.args.is_all (d c.pass.new.self) (d c.pass.new.self) c.pass.new.piece.rest.now c.pass.new.piece.rest.now refl refl (c.is_open_end.ensures.yes (search rules)).1 refl refl
    (on_none (d c.pass.new.self) (d c.pass.new.self) c.pass.new.piece.rest.now (λ text out s. s)) (c.in-Err.ensures.err.few ended)
    (still_open (d c.pass.new.self) c.pass.new.piece.rest.now refl refl here))

pub returns-else-is_open_end-clause-leaves : goal.returns-else-is_open_end-clause-leaves
returns-else-is_open_end-clause-leaves c =
    let d = with_head c.args.self.now c.args.behind.code c.args.lent.now in
    leaves_after c.args.is_all (d c.args.behind.head) (d c.pass.new.self)
    (decoder_lent c.go_past-in-Err.new.self c.go_past-in-Err.new.lent) c.args.piece.now.rest.now c.pass.new.piece.rest.now c.go_past-in-Err.new.piece.rest.now refl refl
    (passed_behind (d c.args.behind.head) (d c.pass.new.self) c.args.behind.head c.pass.new.self c.args.piece.now.rest.now c.pass.new.piece.rest.now _ _ refl refl refl refl refl refl refl refl refl
    (c.place_behind.ensures c.args.behind) (c.is_last.ensures c.args.behind) (c.pass.ensures.on c.place_behind.result.given)) c.go_past-in-Err.result c.go_past-in-Err.ensures.leaves

pub returns-else-is_open_end-clause-lowers : goal.returns-else-is_open_end-clause-lowers
returns-else-is_open_end-clause-lowers c = (
  (let now = c.go_past-in-Err.ensures.lowers.0 in let was = c.pass.ensures.no_more in omega (arith, now, was)),
  λ is. fewer_after true true (phase_waits c.go_past-in-Err.new.self.phase) c.args.piece.now.rest.now c.pass.new.piece.rest.now c.go_past-in-Err.new.piece.rest.now refl c.pass.ensures.no_more
      (c.go_past-in-Err.ensures.lowers.1 is),
)
