use Rattle.std.proofs.Common.{arith, refl}
use Rattle.qm_core.specs.Place.{state_of}
use Rattle.qm_core.specs.Puts.{event_of}
use Rattle.qm_core.proofs.RunLowersSize.{is_run}
use Rattle.qm_core.proofs.DecoderSkipsRun.{Leaves, room_left, stands_run, pulled_enough, code_below, can_skip}
use Rattle.qm_core.proofs.decoder.Decoder.skip.Goals as goal

pub invariant_of-self-clause-whole : goal.invariant_of-self-clause-whole
invariant_of-self-clause-whole c = let l = c.in-Some.ensures.left _ refl in omega (arith, l, c.args.self.now.whole)

pub invariant_of-self-clause-room : goal.invariant_of-self-clause-room
invariant_of-self-clause-room c = room_left c.args.self.now _ c.in-Some.left c.if-not-is_ready.false (c.in-Some.ensures.left _ refl) c.if-left-self.false

pub returns-then-left-self-clause-exact : goal.returns-then-left-self-clause-exact
returns-then-left-self-clause-exact c p answers s =
    let l : Leaves c.args.self.now (state_of p c.args.learned.now) (event_of c.args.cx c.args.pixel) c.args.count c.in-Some.left =
    record { enough = c.if-not-is_ready.false; is = c.in-Some.ensures.left _ refl; room = c.in-Some.ensures.some p _ s.registers.size refl } in
    (λ no. cc, λ can. absurd (omega (arith, c.if-left-self.true, code_below l s can.inside)))

pub returns-else-left-self-clause-skipped : goal.returns-else-left-self-clause-skipped
returns-else-left-self-clause-skipped c p answers s _ =
    let l : Leaves c.args.self.now (state_of p c.args.learned.now) (event_of c.args.cx c.args.pixel) c.args.count c.in-Some.left =
    record { enough = c.if-not-is_ready.false; is = c.in-Some.ensures.left _ refl; room = c.in-Some.ensures.some p _ s.registers.size refl } in
    (is_run _ _ _ l.room, stands_run l s refl refl refl refl, pulled_enough l s)

pub returns-else-left-self-clause-exact : goal.returns-else-left-self-clause-exact
returns-else-left-self-clause-exact c p answers s =
    let l : Leaves c.args.self.now (state_of p c.args.learned.now) (event_of c.args.cx c.args.pixel) c.args.count c.in-Some.left =
    record { enough = c.if-not-is_ready.false; is = c.in-Some.ensures.left _ refl; room = c.in-Some.ensures.some p _ s.registers.size refl } in
    (λ _. can_skip l s c.if-left-self.false, λ _. refl)
