use Rattle.std.proofs.Common.{◌≡◌, ◌≢◌, ◌∙◌, ℕ, Bool, List, [], length, Result, Ok, Err, ap, refl, sym, subst, arith}
use Rattle.std.specs.Prelude.{IfErr, IsErrOf}
use Rattle.t85_core.specs.declared.fault.Fault.{Fault}
use Rattle.t85_core.specs.Options.{fields_of}
use Rattle.t85_core.specs.Lent.{WalkView, stage_lent, walk_lent}
use Rattle.t85_core.specs.declared.fault.Fault.TheVariants.{Truncated}
use Rattle.t85_core.specs.Private.Buffers.{SourceView, reading}
use Rattle.t85_core.specs.Private.Pieces.{Turn}
use Rattle.t85_core.specs.Private.Reading.{HeldTurn, KeepsLast, ReadsWalk}
use Rattle.t85_core.specs.States.SizedImage.{sized}
use Rattle.t85_core.proofs.BodiesDecode.WalkReadsOn.{held_turn, reads_nothing, reads_no_rows, reads_then, rows_off, rows_one, rows_same, rows_unread, waits_on}
use Rattle.t85_core.proofs.StreamsAreWalked.StripesAreSkipped.{byte_of}
use Rattle.t85_core.proofs.decoding.next_rows.Given.{Over}
use Rattle.t85_core.proofs.decoding.next_rows.Goals.{After-next-answer}
use Rattle.t85_core.proofs.decoding.next_rows.Goals as goal

-- the walk before the call, where a turn begins, and before and after the step
abbrev first : (g : Over) → After-next-answer g → WalkView
first g c = walk_lent c.args.walk.now c.args.lent.now

abbrev here : (g : Over) → After-next-answer g → WalkView
here g c = walk_lent c.repeat_rows-count.new.self c.repeat_rows-count.new.lent

abbrev there : (g : Over) → After-next-answer g → WalkView
there g c = stage_lent c.next-answer.new.self c.next-answer.new.stage c.next-answer.new.lent

module _ (g : Over) (c : After-next-answer g) where
  on : ReadsWalk (sized (fields_of c.args.image.now.header) c.args.image.now.height) (first g c) (here g c) (g.S.HeldSource.view c.args.stream.now).known (g.S.HeldSource.view c.turns.stream).known []
  on = reads_then (fields_of c.args.image.now.header) c.args.image.now.height (first g c) (walk_lent c.turns.walk c.turns.lent) (g.S.HeldSource.view c.args.stream.now).known
      (g.S.HeldSource.view c.turns.stream).known c.turns.invariant.on (here g c) (g.S.HeldSource.view c.turns.stream).known []
      (reads_no_rows (fields_of c.args.image.now.header) c.args.image.now.height (walk_lent c.turns.walk c.turns.lent) (here g c) (g.S.HeldSource.view c.turns.stream).known c.repeat_rows-count.result
      (omega (arith, c.if-count-gt0.false)) c.repeat_rows-count.ensures.on)

  turned : (new : SourceView) (held' : List ℕ) (left : ℕ) → KeepsLast (g.S.HeldSource.view c.turns.stream) (g.S.HeldSource.bytes c.turns.stream) new held' left →
      (IfErr c.next-answer.result (λ f. f ≡ Truncated) → left ≡ length c.next-answer.new.piece.rest.now) → ((f : Fault) → c.next-answer.result ≡ Err f → f ≢ Truncated → left ≡ 0) →
      HeldTurn (sized (fields_of c.args.image.now.header) c.args.image.now.height) (here g c) (there g c) (reading (g.S.HeldSource.view c.turns.stream).known new.known) held' c.next-answer.result
  turned new held' left k = held_turn (fields_of c.args.image.now.header) c.args.image.now.height (here g c) (there g c) (g.S.HeldSource.view c.turns.stream) new (g.S.HeldSource.bytes c.turns.stream)
      held' c.next-answer.new.piece.rest.now left k c.next-answer.result
      (subst (λ z. Turn (sized (fields_of c.args.image.now.header) c.args.image.now.height) (here g c) (there g c) z c.next-answer.new.piece.rest.now c.next-answer.result) c.held.ensures
      c.next-answer.ensures.step)

pub turns-init : goal.turns-init
turns-init g c = record {
  on = reads_nothing (fields_of c.args.image.now.header) c.args.image.now.height (walk_lent c.args.walk.now c.args.lent.now) (g.S.HeldSource.view c.args.stream.now).known;
  unfailed = refl;
  same_source = refl;
}

pub returns-then-count-gt0 : goal.returns-then-count-gt0
returns-then-count-gt0 g c = record {
  turn = rows_same (fields_of c.args.image.now.header) c.args.image.now.height (walk_lent c.args.walk.now c.args.lent.now) (walk_lent c.turns.walk c.turns.lent)
      (walk_lent c.repeat_rows-count.new.self c.repeat_rows-count.new.lent) (g.S.HeldSource.view c.args.stream.now) (g.S.HeldSource.view c.turns.stream) c.turns.invariant.on
      c.repeat_rows-count.result c.if-count-gt0.true c.repeat_rows-count.ensures.on c.repeat_rows-count.ensures.code c.turns.invariant.unfailed c.turns.invariant.same_source;
}

pub returns-in-Ok : goal.returns-in-Ok
returns-in-Ok g c =
    let went = c.before.before.before.before in
    let k = c.keep.ensures in
    record {
      turn = rows_one (fields_of c.args.image.now.header) c.args.image.now.height (first g went) (here g went) (there g went)
          (g.S.HeldSource.view c.args.stream.now) (g.S.HeldSource.view c.turns.stream) (g.S.HeldSource.view c.keep.new.self) (on g went) (g.S.HeldSource.bytes c.keep.new.self) c.in-Ok.is_row c.from.result (c.from.ensures ∙ byte_of c.in-Ok.is_row)
          (subst (HeldTurn _ _ _ _ _) c.in-Ok.is (turned g went (g.S.HeldSource.view c.keep.new.self) (g.S.HeldSource.bytes c.keep.new.self) _
          (record { taken = k.taken; within = k.within; still = k.still; beyond = k.beyond; unfailed = k.unfailed; same_source = k.same_source }) (λ _. refl)
          (λ f e other. absurd (let same : ◌≡◌ {A = Result Bool Fault} (Ok c.in-Ok.is_row) (Err f) = sym c.in-Ok.is ∙ e in let bot : ⊥ = cc in bot))))
          c.in-Ok.ensures.code (k.unfailed ∙ c.turns.invariant.unfailed) (k.same_source ∙ c.turns.invariant.same_source);
    }

pub turns-preserved : goal.turns-preserved
turns-preserved g c =
    let went = c.before.before.before.before.before.before.before.before in
    let k = c.keep-in-Truncated.ensures in
    let cut : c.next-answer.result ≡ Err Truncated = c.in-Err.is ∙ ap Err c.in-Truncated.is in
    let waits = (turned g went (g.S.HeldSource.view c.keep-in-Truncated.new.self) (g.S.HeldSource.bytes c.keep-in-Truncated.new.self) _
    (record { taken = k.taken; within = k.within; still = k.still; beyond = k.beyond; unfailed = k.unfailed; same_source = k.same_source }) (λ _. refl)
    (λ f e other. absurd (other (let same : ◌≡◌ {A = Result Bool Fault} (Err Truncated) (Err f) = sym cut ∙ e in cc)))).waits (subst (λ r. IsErrOf r Truncated) (sym cut) refl) in
    record {
      on = reads_then (fields_of c.args.image.now.header) c.args.image.now.height (first g went) (here g went) (g.S.HeldSource.view c.args.stream.now).known
          (g.S.HeldSource.view c.turns.stream).known (on g went) (there g went) (g.S.HeldSource.view c.refill.new.self).known []
          (waits_on (fields_of c.args.image.now.header) c.args.image.now.height (here g went) (there g went) (g.S.HeldSource.view c.turns.stream).known
          (g.S.HeldSource.view c.keep-in-Truncated.new.self).known (g.S.HeldSource.view c.refill.new.self).known (g.S.HeldSource.bytes c.keep-in-Truncated.new.self) waits
          c.in_ok-refill-in-Truncated.ensures.ok);
      unfailed = c.in_ok-refill-in-Truncated.ensures.reads.counts ∙ k.unfailed ∙ c.turns.invariant.unfailed;
      same_source = c.in_ok-refill-in-Truncated.ensures.reads.same_source ∙ k.same_source ∙ c.turns.invariant.same_source;
    }

pub returns-in_err-refill-in-Truncated : goal.returns-in_err-refill-in-Truncated
returns-in_err-refill-in-Truncated g c =
    let went = c.before.before.before.before.before.before.before.before.before in
    let k = c.keep-in-Truncated.ensures in
    let cut : c.next-answer.result ≡ Err Truncated = c.in-Err.is ∙ ap Err c.in-Truncated.is in
    let waits = (turned g went (g.S.HeldSource.view c.keep-in-Truncated.new.self) (g.S.HeldSource.bytes c.keep-in-Truncated.new.self) _
    (record { taken = k.taken; within = k.within; still = k.still; beyond = k.beyond; unfailed = k.unfailed; same_source = k.same_source }) (λ _. refl)
    (λ f e other. absurd (other (let same : ◌≡◌ {A = Result Bool Fault} (Err Truncated) (Err f) = sym cut ∙ e in cc)))).waits (subst (λ r. IsErrOf r Truncated) (sym cut) refl) in
    record {
      turn = rows_unread (fields_of c.args.image.now.header) c.args.image.now.height (first g went) (here g went) (there g went)
          (g.S.HeldSource.view c.args.stream.now) (g.S.HeldSource.view c.turns.stream) (g.S.HeldSource.view c.keep-in-Truncated.new.self) (on g went) (g.S.HeldSource.view c.refill.new.self) (g.S.HeldSource.bytes c.keep-in-Truncated.new.self)
          c.from_residual.result c.in_err-refill-in-Truncated.field-0.0 (Err c.in_err-refill-in-Truncated.field-0.0) c.from_residual.ensures.1 refl waits
          c.in_err-refill-in-Truncated.ensures.err c.in_err-refill-in-Truncated.ensures.reads (k.unfailed ∙ c.turns.invariant.unfailed) (k.same_source ∙ c.turns.invariant.same_source);
    }

pub returns-in_default : goal.returns-in_default
returns-in_default g c =
    let went = c.before.before.before.before in
    let k = c.keep-in_default.ensures in
    record {
      turn = rows_off (fields_of c.args.image.now.header) c.args.image.now.height (first g went) (here g went) (there g went)
          (g.S.HeldSource.view c.args.stream.now) (g.S.HeldSource.view c.turns.stream) (g.S.HeldSource.view c.keep-in_default.new.self) (on g went) (g.S.HeldSource.bytes c.keep-in_default.new.self) c.in-Err.fault
          (subst (HeldTurn _ _ _ _ _) c.in-Err.is (turned g went (g.S.HeldSource.view c.keep-in_default.new.self) (g.S.HeldSource.bytes c.keep-in_default.new.self) 0
          (record { taken = k.taken; within = k.within; still = k.still; beyond = k.beyond; unfailed = k.unfailed; same_source = k.same_source })
          (λ is. absurd (c.in_default.not-Truncated (subst (λ r. IfErr r (λ f. f ≡ Truncated)) c.in-Err.is is))) (λ _ _ _. refl)))
          c.in_default.not-Truncated (k.unfailed ∙ c.turns.invariant.unfailed) (k.same_source ∙ c.turns.invariant.same_source);
    }
