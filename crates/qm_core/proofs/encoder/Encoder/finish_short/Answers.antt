use Rattle.std.proofs.Common.{◌-◌, ◌≤◌, ◌++◌, List, ℕ, sym, arith}
use Rattle.qm_core.specs.Code.{IsChosen, stuffed}
use Rattle.qm_core.specs.Encoder.{EncoderIsAt}
use Rattle.qm_core.specs.Place.{Place}
use Rattle.qm_core.proofs.WritesJoin.{writes_more, writes_err}
use Rattle.qm_core.proofs.TailTakesByte.{batch_bytes}
use Rattle.qm_core.proofs.OutputIsFront.{whole_batch}
use Rattle.qm_core.proofs.LastBytesFinish.{Ended, zero_code, whole_128, value_room, value_whole, chosen_digits, next_digits, digits_low, last_digits, is_chosen, code_is, stuffed_all, stuffed_rest, rest_zeros, shifted_whole}
use Rattle.qm_core.proofs.encoder.Encoder.finish_short.Given as given
use Rattle.qm_core.proofs.encoder.Encoder.finish_short.Goals as goal
use Rattle.qm_core.proofs.encoder.Encoder.finish_short.Goals.{After-settle-rest}

pub byte_out-first-requires-clause-room : goal.byte_out-first-requires-clause-room
byte_out-first-requires-clause-room g c =
    let chosen : IsChosen (record { low = c.args.self.now.low; size = c.args.self.now.span; doublings = 0 }) c.chosen.result =
    record { from = c.chosen.ensures.from; below = c.chosen.ensures.below; most_even = c.chosen.ensures.most_even } in
    let even = whole_128 c.args.self.now.large chosen in
    let r = value_room c.chosen.result c.args.self.now.bits 8 c.requires.short (omega arith) (omega arith) even in (
      rw (value_whole c.chosen.result c.args.self.now.bits 8 (omega arith) r) r,
      λ none.
          let half = value_room c.chosen.result c.args.self.now.bits 7 c.requires.short (omega arith) (omega (arith, c.args.self.now.fixed none)) even in
          rw (value_whole c.chosen.result c.args.self.now.bits 7 (omega arith) half) half,
    )

-- the bytes that are written end the code
ended : (g : given.Over) (c : After-settle-rest g) (p : Place) (pushed : List ℕ) → EncoderIsAt c.args.self.now p pushed →
    Ended p pushed (stuffed (batch_bytes c.byte_out-first.result.batch ++ batch_bytes c.byte_out-second.result.batch) ++ stuffed
    (batch_bytes c.byte_out-third.result.batch ++ batch_bytes c.settle-rest.result))
ended g c p pushed s =
    let chosen : IsChosen (record { low = c.args.self.now.low; size = c.args.self.now.span; doublings = 0 }) c.chosen.result =
    record { from = c.chosen.ensures.from; below = c.chosen.ensures.below; most_even = c.chosen.ensures.most_even } in
    let e = whole_128 c.args.self.now.large chosen in
    let r = value_room c.chosen.result c.args.self.now.bits 8 c.requires.short (omega arith) (omega arith) e in
    let d0 = chosen_digits e.0 c.requires.short e.1 s.digits in
    let d1 = c.byte_out-first.ensures.digits _ s.front (digits_low (value_whole c.chosen.result c.args.self.now.bits 8 (omega arith) r) d0) in
    let d2 = c.byte_out-second.ensures.digits _ _ (digits_low (shifted_whole c.byte_out-first.result.low c.byte_out-first.ensures.left) (next_digits d1)) in
    let d3 = c.byte_out-third.ensures.digits _ _ (digits_low (shifted_whole c.byte_out-second.result.low c.byte_out-second.ensures.left) (next_digits d2)) in
    let l = last_digits _ _ c.byte_out-third.ensures.left d3 in
    let is = is_chosen e.0 s.digits e.1 chosen c.args.self.now.least (let z = s.digits.size in let small = c.args.self.now.small in omega arith) in
    let front = whole_batch c.byte_out-third.result.batch (whole_batch c.byte_out-second.result.batch (whole_batch c.byte_out-first.result.batch (record { bytes = s.bytes; trimmed = s.trimmed }))) in
    let rest = rest_zeros _ (batch_bytes c.settle-rest.result) _ _ c.settle-rest.ensures.bytes in
    record {
      code = _;
      is = code_is (24 - c.args.self.now.bits) c.settle-rest.new.self.zeros (whole_batch c.settle-rest.result front) is rest l;
      all = stuffed_all s.front _ _ _ _ s.is;
    }

pub returns-in_err-write_both-clause-code : goal.returns-in_err-write_both-clause-code
returns-in_err-write_both-clause-code g c = λ p pushed s.
    let e = ended g (goal.at.returns-in_err-write_both-clause-code g c).After-settle-rest p pushed s in
    record { code = e.code; is = e.is; more = _; all = e.all; writes = writes_err _ c.in_err-write_both.ensures.writes c.from_residual.ensures.0 }

pub returns-clause-code : goal.returns-clause-code
returns-clause-code g c = λ p pushed s.
    let e = ended g (goal.at.returns-clause-code g c).After-settle-rest p pushed s in
    record { code = e.code; is = e.is; more = _; all = e.all; writes = writes_more c.in_ok-write_both.ensures.writes c.write_both-3.ensures.writes }

pub returns-then-self-eq0-clause-code : goal.returns-then-self-eq0-clause-code
returns-then-self-eq0-clause-code g c = λ p pushed s.
    let rest = rest_zeros s.front (batch_bytes c.settle.result) _ _ c.settle.ensures.bytes in
    let whole = whole_batch c.settle.result (record { bytes = s.bytes; trimmed = s.trimmed }) in
    let size = s.digits.size in
    let large = c.args.self.now.large in
    let most = c.args.self.now.small in
    let some : 1 ≤ c.args.self.now.span = omega arith in
    let small : p.size ≤ 0x10000 = omega arith in
    record {
      code = s.front ++ batch_bytes c.settle.result;
      is = zero_code c.settle.new.self.zeros whole rest some c.args.self.now.least (omega arith) small (digits_low (sym c.if-self-eq0.true) s.digits);
      more = _;
      all = stuffed_rest s.front (batch_bytes c.settle.result) s.is;
      writes = c.write_both.ensures.writes;
    }
