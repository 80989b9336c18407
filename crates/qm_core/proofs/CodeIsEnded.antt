-- A code that is ended in two steps.
use Rattle.std.proofs.Common.{ℕ, ◌+◌, ◌*◌, ◌^◌, ◌≤◌, List, ◌++◌, length, Result, Ok, Err, arith, ap, ◌∙◌, sym, append_assoc}
use Rattle.std.specs.Prelude.{IsErr}
use Rattle.std.proofs.lemmas.Int.Digits.{number_lt}
use Rattle.std.proofs.Math.Nat.{mul-le-mul_right, le_of_mul-le-mul_right, one-le-pow}
use Rattle.qm_core.specs.Place.{Place, IsPlace}
use Rattle.qm_core.specs.Code.{number, IsFront, stuffed, code_of}
use Rattle.qm_core.specs.Encoder.{EncoderIsAt, Goes, Finish}
use Rattle.qm_core.specs.declared.encoder.Encoder.{Encoder}
use Rattle.qm_core.specs.declared.encoder.CoderFault.{CoderFault}
use Rattle.qm_core.specs.Sink.{SinkAt, sink_at}
use Rattle.qm_core.proofs.WritesJoin.{stuffed-append, writes_more, writes_err}
use Rattle.qm_core.proofs.OutputIsFront.{encoder_front}
use Rattle.qm_core.proofs.FunctionGivesCode.{code_of-IsCode}
use Rattle.qm_core.proofs.NoCodeIsShorter.{code-Lies}
use Rattle.qm_core.proofs.FrontBeginsCode.{front_begins}
use Rattle.qm_core.specs.declared.sink.CodeSink.{Ghosts}

-- what has a front is no larger than all numbers
pub front_place : {c : List ℕ} {p : Place} → IsFront c p → 0x8000 ≤ p.size → p.size ≤ 0x10000 → IsPlace p
front_place {c} {p} f large small =
    let n : number c + 1 ≤ 256 ^ length c = (let l = number_lt 256 c f.bytes in omega arith) in
    let m = mul-le-mul_right (2 ^ (16 + p.doublings)) n in
    let e : (p.low + p.size) * 256 ^ length c ≤ 2 ^ (16 + p.doublings) * 256 ^ length c = omega (arith, f.up_to, m) in
    record { large = large; small = small; within = le_of_mul-le-mul_right e (one-le-pow (length c) 256 (omega arith)) }

-- an encoder's place
pub is_place : (e : Encoder) {p : Place} {pushed : List ℕ} → EncoderIsAt e p pushed → IsPlace p
is_place e at =
    let size = at.digits.size in
    let large = e.large in
    let small = e.small in
    front_place (encoder_front e at).begins (omega (arith, size)) (omega (arith, size))

pub finish_after : {S : Type 0} {sink : Ghosts S} {a b c : S} {pushed : List ℕ} {p : Place} {e : Encoder} {u : Unit {0}} {q : Result (Unit {0}) CoderFault}
    (f : Goes (sink_at sink a pushed) p b e (Ok u)) → Finish (sink_at sink b (pushed ++ f.more)) p c q → Finish (sink_at sink a pushed) p c q
finish_after {pushed = pushed} f g =
    record {
      code = g.code;
      is = g.is;
      more = f.more ++ g.more;
      all = sym (append_assoc pushed f.more g.more) ∙ g.all;
      writes = writes_more f.writes g.writes;
    }

-- where the first step fails, the code is still that of the place
pub finish_failed : {S : Type 0} {old : SinkAt S} {to : S} {p : Place} {e : Encoder} {x : CoderFault} {q : Result (Unit {0}) CoderFault} → Goes old p to e (Err x) → IsErr q → Finish old p to q
finish_failed {old = old} {p = p} {e} f is-err =
    let front = encoder_front e f.codes in
    let is = code_of-IsCode p (is_place e f.codes) in
    let r = front_begins p (code_of p) front.front is.bytes (code-Lies p (code_of p) is) front.begins in
    record {
      code = code_of p;
      is = is;
      more = f.more ++ stuffed r.0;
      all = sym (append_assoc old.pushed f.more (stuffed r.0)) ∙ (ap (λ l. l ++ stuffed r.0) front.is ∙ (sym (stuffed-append front.front r.0) ∙ sym (ap stuffed r.1)));
      writes = writes_err (stuffed r.0) f.writes is-err;
    }
