-- A write to room that is not filled.
use Rattle.std.proofs.Common.{◌≡◌, ◌<◌, ◌+◌, ℕ, length, take, refl, ap, ◌∙◌, subst, arith, length-append, length-take-le, Some, Result, Ok, Err}
use Rattle.std.specs.Prelude.{IfErr, OnOk, is_ok, true}
use Rattle.t85_core.specs.declared.fault.Fault.{Fault}
use Rattle.t85_core.specs.declared.fault.Fault.TheVariants.{Write}
use Rattle.examples.specs.declared.room.Room.{Room}
use Rattle.devices.specs.Device.{one_more}
use Rattle.t85_core.specs.Failures.{CountsWrite, writes_after}
use Rattle.t85_core.specs.MostBytes.{AppendsAtMost}

-- A call that appended at most so many bytes to a room that has more.
pub record IsRoomy (old new : Room) (most : ℕ) (answer : Result (Unit {0}) Fault) : Type 0 where
  pub room : most + old.len < 8192
  pub few : AppendsAtMost most (Some (take old.len old.bytes)) (Some (take new.len new.bytes))
  pub unfailed : old.failures ≡ 0
  pub counts : CountsWrite old.failures new.failures answer
  pub fault : IfErr answer (λ f. f ≡ Write)

-- it was not filled, and so did not fail
pub unfilled : {old new : Room} {most : ℕ} {answer : Result (Unit {0}) Fault} → IsRoomy old new most answer → (is_ok answer ≡ true) × (new.failures ≡ 0)
unfilled {answer = Ok u} r = (refl, r.counts ∙ r.unfailed)
unfilled {old} {new} {answer = Err f} r =
    let one : new.failures ≡ 1 = subst (λ g. new.failures ≡ writes_after g old.failures) r.fault r.counts ∙ ap one_more r.unfailed in
    let filled : new.len ≡ 8192 = new.full (omega (arith, one)) in
    let grown = ap length r.few.appended ∙ length-append (take old.len old.bytes) r.few.bytes in
    let before = length-take-le old.len old.bytes (omega (arith, old.sized, old.within)) in
    let after = length-take-le new.len new.bytes (omega (arith, new.sized, new.within)) in
    absurd (omega (arith, r.room, filled, grown, before, after, r.few.few))

pub when_ok : (answer : Result (Unit {0}) Fault) {P : Type 0} → is_ok answer ≡ true → OnOk answer P → P
when_ok (Ok u) is p = p
when_ok (Err f) is p = cc
