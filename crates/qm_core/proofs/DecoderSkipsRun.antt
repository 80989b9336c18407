-- The relation of a decoder to its interval after a run, and when its bytes lie in the interval after a run.
use Rattle.std.proofs.Common.{◌≡◌, ◌≢◌, ℕ, ◌+◌, ◌-◌, ◌*◌, ◌^◌, ◌<◌, ◌≤◌, true, List, [], length, replicate, append-nil, arith, refl, ◌∙◌}
use Rattle.std.proofs.lemmas.Nat.{pow_pos}
use Rattle.qm_core.specs.Place.{State, Event, after}
use Rattle.qm_core.specs.Code.{Lies, wanted_bytes}
use Rattle.qm_core.specs.Source.{bytes_of, heard_of}
use Rattle.qm_core.specs.Machine.{Registers}
use Rattle.qm_core.specs.Decoder.{DecoderIsAt}
use Rattle.qm_core.specs.Skipping.{upper_size, has_room, WantsNone, CanSkip}
use Rattle.qm_core.specs.declared.source.Pulled.{Pulled}
use Rattle.qm_core.specs.declared.source.Heard.{Heard}
use Rattle.qm_core.specs.declared.source.Heard.TheVariants.{More, Ended, Stopped}
use Rattle.qm_core.specs.declared.decoder.Decoder.{Decoder}
use Rattle.qm_core.proofs.MultiplesShift.{room_between, mod_128}
use Rattle.qm_core.proofs.RegistersSplit.{registers_lower}
use Rattle.qm_core.proofs.CodesLieInside.{Registers-Lies, Lies-Registers}
use Rattle.qm_core.proofs.AnswersFixBytes.{Lies-zeros, zeros-Lies}
use Rattle.qm_core.proofs.DecoderPulls.{plain}
use Rattle.qm_core.proofs.DecoderDecides.{stands_step}
use Rattle.qm_core.proofs.RunLowersSize.{after_run}

-- with 16 bits, the next event needs no pull
pub by_heard : (h : Heard) (bits n held : ℕ) → (h ≡ More → wanted_bytes n ≤ held) → 16 ≤ bits → h ≢ Stopped → WantsNone h bits n held
by_heard More bits n held more enough going = more refl
by_heard Ended bits n held more enough going = enough
by_heard Stopped bits n held more enough going = going refl

-- this much of the size is left after the event is decoded `count` times
pub record Leaves (d : Decoder) (s : State) (event : Event) (count left : ℕ) : Type 0 where
  pub enough : 16 ≤ d.bits
  pub is : d.span ≡ left + 128 * (count * upper_size s.learned event.context)
  pub room : has_room s event count ≡ true

-- the code keeps room for the bits that are not there yet
pub room_left : (d : Decoder) (less left : ℕ) → 16 ≤ d.bits → d.span ≡ left + 128 * less → d.code < left → d.code + 2 ^ (23 - d.bits) ≤ left
room_left d less left enough is below =
    let few = d.few in
    let whole = d.whole in
    room_between (2 ^ (23 - d.bits)) d.code left (pow_pos (23 - d.bits)) d.aligned (mod_128 d.bits left enough few (omega (arith, is, whole))) below

module _ {d : Decoder} {s : State} {event : Event} {count left : ℕ} (l : Leaves d s event count left) where
  registers_run : {b : List ℕ} → Registers d.code d.span d.bits s.place b → Registers d.code left d.bits (after s (replicate count event)).place b
  registers_run r =
      let e : d.span - 128 * (count * upper_size s.learned event.context) ≡ left = omega (arith, l.is) in
      rw (after_run s event count l.room) (rw e at (registers_lower (count * upper_size s.learned event.context) refl r))

  pub stands_run : {e : Decoder} {answers : List Pulled} → DecoderIsAt d s.place answers → e.heard ≡ d.heard → e.bits ≡ d.bits → e.code ≡ d.code → e.span ≡ left →
      DecoderIsAt e (after s (replicate count event)).place answers
  stands_run stands heard bits code span =
      stands_step stands (record { enough = l.enough; heard = heard; less = omega (arith, bits); registers = λ b r. rw (bits, code, span) (registers_run r) })

  pub pulled_enough : {answers : List Pulled} → DecoderIsAt d s.place answers → heard_of answers ≡ More → wanted_bytes s.place.doublings ≤ length (bytes_of answers)
  pulled_enough stands more = let r = plain stands (stands.heard ∙ more) in let enough = l.enough in omega (arith, r.count)

  -- bytes that lie after the run are a code below its upper end
  pub code_below : {answers : List Pulled} → DecoderIsAt d s.place answers → Lies (bytes_of answers) (after s (replicate count event)).place → d.code < left
  code_below stands lies = Lies-Registers d.few (registers_run stands.registers) (zeros-Lies stands.zeros lies)

  pub can_skip : {answers : List Pulled} → DecoderIsAt d s.place answers → d.code < left → CanSkip d s answers event count
  can_skip {answers} stands below =
      let r = Registers-Lies [] d.few (room_left d _ left l.enough l.is below) (registers_run stands.registers) tt in
      record {
        room = l.room;
        ready = by_heard (heard_of answers) d.bits s.place.doublings (length (bytes_of answers)) (pulled_enough stands) l.enough
            (λ stopped. absurd (omega (arith, d.stuck (stands.heard ∙ stopped), l.enough)));
        inside = Lies-zeros (bytes_of answers) stands.zeros (rw append-nil at r);
      }
