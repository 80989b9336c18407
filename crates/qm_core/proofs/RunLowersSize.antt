-- The effect of a run of favoured pixels of one context.
use Rattle.std.specs.Bool.{beq}
use Rattle.std.proofs.Common.{◌≡◌, ℕ, zero, suc, ◌+◌, ◌-◌, ◌*◌, ◌<◌, ◌≤◌, Bool, true, false, not, nat_lt, replicate, arith, refl, ap, ◌∙◌}
use Rattle.std.proofs.lemmas.Bool.{lt-ltb, le-ltb, and_parts}
use Rattle.std.proofs.lemmas.List.{set-get_or}
use Rattle.std.proofs.Math.Nat.{mul-le-mul_right}
use Rattle.qm_core.specs.Table.{row_at}
use Rattle.qm_core.specs.Place.{Estimate, State, Event, estimate_of, same, lower_part, step, after}
use Rattle.qm_core.specs.Skipping.{IsRun, upper_size, has_room}
use Rattle.qm_core.proofs.PlacesStayInside.{row-size}
use Rattle.qm_core.proofs.StepTakesPart.{renormalised-large, favoured_large}
use Rattle.std.proofs.Math.Bool.{and-false}
use Rattle.std.proofs.lemmas.Bool.Decides.{nat_tests}

same_pixel : (a b : Bool) → same a b ≡ true → a ≡ b
same_pixel true true h = refl
same_pixel true false h = cc
same_pixel false true h = cc
same_pixel false false h = refl

differ : (a b : Bool) → not (beq a b) ≡ true → same a b ≡ false
differ true true h = cc
differ true false h = refl
differ false true h = refl
differ false false h = cc

agree : (a b : Bool) → not (beq a b) ≡ false → same a b ≡ true
agree true true h = refl
agree true false h = cc
agree false true h = cc
agree false false h = refl

state_is : (s t : State) → s.place ≡ t.place → s.learned ≡ t.learned → s ≡ t
state_is s t p l = let e : record { place = s.place; learned = s.learned } ≡ record { place = t.place; learned = t.learned } = rw (p, l) refl in e

-- the event is favoured, and the size has room for it so often
pub record HasRoomFor (s : State) (event : Event) (count : ℕ) : Type 0 where
  pub favoured : same event.pixel (estimate_of s.learned event.context).pixel ≡ true
  pub large : 0x8000 + count * upper_size s.learned event.context ≤ s.place.size

abbrev pub lowered : State → ℕ → State
lowered s q = record { place = lower_part s.place q; learned = s.learned }

-- one favoured pixel whose part is large
step_is : {s : State} {event : Event} → HasRoomFor s event 1 → step s event.context event.pixel ≡ lowered s (upper_size s.learned event.context)
step_is {s} {event} h =
    let l = h.large in
    let r = row-size (estimate_of s.learned event.context).row in
    let t = favoured_large {s = s} {cx = event.context} {e = estimate_of s.learned event.context} refl (omega arith) (omega arith) in
    let p : event.pixel ≡ (estimate_of s.learned event.context).pixel = same_pixel _ _ h.favoured in
    let large : 0x8000 ≤ s.place.size - upper_size s.learned event.context = omega arith in
    state_is _ _
    (rw p (t.place ∙ renormalised-large (lower_part s.place (upper_size s.learned event.context)) large))
    (rw p (t.learned ∙ set-get_or s.learned event.context _))

pub run_is : (k : ℕ) (s : State) (event : Event) → HasRoomFor s event k → after s (replicate k event) ≡ lowered s (k * upper_size s.learned event.context)
run_is zero s event h =
    let d : s.place.size ≡ s.place.size - 0 * upper_size s.learned event.context = omega arith in
    ap (λ size. record { place = record { low = s.place.low; size = size; doublings = s.place.doublings }; learned = s.learned }) d
run_is (suc k) s event h =
    let l = h.large in
    let m : suc k * upper_size s.learned event.context ≡ upper_size s.learned event.context + k * upper_size s.learned event.context = omega arith in
    let one = step_is {s = s} {event = event} (record { favoured = h.favoured; large = omega (arith, m) }) in
    let rest = run_is k (lowered s (upper_size s.learned event.context)) event (record { favoured = h.favoured; large = omega (arith, m) }) in
    let d : s.place.size - upper_size s.learned event.context - k * upper_size s.learned event.context ≡ s.place.size - suc k * upper_size s.learned event.context = omega (arith, m) in
    ap (λ t. after t (replicate k event)) one ∙ (rest ∙ ap (λ size. record { place = record { low = s.place.low; size = size; doublings = s.place.doublings }; learned = s.learned }) d)

-- what room for a run says
not_less : (a b : ℕ) → not (nat_lt a b) ≡ true → b ≤ a
not_less a b h = grind (arith, nat_tests)

pub room_says : (s : State) (event : Event) (count : ℕ) → has_room s event count ≡ true → HasRoomFor s event count
room_says s event count h = let b = and_parts _ _ h in record { favoured = b.0; large = not_less _ _ b.1 }

-- the state after a run
pub after_run : (s : State) (event : Event) (count : ℕ) → has_room s event count ≡ true → after s (replicate count event) ≡ lowered s (count * upper_size s.learned event.context)
after_run s event count h = run_is count s event (room_says s event count h)

pub is_run : (s : State) (event : Event) (count : ℕ) → has_room s event count ≡ true → IsRun s event count
is_run s event count h =
    let r = room_says s event count h in
    let large = r.large in
    record {
      quiet = λ k l.
          let m = mul-le-mul_right (upper_size s.learned event.context) l in
          ap (λ t. t.place.doublings) (run_is k s event (record { favoured = r.favoured; large = omega (arith, m) }));
      taught = ap (λ t. t.learned) (after_run s event count h);
    }

-- the tests of the code are those of the model, of a context with the estimate e
module _ (s : State) (event : Event) (count : ℕ) {e : Estimate} (is : e ≡ estimate_of s.learned event.context) where
  pub no_room : s.place.size < 0x8000 + count * (row_at e.row).size → has_room s event count ≡ false
  no_room l =
      let q = ap (λ x. (row_at x.row).size) is in
      rw (lt-ltb s.place.size (0x8000 + count * upper_size s.learned event.context) (rw q at l)) (and-false _)

  pub room : not (beq event.pixel e.pixel) ≡ false → 0x8000 + count * (row_at e.row).size ≤ s.place.size → has_room s event count ≡ true
  room h l =
      let q = ap (λ x. (row_at x.row).size) is in
      let same : same event.pixel (estimate_of s.learned event.context).pixel ≡ true = rw is at (agree event.pixel e.pixel h) in
      rw (same, le-ltb s.place.size (0x8000 + count * upper_size s.learned event.context) (rw q at l)) refl

pub scaled : (count entry q : ℕ) → entry ≡ 128 * q → count * entry ≡ 128 * (count * q)
scaled count entry q e = rw e (omega arith)
