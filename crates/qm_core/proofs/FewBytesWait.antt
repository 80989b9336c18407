-- How many bytes an encoder still pushes at most.
use Rattle.std.proofs.Common.{ℕ, ◌≡◌, ◌≤◌, ◌+◌, ◌*◌, Bool, true, false, nat_eq, List, [], ◌∷◌, ◌++◌, length, refl, ap, sym, ◌∙◌, subst, arith, append-nil, length-append}
use Rattle.std.specs.Prelude.{if◌then◌else◌}
use Rattle.std.proofs.lemmas.Bool.{eqb-true}
use Rattle.qm_core.specs.Place.{State, Event, after}
use Rattle.qm_core.specs.Code.{IsCode, stuffed, code_of, wanted_bytes}
use Rattle.qm_core.specs.Machine.{run_bytes}
use Rattle.qm_core.specs.Encoder.{EncoderIsAt, IsStuffedFront, waiting_bytes}
use Rattle.qm_core.specs.declared.encoder.Encoder.{Encoder}
use Rattle.qm_core.proofs.FunctionGivesCode.{code_of-IsCode}
use Rattle.qm_core.proofs.CodeIsUnique.{code_is}
use Rattle.qm_core.proofs.CodeIsEnded.{is_place}
use Rattle.qm_core.proofs.OutputIsFront.{encoder_front}
use Rattle.qm_core.proofs.FrontBeginsCode.{front_begins}
use Rattle.qm_core.proofs.LengthsAreBounded.{events_double, fraction_short, stuffed_short}
use Rattle.qm_core.proofs.OnePixelKeepsCode.{after-IsPlace, after-inside}
use Rattle.qm_core.proofs.NoCodeIsShorter.{code-Lies}
use Rattle.qm_core.proofs.WritesJoin.{stuffed-append}

-- ---- a stuffed list that goes on is that of a list that goes on

not_empty : (f : ℕ) (fs more : List ℕ) → (test : Bool) → (if test then 255 ∷ 0 ∷ stuffed fs else f ∷ stuffed fs) ++ more ≡ [] → ⊥
not_empty f fs more true e = cc
not_empty f fs more false e = cc

unstuffed : (front all more : List ℕ) → stuffed front ++ more ≡ stuffed all → (rest : List ℕ) × (all ≡ front ++ rest) × (more ≡ stuffed rest)
unstuffed [] all more e = (all, refl, e)
unstuffed (f ∷ fs) [] more e = absurd (not_empty f fs more (nat_eq f 255) e)
unstuffed (f ∷ fs) (c ∷ cs) more e = went (nat_eq f 255) (nat_eq c 255) refl refl e (unstuffed fs cs more) where
  went : (test other : Bool) → nat_eq f 255 ≡ test → nat_eq c 255 ≡ other →
      (if test then 255 ∷ 0 ∷ stuffed fs else f ∷ stuffed fs) ++ more ≡ (if other then 255 ∷ 0 ∷ stuffed cs else c ∷ stuffed cs) →
      (stuffed fs ++ more ≡ stuffed cs → (rest : List ℕ) × (cs ≡ fs ++ rest) × (more ≡ stuffed rest)) → (rest : List ℕ) × (c ∷ cs ≡ f ∷ (fs ++ rest)) × (more ≡ stuffed rest)
  went true true ft ct e further =
      let r = further (let same : stuffed fs ++ more ≡ stuffed cs = cc in same) in
      let one = eqb-true c 255 ct ∙ sym (eqb-true f 255 ft) in
      let tail = r.1 in
      (r.0, (let all : c ∷ cs ≡ f ∷ (fs ++ r.0) = cc in all), r.2)
  went true false ft ct e further =
      let first : 255 ≡ c = cc in
      let same = subst (λ n. nat_eq n 255 ≡ false) (sym first) ct in
      cc
  went false true ft ct e further =
      let first : f ≡ 255 = cc in
      let same = subst (λ n. nat_eq n 255 ≡ false) first ft in
      cc
  went false false ft ct e further =
      let r = further (let same : stuffed fs ++ more ≡ stuffed cs = cc in same) in
      let first : f ≡ c = cc in
      let tail = r.1 in
      (r.0, (let all : c ∷ cs ≡ f ∷ (fs ++ r.0) = cc in all), r.2)

-- ---- the counts

-- the parts of a list, and of it when stuffed
parts : {xs : List ℕ} (front rest : List ℕ) → xs ≡ front ++ rest → (length xs ≡ length front + length rest) × (length (stuffed xs) ≡ length (stuffed front) + length (stuffed rest))
parts front rest e = (ap length e ∙ length-append front rest, ap (λ z. length (stuffed z)) e ∙ ap length (stuffed-append front rest) ∙ length-append (stuffed front) (stuffed rest))

pub few_pushed : (e e' : Encoder) (s : State) (events : List Event) (pushed more : List ℕ) → EncoderIsAt e s.place pushed → EncoderIsAt e' (after s events).place (pushed ++ more) →
    length more + 2 * waiting_bytes e' ≤ 2 * waiting_bytes e + 4 * length events
few_pushed e e' s events pushed more at at' =
    let u = unstuffed at.front at'.front more (ap (λ z. z ++ more) (sym at.is) ∙ at'.is) in
    let short = stuffed_short u.0 in
    let long = ap length u.2 in
    let split = parts at.front u.0 u.1 in
    let a = length-append at.front (run_bytes e.tail.zeros e.tail.held e.tail.ones) in
    let b = length-append at'.front (run_bytes e'.tail.zeros e'.tail.held e'.tail.ones) in
    let doubled = events_double events s in
    omega (arith, short, long, split.0, a, b, doubled, at.digits.count, at'.digits.count)

code_few : (e : Encoder) (s : State) (events : List Event) (pushed : List ℕ) → EncoderIsAt e s.place pushed →
    length (stuffed (code_of (after s events).place)) ≤ length pushed + (2 * waiting_bytes e + 4 * length events)
code_few e s events pushed at =
    let here = is_place e at in
    let there = after-IsPlace events s here in
    let code = code_of (after s events).place in
    let is = code_of-IsCode (after s events).place there in
    let front = encoder_front e at in
    let r = front_begins s.place code front.front is.bytes (after-inside events s code here (code-Lies (after s events).place code is)) front.begins in
    let few : length code ≤ wanted_bytes (after s events).place.doublings = fraction_short _ _ _ in
    let split = parts front.front r.0 r.1 in
    let same = ap length front.is in
    let short = stuffed_short r.0 in
    let u = unstuffed at.front front.front [] (append-nil (stuffed at.front) ∙ sym at.is ∙ front.is) in
    let all = parts at.front u.0 u.1 in
    let a = length-append at.front (run_bytes e.tail.zeros e.tail.held e.tail.ones) in
    let doubled = events_double events s in
    omega (arith, few, split.0, split.1, same, short, all.0, a, doubled, at.digits.count)

pub few_to_end : (e : Encoder) (s : State) (events : List Event) (pushed code : List ℕ) → EncoderIsAt e s.place pushed → IsCode (after s events).place code →
    length (stuffed code) ≤ length pushed + (2 * waiting_bytes e + 4 * length events)
few_to_end e s events pushed code at is =
    let there = after-IsPlace events s (is_place e at) in
    rw (code_is (after s events).place code there is) (code_few e s events pushed at)

pub few_in_front : (e : Encoder) (s : State) (events : List Event) (pushed front : List ℕ) → EncoderIsAt e s.place pushed → IsStuffedFront front (after s events).place →
    length front ≤ length pushed + (2 * waiting_bytes e + 4 * length events)
few_in_front e s events pushed front at begins =
    let there = after-IsPlace events s (is_place e at) in
    let code = code_of (after s events).place in
    let is = code_of-IsCode (after s events).place there in
    let r = front_begins (after s events).place code begins.front is.bytes (code-Lies (after s events).place code is) begins.begins in
    let split = parts begins.front r.0 r.1 in
    let same = ap length begins.is in
    omega (arith, split.1, same, code_few e s events pushed at)
