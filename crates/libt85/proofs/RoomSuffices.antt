-- Rooms that are not filled.
use Rattle.std.proofs.Common.{◌≡◌, ◌≤◌, ◌+◌, ◌⊎◌, inl, inr, ℕ, true, List, [], ◌++◌, length, take, Option, None, Some, Result, Ok, Err, refl, sym, ap, subst, ◌∙◌, arith, append-nil, length-append, true≢false}
use Rattle.std.specs.Prelude.{IfErr, OnOk, is_some, is_ok, option_to_list}
use Rattle.std.proofs.lemmas.List.{length-take-le}
use Rattle.devices.specs.Device.{AppendsBeginning, one_more}
use Rattle.t85_core.specs.Failures.{CountsWrite, writes_after}
use Rattle.t85_core.specs.RowSink.{Writer}
use Rattle.t85_core.specs.MostBytes.{AppendsAtMost}
use Rattle.t85_core.specs.declared.fault.Fault.{Fault}
use Rattle.t85_core.specs.declared.fault.Fault.TheVariants.{AnnouncedLow, Write}
use Rattle.libt85.specs.Delivered.{IsEmptyRoom}
use Rattle.libt85.specs.declared.memory.Room.{Room}
use Rattle.libt85.proofs.TextIsDelivered.{emptied}
use Rattle.libt85.proofs.ConsumerTakesRows.{not_spilled}

-- the bytes that a room has taken
abbrev pub text_of : Room → List ℕ
text_of r = take r.len r.bytes.now ++ option_to_list r.spilled

-- the writer that a room reports
pub writer_same : {target target' flushes flushes' : ℕ} → target' ≡ target → flushes' ≡ flushes →
    ◌≡◌ {A = Writer} (record { reference = 0; target = target'; flushes = flushes' }) (record { reference = 0; target = target; flushes = flushes })
writer_same t f = λ i. record { reference = 0; target = t i; flushes = f i }

pub nothing_in : (r : Room) → IsEmptyRoom r → text_of r ≡ []
nothing_in r empty = emptied r.len r.bytes.now r.spilled empty.1 empty.2

one_byte : (spilled : Option ℕ) → is_some spilled ≡ true → length (option_to_list spilled) ≡ 1
one_byte None is = cc
one_byte (Some b) is = refl

pub spilled_long : (r : Room) → is_some r.spilled ≡ true → length (text_of r) ≡ length r.bytes.now + 1
spilled_long r is =
    omega (arith, length-append (take r.len r.bytes.now) (option_to_list r.spilled), length-take-le r.len r.bytes.now r.within, one_byte r.spilled is, r.spilled_last is)

-- a room that has not spilled has its text in its memory
pub all_within : (r : Room) → r.spilled ≡ None → text_of r ≡ take r.len r.bytes.now
all_within r none = ap (λ s. take r.len r.bytes.now ++ option_to_list s) none ∙ append-nil (take r.len r.bytes.now)

-- its writes have not failed
never_fails : (answer : Result (Unit {0}) Fault) (room out : Room) → room.failures ≡ 0 → out.spilled ≡ None → CountsWrite room.failures out.failures answer → IfErr answer (λ f. f ≡ Write) →
    is_ok answer ≡ true
never_fails (Ok u) room out fresh none counts err = refl
never_fails (Err f) room out fresh none counts err =
    let one : out.failures ≡ 1 = subst (λ g. out.failures ≡ writes_after g room.failures) err counts ∙ ap one_more fresh in
    absurd (true≢false (sym (out.full (omega (arith, one))) ∙ ap is_some none))

-- an empty room that took no more bytes than fit has not spilled
pub never_full : {most : ℕ} (answer : Result (Unit {0}) Fault) (room out : Room) → IsEmptyRoom room → AppendsAtMost most (Some (text_of room)) (Some (text_of out)) → most ≤ length out.bytes.now →
    CountsWrite room.failures out.failures answer → IfErr answer (λ f. f ≡ Write) → (is_ok answer ≡ true) × (text_of out ≡ take out.len out.bytes.now)
never_full answer room out empty few enough counts err =
    let start : length (text_of room) ≡ 0 = ap length (nothing_in room empty) in
    let grown : length (text_of out) ≡ length (text_of room) + length few.bytes = ap length few.appended ∙ length-append (text_of room) few.bytes in
    let most_is = few.few in
    let none = not_spilled out.spilled (λ e. omega (arith, spilled_long out e, grown, start, most_is, enough)) in
    (never_fails answer room out empty.0 none counts err, all_within out none)

-- if all bytes fit, no write of them fails
pub head_fails_not : {f : Fault} {head : List ℕ} (room out : Room) → IsEmptyRoom room → length head ≤ length out.bytes.now → out.failures ≡ writes_after f room.failures →
    (f ≡ Write) ⊎ (f ≡ AnnouncedLow) → (f ≡ AnnouncedLow → ⊥) → (f ≡ Write → AppendsBeginning (Some (text_of room)) (Some (text_of out)) head) → ⊥
head_fails_not room out empty enough counts (inr e) refused cut = refused e
head_fails_not {f} {head} room out empty enough counts (inl e) refused cut =
    let begun = cut e in
    let start : length (text_of room) ≡ 0 = ap length (nothing_in room empty) in
    let grown : length (text_of out) ≡ length (text_of room) + length begun.front = ap length begun.appends ∙ length-append (text_of room) begun.front in
    let whole : length head ≡ length begun.front + length begun.rest = ap length begun.text_is ∙ length-append begun.front begun.rest in
    let one : out.failures ≡ 1 = subst (λ g. out.failures ≡ writes_after g room.failures) e counts ∙ ap one_more empty.0 in
    omega (arith, grown, start, whole, spilled_long out (out.full (omega (arith, one))), enough)

pub when_right : (answer : Result (Unit {0}) Fault) {P : Type 0} → is_ok answer ≡ true → OnOk answer P → P
when_right (Ok u) is p = p
when_right (Err f) is p = cc
