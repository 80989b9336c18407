-- Events decoded one after another.
use Rattle.std.proofs.Common.{◌≡◌, ℕ, ◌+◌, ◌<◌, ◌≤◌, Bool, List, [], ◌∷◌, ◌++◌, length, refl, sym, ◌∙◌, arith, subst, Ok, Err, append_assoc}
use Rattle.std.specs.Prelude.{IsErr}
use Rattle.std.proofs.lemmas.List.{append-nil, length-append}
use Rattle.qm_core.specs.Place.{State, Event, step, after}
use Rattle.qm_core.specs.Code.{wanted_bytes}
use Rattle.qm_core.specs.Source.{bytes_of, heard_of, source_at}
use Rattle.qm_core.specs.Decoder.{DecoderIsAt, DecoderState, Next}
use Rattle.qm_core.specs.declared.source.Pulled.{Pulled}
use Rattle.qm_core.specs.declared.source.Pulled.TheVariants.{Byte, End, Fault}
use Rattle.qm_core.specs.declared.source.Heard.{Heard}
use Rattle.qm_core.specs.declared.source.Heard.TheVariants.{More, Ended, Stopped}
use Rattle.qm_core.specs.declared.decoder.Stop.{Stop}
use Rattle.raster_core.specs.Events.{Decodes, Stops}
use Rattle.raster_core.specs.Enough.{AreEnough}
use Rattle.raster_core.proofs.AnswersJoin.{bytes_of-append, length-bytes_of, Gives-append}

pub after_append : (s : State) (xs ys : List Event) → after s (xs ++ ys) ≡ after (after s xs) ys
after_append s [] ys = refl
after_append s (x ∷ xs) ys = after_append (step s x.context x.pixel) xs ys

heard_front : (xs ys : List Pulled) → heard_of (xs ++ ys) ≡ More → heard_of xs ≡ More
heard_front [] ys h = refl
heard_front (Byte b ∷ xs) ys h = heard_front xs ys h
heard_front (End ∷ xs) ys h = h
heard_front (Fault ∷ xs) ys h = h

-- a fault is an answer without a byte
stopped_bytes : (xs : List Pulled) → heard_of xs ≡ Stopped → length (bytes_of xs) < length xs
stopped_bytes [] h = cc
stopped_bytes (Byte b ∷ xs) h = let r = stopped_bytes xs h in omega arith
stopped_bytes (End ∷ xs) h = cc
stopped_bytes (Fault ∷ xs) h = let r = few xs in omega arith
  where
    few : (ys : List Pulled) → length (bytes_of ys) ≤ length ys
    few [] = omega arith
    few (Byte b ∷ ys) = let r = few ys in omega arith
    few (End ∷ ys) = let r = few ys in omega arith
    few (Fault ∷ ys) = let r = few ys in omega arith

pub enough_more : (events : List Event) (m n : ℕ) (s : State) → m ≤ n → AreEnough m s events → AreEnough n s events
enough_more [] m n s l h = tt
enough_more (e ∷ events) m n s l h =
    let a = h.0 in
    (omega arith, enough_more events m n (step s e.context e.pixel) l h.1)

pub enough_append : (xs ys : List Event) (n : ℕ) (s : State) → AreEnough n s xs → AreEnough n (after s xs) ys → AreEnough n s (xs ++ ys)
enough_append [] ys n s h k = k
enough_append (e ∷ xs) ys n s h k = (h.0, enough_append xs ys n (step s e.context e.pixel) h.1 k)

-- an end is heard whatever is asked after it
end_stays : (xs ys : List Pulled) → heard_of xs ≡ Ended → heard_of (xs ++ ys) ≡ Ended
end_stays [] ys h = cc
end_stays (Byte b ∷ xs) ys h = end_stays xs ys h
end_stays (End ∷ xs) ys h = h
end_stays (Fault ∷ xs) ys h = cc

-- what was enough before the source stopped is enough with what it gave since
enough_kept : (events : List Event) (s : State) (xs ys : List Pulled) → (heard_of xs ≡ More → AreEnough (length (bytes_of xs)) s events) → (heard_of xs ≡ Stopped → events ≡ []) →
    heard_of (xs ++ ys) ≡ Stopped → AreEnough (length (bytes_of (xs ++ ys))) s events
enough_kept events s xs ys enough going stopped = by (heard_of xs) refl
  where
    by : (h : Heard) → heard_of xs ≡ h → AreEnough (length (bytes_of (xs ++ ys))) s events
    by More is =
        let bytes : length (bytes_of (xs ++ ys)) ≡ length (bytes_of xs) + length (bytes_of ys) = rw bytes_of-append (length-append (bytes_of xs) (bytes_of ys)) in
        enough_more events (length (bytes_of xs)) (length (bytes_of (xs ++ ys))) s (omega arith) (enough is)
    by Ended is = let e = end_stays xs ys is in cc
    by Stopped is = subst (AreEnough (length (bytes_of (xs ++ ys))) s) (sym (going is)) tt

no_err : (pixel : Bool) → IsErr {T = Bool} {E = Stop} (Ok pixel) → ⊥
no_err pixel h = cc

pub decodes_none : {S : Type 0} {pull : S → Pulled → S → Type 0} {s : State} {answers : List Pulled} {new : DecoderState S} →
    DecoderIsAt new.decoder s.place answers → new.learned ≡ s.learned → Decodes (source_at pull new.source answers) s [] [] new
decodes_none h taught =
    record { gives = refl; stands = rw append-nil h; taught = taught; enough = λ _. tt; going = λ _. refl }

pub decodes_next : {S : Type 0} {pull : S → Pulled → S → Type 0} {from : S} {mid to : DecoderState S} {s : State} {answers more : List Pulled} {events : List Event} {cx : ℕ} {pixel : Bool} →
    Decodes (source_at pull from answers) s more events mid →
    Next (source_at pull mid.source (answers ++ more)) (record { place = (after s events).place; learned = mid.learned }) cx to (Ok pixel) →
    (more' : List Pulled) × Decodes (source_at pull from answers) s more' (events ++ record { context = cx; pixel = pixel } ∷ []) to
decodes_next {S} {pull} {from} {mid} {to} {s} {answers} {more} {events} {cx} {pixel} h n =
    let at = subst (λ l. Next (source_at pull mid.source (answers ++ more)) (record { place = (after s events).place; learned = l }) cx to (Ok pixel)) h.taught n in
    let last = after_append s events (record { context = cx; pixel = pixel } ∷ []) in
    (more ++ at.more, parts at last)
  where
    parts : (at : Next (source_at pull mid.source (answers ++ more)) (after s events) cx to (Ok pixel)) →
        after s (events ++ record { context = cx; pixel = pixel } ∷ []) ≡ step (after s events) cx pixel →
        Decodes (source_at pull from answers) s (more ++ at.more) (events ++ record { context = cx; pixel = pixel } ∷ []) to
    parts at last =
        let assoc = append_assoc answers more at.more in
        record {
          gives = Gives-append pull from mid.source to.source more at.more h.gives at.gives;
          stands = rw (last, ← assoc) at.stands;
          taught = rw last at.taught;
          enough = λ going.
              let going' : heard_of ((answers ++ more) ++ at.more) ≡ More = rw assoc going in
              let size = length-bytes_of ((answers ++ more) ++ at.more) going' ∙ at.asked.enough going' in
              let bytes : length (bytes_of ((answers ++ more) ++ at.more)) ≡ length (bytes_of (answers ++ more)) + length (bytes_of at.more) =
              rw bytes_of-append (length-append (bytes_of (answers ++ more)) (bytes_of at.more)) in
              let grown : length (bytes_of (answers ++ more)) ≤ length (bytes_of ((answers ++ more) ++ at.more)) = omega arith in
              let here : wanted_bytes (after s events).place.doublings ≤ length (bytes_of ((answers ++ more) ++ at.more)) = omega arith in
              rw (← assoc) (enough_append events (record { context = cx; pixel = pixel } ∷ []) _ s
              (enough_more events _ _ s grown (h.enough (heard_front (answers ++ more) at.more going')))
              (here, tt));
          going = λ stopped. absurd (no_err pixel (at.stop.1 (rw assoc stopped)));
        }

pub decodes_stop : {S : Type 0} {pull : S → Pulled → S → Type 0} {from : S} {mid to : DecoderState S} {s : State} {answers more : List Pulled} {events : List Event} {cx : ℕ} {fault : Stop} →
    Decodes (source_at pull from answers) s more events mid →
    Next (source_at pull mid.source (answers ++ more)) (record { place = (after s events).place; learned = mid.learned }) cx to (Err fault) →
    (more' : List Pulled) × Stops (source_at pull from answers) s more' events to
decodes_stop {S} {pull} {from} {mid} {to} {s} {answers} {more} {events} {cx} {fault} h n =
    let at = subst (λ l. Next (source_at pull mid.source (answers ++ more)) (record { place = (after s events).place; learned = l }) cx to (Err fault)) h.taught n in
    (more ++ at.more, parts at)
  where
    parts : (at : Next (source_at pull mid.source (answers ++ more)) (after s events) cx to (Err fault)) → Stops (source_at pull from answers) s (more ++ at.more) events to
    parts at =
        let assoc = append_assoc answers more at.more in
        let stopped = at.stop.0 refl in
        let few = stopped_bytes ((answers ++ more) ++ at.more) stopped in
        let most = at.asked.no_more in
        let short : length (bytes_of ((answers ++ more) ++ at.more)) < wanted_bytes (after s events).place.doublings = omega arith in
        record {
          gives = Gives-append pull from mid.source to.source more at.more h.gives at.gives;
          stopped = rw (← assoc) stopped;
          short = rw (← assoc) short;
          stays = rw (← assoc) at.unchanged.1;
          taught = at.unchanged.0;
          enough = rw (← assoc) (enough_kept events s (answers ++ more) at.more h.enough h.going stopped);
        }
