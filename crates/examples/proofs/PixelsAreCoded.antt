-- Pixels on their way into a code, and out of it.
use Rattle.std.proofs.Common.{◌≡◌, ℕ, ◌+◌, ◌<◌, ◌≤◌, Bool, List, [], ◌∷◌, ◌++◌, length, get_or, drop, Result, Ok, Err, false, refl, sym, ap, ◌∙◌, subst, append-nil, append_assoc, add-one}
use Rattle.std.specs.Prelude.{is_err}
use Rattle.std.proofs.lemmas.List.{drop_all}
use Rattle.std.proofs.Math.Seq.{drop-cons}
use Rattle.qm_core.specs.declared.context.Context.{Context}
use Rattle.qm_core.specs.declared.decoder.Decoder.{Decoder}
use Rattle.qm_core.specs.declared.encoder.CoderFault.{CoderFault}
use Rattle.qm_core.specs.declared.encoder.Encoder.{Encoder}
use Rattle.qm_core.specs.declared.sink.CodeSink.{Ghosts}
use Rattle.qm_core.specs.declared.source.Pulled.{Pulled}
use Rattle.qm_core.specs.declared.source.Pulled.TheVariants.{Byte, End, Fault}
use Rattle.qm_core.specs.Source.{IsClosed, Agrees, Pulls, Gives, source_at}
use Rattle.qm_core.specs.Code.{IsBytes, IsCode, Lies, code_of, stuffed}
use Rattle.qm_core.specs.Encoder.{EncoderIsAt, Put, Finish, encoder_state}
use Rattle.qm_core.specs.Laws.{EventsKeepPlace, OneCode, CodeLiesInAll, OnlyPixel}
use Rattle.qm_core.specs.Place.{Place, IsPlace, Estimate, State, Event, start, step, after}
use Rattle.qm_core.specs.Decoder.{Next, decoder_state}
use Rattle.qm_core.specs.Sink.{Took, sink_at}
use Rattle.examples.specs.declared.code.Code.{Code}
use Rattle.examples.specs.declared.code.Stuffed.{Stuffed}
use Rattle.examples.specs.Coder.{Unstuffs, events, end_of, code_for}

abbrev pub at_place : Place → List Estimate → State
at_place p learned = record { place = p; learned = learned }

-- from here the pixels that are left lead to the end of all
abbrev pub LeadsOn : List Estimate → List Context → List Bool → ℕ → Place → List Estimate → Type 0
LeadsOn before contexts pixels i p learned = after (at_place p learned) (events (drop i contexts) (drop i pixels)) ≡ end_of before contexts pixels

-- the context and the pixel at this place
pub record IsPixel (contexts : List Context) (pixels : List Bool) (i : ℕ) (cx : Context) (pixel : Bool) : Type 0 where
  pub in_contexts : i < length contexts
  pub in_pixels : i < length pixels
  pub is_cx : cx ≡ get_or contexts i cx
  pub is_pixel : pixel ≡ get_or pixels i false

one_left : {contexts : List Context} {pixels : List Bool} {i : ℕ} {cx : Context} {pixel : Bool} → IsPixel contexts pixels i cx pixel →
    events (drop i contexts) (drop i pixels) ≡ record { context = cx.number; pixel = pixel } ∷ events (drop (i + 1) contexts) (drop (i + 1) pixels)
one_left {contexts} {pixels} {i} {cx} {pixel} at =
    let h = at.in_contexts in
    let k = at.in_pixels in
    let c : drop i contexts ≡ cx ∷ drop (i + 1) contexts = rw (add-one, drop-cons contexts i cx, ← at.is_cx) in
    let x : drop i pixels ≡ pixel ∷ drop (i + 1) pixels = rw (add-one, drop-cons pixels i false, ← at.is_pixel) in
    rw (c, x)

leads_on : (before : List Estimate) {contexts : List Context} {pixels : List Bool} {i : ℕ} {cx : Context} {pixel : Bool} (p : Place) (learned learned' : List Estimate) →
    IsPixel contexts pixels i cx pixel →
    learned' ≡ (step (at_place p learned) cx.number pixel).learned → LeadsOn before contexts pixels i p learned →
    LeadsOn before contexts pixels (i + 1) (step (at_place p learned) cx.number pixel).place learned'
leads_on before {contexts} {pixels} {i} {cx} {pixel} p learned learned' at taught leads =
    subst (λ l. after (at_place (step (at_place p learned) cx.number pixel).place l) (events (drop (i + 1) contexts) (drop (i + 1) pixels)) ≡ end_of before contexts pixels)
    (sym taught) (rw (one_left at) at leads)

-- after the last pixel nothing is left
pub led : (before : List Estimate) (contexts : List Context) (pixels : List Bool) (i : ℕ) (p : Place) (learned : List Estimate) → length contexts ≤ i → LeadsOn before contexts pixels i p learned →
    at_place p learned ≡ end_of before contexts pixels
led before contexts pixels i p learned none leads = rw (drop_all i contexts none) at leads

pub end_is_place : IsPlace start → EventsKeepPlace → (before : List Estimate) (contexts : List Context) (pixels : List Bool) → IsPlace (end_of before contexts pixels).place
end_is_place start_is_place keep before contexts pixels = keep (events contexts pixels) (at_place start before) start_is_place

-- ---- into a code

abbrev pub Took1 : Code → ℕ → Code → Type 0
Took1 old byte new = new.bytes.items ≡ old.bytes.items ++ byte ∷ []

abbrev pub Refused1 : Code → Code → Type 0
Refused1 old new = Unit {0}

abbrev pub failures : Code → ℕ
failures code = code.failures

abbrev pub pushes : Ghosts Code
pushes = record { took = Took1; refused = Refused1; failed = failures }

pub took_all : (bytes : List ℕ) (from to : Code) → Took Took1 from bytes to → to.bytes.items ≡ from.bytes.items ++ bytes
took_all [] from to same = ap (λ (c : Code). c.bytes.items) (sym same) ∙ sym (append-nil from.bytes.items)
took_all (byte ∷ bytes) from to t = took_all bytes t.0 to t.2 ∙ ap (λ l. l ++ bytes) t.1 ∙ append_assoc from.bytes.items (byte ∷ []) bytes

-- a pixel more was put
pub coded_on : (before : List Estimate) {contexts : List Context} {pixels : List Bool} {i : ℕ} {p : Place} {learned learned' : List Estimate} {cx : Context} {pixel : Bool}
    {from to : Code} {encoder : Encoder}
    {result : Result (Unit {0}) CoderFault} → IsPixel contexts pixels i cx pixel → is_err result ≡ false
    → Put (sink_at pushes from from.bytes.items) (at_place p learned) cx.number pixel (encoder_state to encoder learned') result → LeadsOn before contexts pixels i p learned
    → (q : Place) × EncoderIsAt encoder q to.bytes.items × LeadsOn before contexts pixels (i + 1) q learned'
coded_on before {result = Err e} at went put leads = absurd (let bot : ⊥ = cc in bot)
coded_on before {p = p} {learned} {learned'} {cx} {pixel} {from} {to} {encoder} {result = Ok u} at went put leads =
    ((step (at_place p learned) cx.number pixel).place, rw (took_all put.more from to put.writes.ok) put.codes, leads_on before p learned learned' at put.taught leads)

-- the code was ended
pub ended : (p : Place) (from to : Code) (result : Result (Unit {0}) CoderFault) → OneCode → IsPlace p → is_err result ≡ false →
    Finish (sink_at pushes from from.bytes.items) p to result → to.bytes.items ≡ stuffed (code_of p)
ended p from to (Err e) one_code place went finish = absurd (let bot : ⊥ = cc in bot)
ended p from to (Ok u) one_code place went finish =
    let code = (one_code p place).only finish.code finish.is in
    took_all finish.more from to finish.writes.ok ∙ finish.all ∙ ap stuffed code

-- ---- out of a code

abbrev pub Pull : Stuffed → Pulled → Stuffed → Type 0
Pull = Pulls (λ (old : Stuffed) (answer : Pulled) (new : Stuffed). Unstuffs old.rest.now answer new.rest.now) (λ (source : Stuffed). 0)

-- the code agrees with what was pulled of it
pub given_by : (answers : List Pulled) (from to : Stuffed) (code : List ℕ) → Gives Pull from answers to → from.rest.now ≡ stuffed code → IsClosed answers → IsBytes code → Agrees answers code
given_by [] from to code gives held closed bytes = record { rest = code; is = refl; bytes = bytes; ended = λ e. absurd (let bot : ⊥ = cc in bot) }
given_by (Byte b ∷ answers) from to [] gives held closed bytes =
    let next = gives.1.step [] held in
    absurd (let bot : ⊥ = cc in bot)
given_by (Byte b ∷ answers) from to (x ∷ code) gives held closed bytes =
    let next = gives.1.step (x ∷ code) held in
    let same : b ≡ x = cc in
    let left = given_by answers gives.0 to code gives.2 next.1 closed bytes.1 in
    record { rest = left.rest; is = rw same (ap (λ l. x ∷ l) left.is); bytes = left.bytes; ended = left.ended }
given_by (End ∷ answers) from to [] gives held closed bytes = record { rest = []; is = rw closed refl; bytes = tt; ended = λ e. refl }
given_by (End ∷ answers) from to (x ∷ code) gives held closed bytes =
    let next = gives.1.step (x ∷ code) held in
    absurd (let bot : ⊥ = cc in bot)
given_by (Fault ∷ answers) from to [] gives held closed bytes =
    let next = gives.1.step [] held in
    absurd (let bot : ⊥ = cc in bot)
given_by (Fault ∷ answers) from to (x ∷ code) gives held closed bytes =
    let next = gives.1.step (x ∷ code) held in
    absurd (let bot : ⊥ = cc in bot)

-- a pixel more was decoded, and it is the one that was put
module _ (start_is_place : IsPlace start) (keep : EventsKeepPlace) (one_code : OneCode) (inverse : CodeLiesInAll) (only_pixel : OnlyPixel) where
  pub decoded_on : (before : List Estimate) {contexts : List Context} {i : ℕ} {p : Place} {learned learned' : List Estimate} {cx : Context} {found : Bool} (first : Stuffed)
      {from to : Stuffed} {decoder : Decoder} {answers : List Pulled} (pixels : List Bool)
      → IsPixel contexts pixels i cx (get_or pixels i false) →
      (n : Next (source_at Pull from answers) (at_place p learned) cx.number (decoder_state to decoder learned') (Ok found)) → IsPlace p → Gives Pull first (answers ++ n.more) to
      → first.rest.now ≡ code_for before contexts pixels → LeadsOn before contexts pixels i p learned
      → (found ≡ get_or pixels i false) × LeadsOn before contexts pixels (i + 1) (step (at_place p learned) cx.number found).place learned'
  decoded_on before {contexts} {i} {p} {learned} {learned'} {cx} {found} first {to = to} {answers = answers} pixels at n place gives held leads =
      (same, leads_on before p learned learned' here n.taught leads) where
        last : State
        last = end_of before contexts pixels

        code : List ℕ
        code = code_of last.place

        is_code : IsCode last.place code
        is_code = (one_code last.place (end_is_place start_is_place keep before contexts pixels)).is

        pixel : Bool
        pixel = get_or pixels i false

        later : List Event
        later = events (drop (i + 1) contexts) (drop (i + 1) pixels)

        rest : after (step (at_place p learned) cx.number pixel) later ≡ last
        rest = rw (one_left at) at leads

        lies : Lies code (step (at_place p learned) cx.number pixel).place
        lies = (inverse (at_place p learned) (record { context = cx.number; pixel = pixel } ∷ []) later code place (rw rest is_code)).0

        agrees : Agrees (answers ++ n.more) code
        agrees = given_by (answers ++ n.more) first to code gives held n.stands.closed is_code.bytes

        same : found ≡ pixel
        same = only_pixel code (at_place p learned) cx.number pixel found lies (n.inside code agrees).1

        here : IsPixel contexts pixels i cx found
        here = record { in_contexts = at.in_contexts; in_pixels = at.in_pixels; is_cx = at.is_cx; is_pixel = same }
