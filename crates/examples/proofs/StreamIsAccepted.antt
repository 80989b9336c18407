-- A stream that denotes a raster is never rejected.
use Rattle.std.proofs.Common.{◌≡◌, ◌≤◌, ◌+◌, inl, inr, ℕ, Bool, true, false, List, [], ◌++◌, length, drop, nat_lt, Option, Some, None, Result, Ok, Err, refl, sym, ap, ◌∙◌, append-nil, arith, true≢false, ◌^◌}
use Rattle.std.specs.Prelude.{IfErr}
use Rattle.std.proofs.lemmas.Bool.Decides.{nat_tests}
use Rattle.t85_core.specs.Change.{between}
use Rattle.t85_core.specs.declared.fault.Fault.{Fault}
use Rattle.t85_core.specs.declared.fault.Fault.TheVariants.{ShortHeader, Read, Write, OutOfMemory, AnnouncedLow, TooManyRows, Pbm}
use Rattle.t85_core.specs.Decode.{FindHeight}
use Rattle.t85_core.specs.Denotes.{Denotes}
use Rattle.t85_core.specs.Header.{Fields, HeaderOf, header_fault}
use Rattle.t85_core.specs.Height.{IsHeight, StreamFault}
use Rattle.t85_core.specs.Laws.{HeaderLaws}
use Rattle.t85_core.specs.Info.{HasLine, numbers_of, line_text}
use Rattle.t85_core.specs.ToPbm.{TakesHeader, HeaderEnds, ToPbmAt, ToPbmOnce, ToPbm, Delivery, ReadsAgain, second_reading}
use Rattle.t85_core.specs.Failures.{counted_as, reads_after}
use Rattle.raster_core.specs.Raster.{Raster}
use Rattle.examples.specs.Image.{IsOfImage}
use Rattle.examples.proofs.StreamSplits.{splits}

-- a stream that has its parts has no fault
abbrev pub LineOrFault : Type 0
LineOrFault = (bytes text : List ℕ) (f : Fault) → HasLine bytes text → StreamFault bytes f → ⊥

pub some_same : (f g : Fault) → Some f ≡ Some g → f ≡ g
some_same f g e = cc

unread : (f : Fault) → 0 ≡ reads_after f 0 → counted_as ShortHeader f ≡ f
unread Read counts = absurd (omega (arith, counts))
unread f counts = refl

-- a stream that denotes a raster has no fault
pub no_fault : LineOrFault → (bytes : List ℕ) (raster : Raster) → Denotes bytes raster → (f : Fault) → StreamFault bytes f → ⊥
no_fault law bytes raster d f has = law bytes _ f line has where
  line : HasLine bytes (line_text (numbers_of d.header d.height d.denotes.parts.stripes))
  line = record { header = d.header; header_of = d.header_of; height = d.height; height_is = d.height_is; parts = d.denotes.parts; text_is = refl }

module _ (law : LineOrFault) (headers : HeaderLaws) {bytes : List ℕ} {raster : Raster} (d : Denotes bytes raster) where
  header_stands : {left : Option (List ℕ)} (f : Fault) → HeaderEnds (between (Some bytes) left 0 0) f → ⊥
  header_stands {left = None} f h = absurd h.ends.taken
  header_stands {left = Some rest} f h = went (nat_lt (length h.ends.given) 20) refl where
    given : List ℕ
    given = h.ends.given

    is : header_fault given ≡ Some f
    is = h.ends.has_fault.1 ∙ ap Some (unread f h.counts)

    went : (test : Bool) → nat_lt (length given) 20 ≡ test → ⊥
    went true short =
        let f_is : f ≡ ShortHeader = (let e : header_fault given ≡ Some ShortHeader = rw short in some_same f ShortHeader (sym is ∙ e)) in
        let end : rest ≡ [] = h.ends.at_end f_is in
        let all : bytes ≡ given = h.ends.taken ∙ ap (λ l. given ++ l) end ∙ append-nil given in
        no_fault law bytes raster d f (inl (ap (λ l. header_fault l) all ∙ is))
    went false long =
        let enough : 20 ≤ length given = grind (arith, nat_tests) in
        no_fault law bytes raster d f (inl (ap (λ l. header_fault l) h.ends.taken ∙ headers.refusal_stands given rest enough ∙ is))

  body_told : {h : Fields} {height limit : ℕ} {left : Option (List ℕ)} {out : Delivery} (f : Fault) → HeaderOf bytes h → IsHeight h (drop 20 bytes) height → height ≤ limit →
      ToPbmAt h height limit (between (Some (drop 20 bytes)) left 0 0) out (Err f) → IsOfImage f
  body_told Write header_of height_is within c = tt
  body_told OutOfMemory header_of height_is within c = tt
  body_told AnnouncedLow header_of height_is within c = tt
  body_told (Pbm fault) header_of height_is within c = tt
  body_told Read header_of height_is within c = absurd (omega (arith, c.reads))
  body_told TooManyRows header_of height_is within c = absurd (let high = c.too_high refl in omega (arith, high.0, within))
  body_told {h} {height} f header_of height_is within c =
      let w = c.broken (λ e. cc) (λ e. cc) (λ e. cc) (λ e. cc) in
      absurd (no_fault law bytes raster d f (inr (record { header = h; header_of = header_of; height = height; height_is = height_is; broken = w.fixes.broken })))

  answer_told : {h : Fields} {height limit : ℕ} {left : Option (List ℕ)} {out : Delivery} (answer : Result (Unit {0}) Fault) → HeaderOf bytes h → IsHeight h (drop 20 bytes) height → height ≤ limit →
      ToPbmAt h height limit (between (Some (drop 20 bytes)) left 0 0) out answer → IfErr answer IsOfImage
  answer_told (Ok u) header_of height_is within c = tt
  answer_told (Err f) header_of height_is within c = body_told f header_of height_is within c

  module _ {limit : ℕ} {out : Delivery} {answer : Result (Unit {0}) Fault} (large : 2 ^ 32 ≤ limit + 1) where
    at_body : {h : Fields} {height : ℕ} {body left : Option (List ℕ)} → TakesHeader h (Some bytes) body → IsHeight h (drop 20 bytes) height → height ≤ h.yd →
        ToPbmAt h height limit (between body left 0 0) out answer → IfErr answer IsOfImage
    at_body {h} {body = body} takes height_is below converts =
        let stands = splits headers bytes h body takes in
        let tall = takes.header_of.accepted.height_to in
        answer_told answer stands.header_of height_is (omega arith) (rw stands.body_is at converts)

    once_told : {left : Option (List ℕ)} → ToPbmOnce limit (between (Some bytes) left 0 0) out answer → IfErr answer IsOfImage
    once_told o = at_body o.taken (inr (refl, λ other gives. absurd (true≢false (sym gives.variable ∙ o.fixed)))) (omega arith) o.converts

    again_told : {h : Fields} {body left left' : Option (List ℕ)} {height : ℕ} → TakesHeader h (Some bytes) body → FindHeight h (between body left 0 0) (Ok height) →
        ReadsAgain h height limit (between (Some bytes) left' 0 0) out answer → IfErr answer IsOfImage
    again_told {h} {body} {left' = left'} takes finds again = elim again [
      | inl refused ↦ absurd (header_stands refused.fault refused.header)
      | inr (inl changed) ↦ absurd (changed.differs
          (headers.one bytes changed.other h (splits headers bytes changed.other left' changed.taken).header_of (splits headers bytes h body takes).header_of))
      | inr (inr converts) ↦ at_body converts.taken (rw (splits headers bytes h body takes).body_is at finds.found) finds.to converts.converts
    ]

    -- nothing of the stream is reported, where no read fails and both readings have its bytes
    pub told : {left left' : Option (List ℕ)} {untouched : Type 0} →
        ToPbm limit (between (Some bytes) left 0 0) (second_reading true untouched (between (Some bytes) left' 0 0)) out answer → IfErr answer IsOfImage
    told c = elim c.went [
      | inl refused ↦ absurd (header_stands refused.0.fault refused.0.header)
      | inr (inl once) ↦ once_told once.0
      | inr (inr (inl wants)) ↦ absurd (true≢false wants.0.once)
      | inr (inr (inr twice)) ↦ elim twice.went [
        | inl unread ↦ absurd (omega (arith, unread.finds.counts))
        | inr found ↦ again_told twice.taken found.1 found.2
      ]
    ]
