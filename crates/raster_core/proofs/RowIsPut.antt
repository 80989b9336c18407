-- A whole row's events: what is put for the bytes of a window is what the standard codes for its lines.
use Rattle.std.proofs.Common.{◌≡◌, ℕ, zero, suc, ◌+◌, ◌-◌, ◌*◌, ◌/◌, ◌%◌, ◌<◌, ◌≤◌, Bool, true, false, List, [], ◌∷◌, ◌++◌, length, refl, sym, ◌∙◌, ap, arith, Ok, Err}
use Rattle.std.specs.Prelude.{Result, IsTrue, OnOk, ◌==◌, if◌then◌else◌}
use Rattle.std.proofs.lemmas.Bool.Decides.{nat_tests}
use Rattle.std.proofs.lemmas.List.{append-nil}
use Rattle.qm_core.specs.Place.{Place, Event, same}
use Rattle.qm_core.specs.Encoder.{EncoderIsAt, EncoderState, FailsOnce, event_count, has_failed}
use Rattle.qm_core.specs.declared.encoder.Encoder.{Encoder}
use Rattle.qm_core.specs.declared.encoder.CoderFault.{CoderFault}
use Rattle.qm_core.specs.declared.encoder.CoderFault.TheVariants.{Failed}
use Rattle.qm_core.specs.declared.sink.CodeSink.{Ghosts}
use Rattle.raster_core.specs.Raster.{pixel_at, pixel_left}
use Rattle.raster_core.specs.Lines.{Lines, Mode, binary, two_line, three_line, adaptive, context_at, pixel_events, row_events, pseudo_context, may_be_typical}
use Rattle.raster_core.specs.Packed.{HasLines}
use Rattle.qm_core.specs.Puts.{failed_answer, state_at, Puts}
use Rattle.raster_core.specs.Row.{first_events, canonical_events, RowEncoded, row_task}
use Rattle.raster_core.specs.Window.{shape_mode}
use Rattle.raster_core.specs.Machine.Bytes.{events_from}
use Rattle.raster_core.specs.Machine.Rows.{lines_in, held_in, plain_events, coded_events}
use Rattle.qm_core.specs.declared.coder.Coder.{Coder}
use Rattle.qm_core.specs.Sink.{sink_at}
use Rattle.raster_core.specs.declared.shape.Shape.{Shape}
use Rattle.raster_core.specs.declared.shape.Kept.{Kept}
use Rattle.raster_core.specs.declared.rows.Rows.{Rows}
use Rattle.raster_core.specs.declared.row_byte.Template.{Template}
use Rattle.raster_core.proofs.ContextsLookBack.{map_same}
use Rattle.raster_core.proofs.AnswersJoin.{not_both}
use Rattle.raster_core.proofs.ByteHoldsPixels.{pixel_in}
use Rattle.raster_core.proofs.EventListsJoin.{event_is, events_first, length-events}
use Rattle.raster_core.proofs.RegistersTakeBytes.{IsIn, packed_in}
use Rattle.raster_core.proofs.BytesHoldRows.{current_in, above_in, second_in}
use Rattle.raster_core.proofs.PixelNumbersSplit.{bit_same}

-- ---- rows with the same bytes have the same pixels

record SamePixels (a b : List Bool) : Type 0 where
  at : (x : ℕ) → pixel_at a x ≡ pixel_at b x

same_pixels : {a b : List Bool} {bytes : List ℕ} → IsIn a bytes → IsIn b bytes → SamePixels a b
same_pixels {a} {b} p q = record {
  at = λ x.
      let k : ℕ = x / 8 in
      let n : ℕ = x % 8 in
      let few : n < 8 = omega arith in
      let place : 8 * k + n ≡ x = omega arith in
      let one = pixel_in a (8 * k) n refl few in
      let two = pixel_in b (8 * k) n (p.byte k ∙ sym (q.byte k)) few in
      rw (← place) (bit_same _ _ (sym one ∙ two));
}

same_left : {a b : List Bool} (x k : ℕ) → SamePixels a b → pixel_left a x k ≡ pixel_left b x k
same_left x k h = rw (h.at (x - k)) refl

-- two raster lines and the two above each have the same pixels
record SameLines (p q : Lines) : Type 0 where
  row : SamePixels p.row q.row
  above : SamePixels p.above q.above
  second : SamePixels p.second q.second

same_adaptive : {p q : Lines} (offset x : ℕ) → SameLines p q → adaptive p offset x ≡ adaptive q offset x
same_adaptive zero x h = h.above.at (x + 2)
same_adaptive (suc t) x h =
    let test : (suc t == 0) ≡ false = grind (arith, nat_tests) in
    rw test (same_left x (suc t) h.row)

same_context : {p q : Lines} (mode : Mode) (offset x : ℕ) → SameLines p q → context_at mode p offset x ≡ context_at mode q offset x
same_context {p} {q} mode offset x h =
    let t = same_adaptive offset x h in
    let r1 = same_left x 1 h.row in
    let r2 = same_left x 2 h.row in
    let r3 = same_left x 3 h.row in
    let r4 = same_left x 4 h.row in
    let a1 = same_left x 1 h.above in
    let a2 = same_left x 2 h.above in
    let a3 = same_left x 3 h.above in
    let a0 = h.above.at x in
    let ar = h.above.at (x + 1) in
    let s1 = same_left x 1 h.second in
    let s0 = h.second.at x in
    let sr = h.second.at (x + 1) in
    let three : three_line p offset x ≡ three_line q offset x = cc in
    let two : two_line p offset x ≡ two_line q offset x = cc in
    elim mode.two_line as (λ b. binary (if b then two_line p offset x else three_line p offset x) ≡ binary (if b then two_line q offset x else three_line q offset x))
    [ true ↦ ap binary two | false ↦ ap binary three ]

pub plain_are : {lines : Lines} (typical : Bool) (template : Template) (rows : Rows) → HasLines (held_in rows) lines →
    plain_events template rows ≡ pixel_events (record { two_line = template.two_line; typical = typical }) lines template.offset
unfolding events_from
plain_are {lines} typical template rows w =
    let mode : Mode = record { two_line = template.two_line; typical = typical } in
    let same : SameLines (lines_in rows) lines =
    record { row = same_pixels (current_in rows) (packed_in w.row_is); above = same_pixels (above_in rows) (packed_in w.above_is); second = same_pixels (second_in rows) (packed_in w.second_is) } in
    ap (events_from template (lines_in rows) 0) (sym w.row_wide)
    ∙ map_same _ _ 0 (length lines.row) (λ x few. event_is _ _ _ _ (same_context mode template.offset x same) (same.row.at x))

pub coded_are : (typical : Bool) (template : Template) (rows : Rows) (lines : Lines) (previous flag : Bool) → HasLines (held_in rows) lines →
    coded_events (record { two_line = template.two_line; typical = typical }) template rows previous flag ≡ row_events
    (record { two_line = template.two_line; typical = typical }) lines template.offset previous flag
unfolding coded_events
coded_are typical template rows lines previous flag w =
    rw (plain_are typical template rows w) refl

-- ---- a row has events

pub first_is : (mode : Mode) (previous flag : Bool) (cx : ℕ) (pixel : Bool) → mode.typical ≡ true → cx ≡ pseudo_context mode.two_line → pixel ≡ same previous flag →
    record { context = cx; pixel = pixel } ∷ [] ≡ first_events mode previous flag
first_is mode previous flag cx pixel typical number is = rw typical (rw (event_is cx _ pixel _ number is) refl)

pub first_is_none : (mode : Mode) (previous flag : Bool) → mode.typical ≡ false → [] ≡ first_events mode previous flag
first_is_none mode previous flag plain = rw plain refl

pub coded_some : (mode : Mode) (template : Template) (rows : Rows) (previous flag : Bool) → (IsTrue flag → IsTrue mode.typical) → 1 ≤ rows.width →
    failed_answer (coded_events mode template rows previous flag) ≡ Err Failed
unfolding coded_events
coded_some mode template rows previous flag h some = by mode.typical flag h
  where
    at_least : (n : ℕ) → 1 ≤ n → failed_answer (events_from template (lines_in rows) 0 n) ≡ Err Failed
    at_least zero h = absurd (omega arith)
    at_least (suc n) h = rw events_first refl

    by : (t f : Bool) → (IsTrue f → IsTrue t) →
        failed_answer (first_events (record { two_line = mode.two_line; typical = t }) previous flag ++ (if f then [] else plain_events template rows)) ≡ Err Failed
    by true f h = refl
    by false true h = let e = h refl in cc
    by false false h = at_least rows.width some

pub few_events : (mode : Mode) (template : Template) (rows : Rows) (previous flag : Bool) → length (coded_events mode template rows previous flag) ≤ rows.width + 1
unfolding coded_events
few_events mode template rows previous flag = by mode.typical flag
  where
    by : (t f : Bool) → length (first_events (record { two_line = mode.two_line; typical = t }) previous flag ++ (if f then [] else plain_events template rows)) ≤ rows.width + 1
    by true true = omega arith
    by true false = let l = length-events template (lines_in rows) 0 rows.width in omega arith
    by false true = omega arith
    by false false = let l = length-events template (lines_in rows) 0 rows.width in omega arith

-- ---- the flag

pub coded_typical : (mode : Mode) (template : Template) (rows : Rows) (previous flag : Bool) → flag ≡ true → first_events mode previous flag ≡ coded_events mode template rows previous flag
unfolding coded_events
coded_typical mode template rows previous flag h = rw h (sym (append-nil _))

pub coded_plain : (mode : Mode) (template : Template) (rows : Rows) (previous flag : Bool) → flag ≡ false →
    first_events mode previous flag ++ plain_events template rows ≡ coded_events mode template rows previous flag
unfolding coded_events
coded_plain mode template rows previous flag h = rw h refl

-- ---- what putting them leaves, where the loan ends with these values

pub failed_same : {S : Type 0} {sink : Ghosts S} {events : List Event} {c c' : Coder S} {result : Result (Unit {0}) CoderFault} {e' : Encoder} {to : S} → e' ≡ c'.encoder.now → to ≡ c'.out.now →
    failed_answer events ≡ Err Failed → Puts sink events c c' result →
    IsTrue (has_failed c.encoder.now) → (result ≡ Err Failed) × (e' ≡ c.encoder.now) × (to ≡ c.out.now)
failed_same e_is to_is some h t = let k = h.stuck t in (k.0 ∙ some, e_is ∙ k.1.encoder_is, to_is ∙ k.1.out_is)

-- an encoder that put something has not failed
pub going_on : {S : Type 0} {sink : Ghosts S} {events : List Event} {c c' : Coder S} → failed_answer events ≡ Err Failed → Puts sink events c c' (Ok tt) → has_failed c'.encoder.now ≡ false
going_on {c = c} {c'} some h = by (has_failed c.encoder.now) refl
  where
    by : (b : Bool) → has_failed c.encoder.now ≡ b → has_failed c'.encoder.now ≡ false
    by true e = let k = (h.stuck e).0 ∙ some in cc
    by false e = (h.goes e).fails

-- one that put something has done so, or had failed before
pub put_or_failed : {S : Type 0} {sink : Ghosts S} {events : List Event} {c c' : Coder S} {e' : Encoder} {to : S} → e' ≡ c'.encoder.now → to ≡ c'.out.now → failed_answer events ≡ Err Failed →
    Puts sink events c c' (Ok tt) →
    FailsOnce {T = Unit {0}} sink.failed c.encoder.now e' c.out.now to (Ok tt)
put_or_failed {S} {sink} {e' = e'} e_is to_is some h =
    let failed = failed_same e_is to_is some h in
    let now : has_failed e' ≡ false = rw e_is (going_on some h) in (
      ((λ t. let f = failed t in (f.0, f.2)), (λ _ e. absurd (let bot : ⊥ = cc in bot)), (ap sink.failed to_is ∙ h.same), (λ _. tt)),
      (λ t. (failed t).1),
      ((λ t. absurd (not_both t now)), (λ e. absurd (let bot : ⊥ = cc in bot))),
    )

pub counts_to : {S : Type 0} {sink : Ghosts S} {c c' : Coder S} (mode : Mode) (template : Template) (rows : Rows) (previous flag : Bool) →
    Puts sink (coded_events mode template rows previous flag) c c' (Ok tt) →
    event_count c'.encoder.now ≤ event_count c.encoder.now + (rows.width + 1)
counts_to mode template rows previous flag h = let k = h.count in let few = few_events mode template rows previous flag in omega arith

-- the code of a row, if the loan ends with these values
pub row_coded : {S : Type 0} {sink : Ghosts S} {shape : Shape} {kept kept' : Kept} {lines : Lines} {flag : Bool} {c c' : Coder S} {result : Result (Unit {0}) CoderFault}
    {p : Place} {pushed : List ℕ} {new : EncoderState S} (template : Template) (rows : Rows) → (new.encoder ≡ c'.encoder.now) × (new.learned ≡ c'.learned.now) × (new.out ≡ c'.out.now) →
    (template.two_line ≡ shape.two_line) × (template.offset ≡ kept.offset) → HasLines (held_in rows) lines → flag ≡ may_be_typical (shape_mode shape) lines →
    OnOk result ((kept'.offset ≡ kept.offset) × (kept'.previous_typical ≡ flag)) →
    Puts sink (coded_events (shape_mode shape) template rows kept.previous_typical flag) c c' result → has_failed c.encoder.now ≡ false → EncoderIsAt c.encoder.now p pushed →
    RowEncoded (sink_at sink c.out.now pushed) (row_task shape kept (state_at c p) lines) kept' new result
row_coded {S} {sink} {shape} {kept} {kept'} {lines} {flag} {c} {c'} {result} {p} {pushed} {new} template rows new_is of w is kept_is h going at =
    by result kept_is (rw events_are at h)
  where
    events_are : coded_events (shape_mode shape) template rows kept.previous_typical flag ≡ canonical_events shape kept lines
    events_are = rw (← of.0, coded_are shape.typical template rows lines kept.previous_typical flag w, of.1, is) refl

    by : (r : Result (Unit {0}) CoderFault) → OnOk r ((kept'.offset ≡ kept.offset) × (kept'.previous_typical ≡ flag)) → Puts sink (canonical_events shape kept lines) c c' r →
        RowEncoded (sink_at sink c.out.now pushed) (row_task shape kept (state_at c p) lines) kept' new r
    by (Ok x) k h = record {
      ok = record { encodes = rw (new_is.0, new_is.1, new_is.2) ((h.goes going).ok p pushed at); offset_is = k.0; flag_is = k.1 ∙ is };
      err = tt;
    }
    by (Err f) k h = record { ok = tt; err = rw (new_is.2) ((h.goes going).err p pushed at) }
