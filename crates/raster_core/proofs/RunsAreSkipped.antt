-- Runs of pixels, decoded in one step.
use Rattle.std.proofs.Common.{◌≡◌, ℕ, zero, suc, ◌+◌, ◌-◌, ◌*◌, ◌%◌, ◌^◌, ◌<◌, ◌≤◌, Bool, true, false, List, [], ◌∷◌, ◌++◌, length, refl, sym, ◌∙◌, ap, arith, subst, replicate, append_assoc}
use Rattle.std.proofs.Math.Nat.{pow-suc}
use Rattle.std.proofs.lemmas.Nat.{pow_pos}
use Rattle.std.proofs.lemmas.List.{replicate-append-replicate, append-nil, length-append, length-replicate, get_or-append-add, get_or-replicate}
use Rattle.qm_core.specs.Place.{Place, State, Event, step, after}
use Rattle.qm_core.specs.Code.{wanted_bytes}
use Rattle.qm_core.specs.Source.{SourceAt, bytes_of, heard_of, is_stopped}
use Rattle.qm_core.specs.Skipping.{IsRun}
use Rattle.qm_core.specs.Decoder.{DecoderIsAt, DecoderState, has_stopped, decoder_state}
use Rattle.qm_core.specs.declared.source.Pulled.{Pulled}
use Rattle.qm_core.specs.declared.source.Heard.TheVariants.{More, Stopped}
use Rattle.qm_core.specs.declared.decoder.Decoder.{Decoder}
use Rattle.raster_core.specs.Raster.{pixel_at}
use Rattle.raster_core.specs.Lines.{Lines, Mode, context_at, pixel_events}
use Rattle.raster_core.specs.Machine.Registers.{bit, before, past_bits}
use Rattle.raster_core.specs.Enough.{AreEnough}
use Rattle.raster_core.specs.Machine.Decoded.{ByteAround, PlainRow, with_row, events_up_to, PixelsSoFar, Along, SkipsAlong}
use Rattle.raster_core.specs.Machine.Uniform.{uniform_context, uniform_event, StaysUniform}
use Rattle.raster_core.proofs.PixelNumbersSplit.{before_suc, before_zero}
use Rattle.raster_core.proofs.ContextsLookBack.{context_front, before_front, pixel_events_more}
use Rattle.raster_core.proofs.EventsAreDecoded.{after_append, enough_append}
use Rattle.raster_core.proofs.ByteHasOneColour.{one_more, past_run}

-- ---- a row that goes on in one colour

pub run_pixels : (done : List Bool) (n : ℕ) (c : Bool) (k : ℕ) → k < n → pixel_at (done ++ replicate n c) (length done + k) ≡ c
run_pixels done n c k few = get_or-append-add done (replicate n c) k false ∙ get_or-replicate n k c false few

pub run_before : (row : List Bool) (x n : ℕ) (c : Bool) → ((k : ℕ) → k < n → pixel_at row (x + k) ≡ c) → before row (x + n) n ≡ bit c * (2 ^ n - 1)
run_before row x zero c own = before_zero row (x + 0) ∙ none c
  where
    none : (c : Bool) → 0 ≡ bit c * (2 ^ 0 - 1)
    none true = refl
    none false = refl
run_before row x (suc n) c own =
    let e : x + suc n ≡ suc (x + n) = omega arith in
    let shorter = run_before row x n c (λ k few. own k (omega arith)) in
    rw (e, before_suc, own n (omega arith), shorter) (twice c n)
  where
    twice : (c : Bool) (n : ℕ) → 2 * (bit c * (2 ^ n - 1)) + bit c ≡ bit c * (2 ^ suc n - 1)
    twice true n = let p = pow-suc 2 n in let q = pow_pos n in omega arith
    twice false n = omega arith

run_front : (done : List Bool) (n j : ℕ) (c : Bool) → j ≤ n → done ++ replicate n c ≡ (done ++ replicate j c) ++ replicate (n - j) c
run_front done n j c few =
    let e : j + (n - j) ≡ n = omega arith in
    ap (λ z. done ++ z) (ap (λ z. replicate z c) (sym e) ∙ sym (replicate-append-replicate j (n - j) c)) ∙ sym (append_assoc done (replicate j c) (replicate (n - j) c))

-- the context of each depends on the pixels before it alone
run_contexts : (mode : Mode) (lines : Lines) (offset : ℕ) (done : List Bool) (n : ℕ) (c : Bool) → StaysUniform mode (with_row lines (done ++ replicate n c)) offset c (length done) n →
    (j : ℕ) → j < n → context_at mode (with_row lines (done ++ replicate j c)) offset (length done + j) ≡ uniform_context c
run_contexts mode lines offset done n c stays j few =
    let long : length (done ++ replicate j c) ≡ length done + j = rw (length-append, length-replicate) refl in
    rw (← context_front mode lines (done ++ replicate j c) (replicate (n - j) c) offset (length done + j) (omega arith), ← run_front done n j c (omega arith))
    (stays j few (λ k less. run_pixels done n c k (omega arith)))

events_run : (mode : Mode) (lines : Lines) (offset : ℕ) (done : List Bool) (n : ℕ) (c : Bool) →
    ((j : ℕ) → j < n → context_at mode (with_row lines (done ++ replicate j c)) offset (length done + j) ≡ uniform_context c) →
    pixel_events mode (with_row lines (done ++ replicate n c)) offset ≡ pixel_events mode (with_row lines done) offset ++ replicate n (uniform_event c)
events_run mode lines offset done zero c contexts = rw append-nil (sym (append-nil (pixel_events mode (with_row lines done) offset)))
events_run mode lines offset done (suc n) c contexts =
    let shorter = events_run mode lines offset done n c (λ j few. contexts j (omega arith)) in
    let long : length (done ++ replicate n c) ≡ length done + n = rw (length-append, length-replicate) refl in
    let row : done ++ replicate (suc n) c ≡ (done ++ replicate n c) ++ c ∷ [] = rw (← one_more) (sym (append_assoc done (replicate n c) (c ∷ []))) in
    let here : context_at mode (with_row lines (done ++ replicate n c)) offset (length (done ++ replicate n c)) ≡ uniform_context c =
    rw long (contexts n (omega arith)) in
    rw (row, pixel_events_more mode lines offset (done ++ replicate n c) c, here, shorter, append_assoc, one_more n (uniform_event c)) refl

-- ---- a run needs no byte

enough_run : (n : ℕ) (s : State) (event : Event) (count : ℕ) → ((k : ℕ) → k ≤ n → (after s (replicate k event)).place.doublings ≡ s.place.doublings) → wanted_bytes s.place.doublings ≤ count →
    AreEnough count s (replicate n event)
enough_run zero s event count quiet h = tt
enough_run (suc n) s event count quiet h =
    let one = quiet 1 (omega arith) in
    (h, enough_run n (step s event.context event.pixel) event count (λ k few. quiet (suc k) (omega arith) ∙ sym one) (rw one h))

pub not_stopped : (d : Decoder) (p : Place) (answers : List Pulled) → DecoderIsAt d p answers → has_stopped d ≡ false → heard_of answers ≡ Stopped → ⊥
not_stopped d p answers h going stopped =
    let e : is_stopped Stopped ≡ false = ap is_stopped (sym stopped) ∙ (ap is_stopped (sym h.heard) ∙ going) in
    cc

-- n pixels in one step
pub decoded_run : {S : Type 0} {old : SourceAt S} {row : PlainRow} {at : DecoderState S} {done : List Bool} {past past' : ℕ} {d' : Decoder} (n : ℕ) (c : Bool) →
    PixelsSoFar old row done past at →
    StaysUniform row.mode (with_row row.lines (done ++ replicate n c)) row.offset c (length done) n → past' ≡ before (done ++ replicate n c) (length (done ++ replicate n c)) (past_bits row.offset) →
    has_stopped at.decoder ≡ false →
    ((p : Place) (given : List Pulled) → DecoderIsAt at.decoder p given →
    IsRun (record { place = p; learned = at.learned }) (uniform_event c) n
    × DecoderIsAt d' (after (record { place = p; learned = at.learned }) (replicate n (uniform_event c))).place given
    × (heard_of given ≡ More → wanted_bytes p.doublings ≤ length (bytes_of given))) →
    PixelsSoFar old row (done ++ replicate n c) past' (decoder_state at.source d' at.learned)
decoded_run {S} {old} {row} {at} {done} n c h stays past_is going decoded =
    let s = row.state in
    let es = events_up_to row done in
    let given = old.answers ++ h.more in
    let k = decoded (after s es).place given h.decodes.stands in
    let same : after s es ≡ record { place = (after s es).place; learned = at.learned } = ap (λ l. record { place = (after s es).place; learned = l }) (sym h.decodes.taught) in
    let run : es ++ replicate n (uniform_event c) ≡ events_up_to row (done ++ replicate n c) =
    rw (append_assoc row.first _ (replicate n (uniform_event c)), ← events_run row.mode row.lines row.offset done n c (run_contexts row.mode row.lines row.offset done n c stays)) refl in
    let last : after (record { place = (after s es).place; learned = at.learned }) (replicate n (uniform_event c)) ≡ after s (events_up_to row (done ++ replicate n c)) =
    rw (← same, ← after_append, run) refl in
    record {
      past_is = past_is;
      more = h.more;
      decodes = record {
        gives = h.decodes.gives;
        stands = rw (← last) k.1;
        taught = rw (← k.0.taught, last) refl;
        enough = λ more. rw (← run) (enough_append es (replicate n (uniform_event c)) (length (bytes_of given)) s (h.decodes.enough more)
            (subst (λ t. AreEnough (length (bytes_of given)) t (replicate n (uniform_event c))) (sym same)
            (enough_run n (record { place = (after s es).place; learned = at.learned }) (uniform_event c) (length (bytes_of given)) k.0.quiet (k.2 more))));
        going = λ stopped. absurd (not_stopped at.decoder (after s es).place given h.decodes.stands going stopped);
      };
    }

pub skipped_along : {S : Type 0} {pull : S → Pulled → S → Type 0} {b : ByteAround} {byte past' : ℕ} {old : DecoderState S} {d' : Decoder} →
    SkipsAlong b byte old.decoder old.learned d' → past' ≡ b.past % 2 ^ (past_bits b.offset - 8) * 256 + byte →
    Along pull b old 8 past' (decoder_state old.source d' old.learned)
skipped_along {b = b} {byte} {past'} k past_is = record {
  any = λ from first s answers lines done so_far s2 a2.
      let row = done ++ replicate 8 k.colour in
      let near : b.past ≡ before row (length done) (past_bits b.offset) = so_far.past_is ∙ sym (before_front done (replicate 8 k.colour) (length done) (past_bits b.offset) (omega arith)) in
      let byte_is = k.byte_is ∙ sym (run_before row (length done) 8 k.colour (run_pixels done 8 k.colour)) in
      let long = length-append done (replicate 8 k.colour) in
      let behind : past' ≡ before row (length row) (past_bits b.offset) =
      rw (past_is, past_run row b.offset (length done) near byte_is, ← long) refl in
      record {
        pixels = replicate 8 k.colour;
        count = refl;
        so_far = decoded_run 8 k.colour so_far (k.uniform (with_row lines row) (length done) s2 a2 near) behind k.going k.decoded;
      };
}
