-- From the engine's effect on a buffer to the contents of the caller's memory.
use Rattle.std.proofs.Common.{◌≡◌, ◌≢◌, ◌≤◌, ◌<◌, ◌⊎◌, inl, inr, ℕ, zero, suc, Bool, true, false, List, [], ◌∷◌, ◌++◌, length, take, flat_map, Option, Some, None, Result, Ok, Err, refl, sym, ap, ◌∙◌, subst, arith, append-nil, append_assoc, length-append, true≢false}
use Rattle.std.specs.Prelude.{is_some, option_to_list}
use Rattle.std.specs.Io.KnownBytes.{Appends}
use Rattle.std.proofs.lemmas.Grind.{common_steps}
use Rattle.devices.specs.Device.{AppendsBeginning}
use Rattle.pbm_core.specs.Pbm.{header_text}
use Rattle.raster_core.specs.Packed.{packed_row}
use Rattle.t85_core.specs.declared.fault.Fault.{Fault}
use Rattle.t85_core.specs.declared.fault.Fault.TheVariants.{Read, Write}
use Rattle.t85_core.specs.DecodeRows.{PutsRows}
use Rattle.t85_core.specs.Header.{Fields}
use Rattle.t85_core.specs.Failures.{reads_after, writes_after}
use Rattle.t85_core.specs.Laws.{HasOutcome}
use Rattle.t85_core.specs.Outcome.{IsOutcome, pbm_rows}
use Rattle.t85_core.specs.RowSink.{TargetView}
use Rattle.libt85.specs.Delivered.{fault_status, answer_status, Fits, IsFull}

-- what an empty room holds
pub emptied : (len : ℕ) (memory : List ℕ) (spilled : Option ℕ) → len ≡ 0 → spilled ≡ None → take len memory ++ option_to_list spilled ≡ []
emptied len memory spilled empty none = ap (λ n. take n memory ++ option_to_list spilled) empty ∙ ap option_to_list none

-- no read was counted
pub unread_once : (f : Fault) → 0 ≡ reads_after f 0 → f ≢ Read
unread_once f counts same = (let counted : 0 ≡ reads_after Read 0 = subst (λ z. 0 ≡ reads_after z 0) same counts in omega (arith, counted))

-- no write was counted
unfailed : (f : Fault) → 0 ≡ writes_after f 0 → f ≢ Write
unfailed f counts same = (let counted : 0 ≡ writes_after Write 0 = subst (λ z. 0 ≡ writes_after z 0) same counts in omega (arith, counted))

-- a room with nothing spilled has not failed
pub none_failed : (failures : ℕ) (spilled : Bool) → spilled ≡ false → (0 < failures → spilled ≡ true) → failures ≡ 0
none_failed zero spilled none full = refl
none_failed (suc n) spilled none full = absurd (true≢false (sym (full (omega arith)) ∙ none))

-- a text in the first bytes of memory
pub fits_in : (text : List ℕ) (status : ℕ) (memory : List ℕ) (len answer : ℕ) → take len memory ≡ text → len ≤ length memory → answer ≡ status → Fits text status memory len answer
fits_in text status memory len answer stands within same =
    let long : length text ≡ len = ap length (sym stands) ∙ grind (arith, common_steps) in
    record { fits = omega arith; written_is = sym long; stands = stands; answer_is = same }

-- memory that a text fills and goes beyond
pub full_of : (text memory : List ℕ) (b : ℕ) (rest : List ℕ) (len : ℕ) → text ≡ (take len memory ++ b ∷ []) ++ rest → len ≡ length memory → IsFull text memory len 18
full_of text memory b rest len is all =
    let front : take len memory ≡ memory = rw all (grind (arith, common_steps)) in
    let text_is : text ≡ memory ++ b ∷ rest = is ∙ append_assoc (take len memory) (b ∷ []) rest ∙ ap (λ l. l ++ b ∷ rest) front in
    record {
      longer = omega (arith, ap length text_is, length-append memory (b ∷ rest));
      written_is = all;
      stands = sym (ap (take (length memory)) text_is ∙ grind (arith, common_steps));
      answer_is = refl;
    }

-- ---- a room that was empty

-- it has the whole text
pub unspilled : {old text memory : List ℕ} {len status answer : ℕ} (spilled : Option ℕ) → old ≡ [] → is_some spilled ≡ false → len ≤ length memory → answer ≡ status →
    Appends (Some old) (Some (take len memory ++ option_to_list spilled)) text → Fits text status memory len answer
unspilled (Some b) empty none within told put = absurd (true≢false none)
unspilled {old} {text} {memory} {len} {status} {answer} None empty none within told put =
    fits_in text status memory len answer (sym (append-nil (take len memory)) ∙ put ∙ ap (λ l. l ++ text) empty) within told

-- it has spilled, so it has a beginning of the text
pub spilled_over : {old text memory : List ℕ} {len : ℕ} (spilled : Option ℕ) → old ≡ [] → is_some spilled ≡ true → (is_some spilled ≡ true → len ≡ length memory) →
    AppendsBeginning (Some old) (Some (take len memory ++ option_to_list spilled)) text → IsFull text memory len 18
spilled_over None empty some last cut = absurd (true≢false (sym some))
spilled_over {old} {text} {memory} {len} (Some b) empty some last cut =
    full_of text memory b cut.rest len (cut.text_is ∙ ap (λ l. l ++ cut.rest) (sym (cut.appends ∙ ap (λ l. l ++ cut.front) empty))) (last some)

-- ---- the rows of an outcome

-- every outcome begins with the header of its image
pub begins_so : (h : Fields) (height : ℕ) (body : List ℕ) (fault : Option Fault) (text : List ℕ) → IsOutcome h height body fault text →
    (rest : List ℕ) × (text ≡ header_text h.xd height ++ rest)
begins_so h height body None text o =
    let raster = o.0 in
    let d = o.1 in (
      flat_map packed_row raster.rows,
      o.2 ∙ ap (λ w. pbm_rows w (length raster.rows) raster.rows) d.width ∙ ap (λ n. pbm_rows h.xd n raster.rows) d.height,
    )
begins_so h height body (Some f) text o = (flat_map packed_row o.0, o.2)

-- an error is that of a write, or another
write_or : (f : Fault) → (f ≡ Write) ⊎ (f ≢ Write)
write_or Write = inl refl
write_or f = inr (λ e. (let bot : ⊥ = cc in bot))

-- the rows that a sink has received
module _ {h : Fields} {height : ℕ} {body : List ℕ} (o : HasOutcome h height body) where
  pub rows_are : {old new : TargetView} {answer : Result (Unit {0}) Fault} (d : PutsRows h height body old new answer) → o.text ≡ pbm_rows h.xd height d.rows
  rows_are d = sym (o.only d.fault _ d.is).1

  -- a sink that has not failed has received all rows, and the outcome is reported
  pub all_put : {old new : TargetView} (answer : Result (Unit {0}) Fault) (d : PutsRows h height body old new answer) → old.failures ≡ 0 → new.failures ≡ 0 →
      Appends old.text new.text (flat_map packed_row d.rows) × (answer_status answer ≡ fault_status o.fault)
  all_put (Ok u) d fresh none = (d.whole.1, ap fault_status (sym d.whole.0 ∙ (o.only d.fault _ d.is).0))
  all_put (Err f) d fresh none =
      let w = d.broken (unfailed f (sym none ∙ d.writes.counts ∙ ap (writes_after f) fresh)) in
      (w.1, ap fault_status (sym w.0 ∙ (o.only d.fault _ d.is).0))

  -- whatever happened, it has received a beginning of them
  pub some_put : {old new : TargetView} (answer : Result (Unit {0}) Fault) (d : PutsRows h height body old new answer) → AppendsBeginning old.text new.text (flat_map packed_row d.rows)
  some_put (Ok u) d = record { front = flat_map packed_row d.rows; rest = []; text_is = sym (append-nil (flat_map packed_row d.rows)); appends = d.whole.1 }
  some_put (Err f) d = elim (write_or f) [
    | inl is ↦ d.cut (ap Err is)
    | inr other ↦ record { front = flat_map packed_row d.rows; rest = []; text_is = sym (append-nil (flat_map packed_row d.rows)); appends = (d.broken other).1 }
  ]
