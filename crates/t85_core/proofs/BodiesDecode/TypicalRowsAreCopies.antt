-- Rows that equal the one before them, several at once.
use Rattle.std.proofs.Common.{◌≡◌, ℕ, zero, suc, ◌+◌, ◌<◌, ◌≤◌, Bool, true, false, List, [], ◌∷◌, ◌++◌, length, refl, sym, ◌∙◌, ap, subst, arith, Option, append_assoc, append-nil}
use Rattle.std.specs.Prelude.{replicate, flat_map}
use Rattle.qm_core.specs.Place.{Event, after}
use Rattle.qm_core.specs.Code.{wanted_bytes}
use Rattle.raster_core.specs.Lines.{Mode, pseudo_event, same_row}
use Rattle.raster_core.specs.Enough.{AreEnough}
use Rattle.raster_core.specs.Packed.{packed_row}
use Rattle.t85_core.specs.RowSink.{copies}
use Rattle.t85_core.specs.States.State.{RowStart, offset_at, after_row, Run, row_coding}
use Rattle.t85_core.specs.States.Cut.{events_with, RunEnough}

-- ---- typical rows after another

pub same_row_self : (row : List Bool) → same_row row row ≡ true
same_row_self [] = refl
same_row_self (true ∷ row) = same_row_self row
same_row_self (false ∷ row) = same_row_self row

module _ (w : ℕ) (mode : Mode) (move : Option (ℕ × ℕ)) (typical : mode.typical ≡ true) where
  -- what is coded for each
  abbrev pub again : Event
  again = pseudo_event mode true true

  -- after so many of them
  abbrev pub behind : ℕ → RowStart → ℕ → RowStart
  behind r b zero = b
  behind r b (suc n) = behind (r + 1) (after_row mode move r b b.above true) n

  pub again_events : (r : ℕ) (b : RowStart) → b.previous ≡ true → events_with mode move r b b.above true ≡ again ∷ []
  again_events r b previous = rw typical (rw previous refl)

  pub state_behind : (r : ℕ) (b : RowStart) (n : ℕ) → b.previous ≡ true → (behind r b n).state ≡ after b.state (replicate n again)
  state_behind r b zero previous = refl
  state_behind r b (suc n) previous =
      state_behind (r + 1) (after_row mode move r b b.above true) n refl ∙ ap (λ es. after (after b.state es) (replicate n again)) (again_events r b previous)

  pub above_behind : (r : ℕ) (b : RowStart) (n : ℕ) → (behind r b n).above ≡ b.above
  above_behind r b zero = refl
  above_behind r b (suc n) = above_behind (r + 1) (after_row mode move r b b.above true) n

  same_behind : (r : ℕ) (b : RowStart) (n : ℕ) → b.second ≡ b.above → (behind r b n).second ≡ b.above
  same_behind r b zero same = same
  same_behind r b (suc n) same = same_behind (r + 1) (after_row mode move r b b.above true) n refl

  pub second_behind : (r : ℕ) (b : RowStart) (n : ℕ) → 1 ≤ n → (behind r b n).second ≡ b.above
  second_behind r b zero some = absurd (omega (arith, some))
  second_behind r b (suc n) some = same_behind (r + 1) (after_row mode move r b b.above true) n refl

  pub previous_behind : (r : ℕ) (b : RowStart) (n : ℕ) → b.previous ≡ true → (behind r b n).previous ≡ true
  previous_behind r b zero previous = previous
  previous_behind r b (suc n) previous = previous_behind (r + 1) (after_row mode move r b b.above true) n refl

  pub offset_behind : (r : ℕ) (b : RowStart) (n : ℕ) → ((k o : ℕ) → r ≤ k → offset_at move k o ≡ o) → (behind r b n).offset ≡ b.offset
  offset_behind r b zero settled = refl
  offset_behind r b (suc n) settled =
      offset_behind (r + 1) (after_row mode move r b b.above true) n (λ k o le. settled k o (omega (arith, le))) ∙ settled r b.offset (omega arith)

  pub run_behind : (r : ℕ) (b : RowStart) (n : ℕ) → length b.above ≡ w → Run (row_coding w mode move) r b (replicate n b.above) (replicate n true) (behind r b n)
  run_behind r b zero wide = refl
  run_behind r b (suc n) wide =
      (record { wide = wide; legal = λ _. rw typical (rw (same_row_self b.above) refl) }, run_behind (r + 1) (after_row mode move r b b.above true) n wide)

  pub enough_behind : (count r : ℕ) (b : RowStart) (n : ℕ) → b.previous ≡ true →
      ((k : ℕ) → k < n → wanted_bytes (after b.state (replicate k again)).place.doublings ≤ count) → RunEnough count (row_coding w mode move) r b (replicate n b.above) (replicate n true)
  enough_behind count r b zero previous each = tt
  enough_behind count r b (suc n) previous each =
      let events = again_events r b previous in
      let state : (after_row mode move r b b.above true).state ≡ after b.state (again ∷ []) = ap (after b.state) events in (
        subst (AreEnough count b.state) (sym events) (each 0 (omega arith), tt),
        enough_behind count (r + 1) (after_row mode move r b b.above true) n refl
            (λ k l. subst (λ z. wanted_bytes (after z (replicate k again)).place.doublings ≤ count) (sym state) (each (suc k) (omega (arith, l)))),
      )

-- ---- the bytes of rows that are the same

pub copies_next : (n : ℕ) (bytes : List ℕ) → copies (n + 1) bytes ≡ copies n bytes ++ bytes
copies_next zero bytes = append-nil bytes
copies_next (suc n) bytes =
    let e : suc n + 1 ≡ suc (n + 1) = omega arith in
    ap (λ k. copies k bytes) e ∙ ap (λ z. bytes ++ z) (copies_next n bytes) ∙ sym (append_assoc bytes (copies n bytes) bytes)

-- some copies, and more of them
pub copies_front : (n k : ℕ) (bytes : List ℕ) → copies (n + k) bytes ≡ copies n bytes ++ copies k bytes
copies_front zero k bytes = let e : 0 + k ≡ k = omega arith in ap (λ i. copies i bytes) e
copies_front (suc n) k bytes =
    let e : suc n + k ≡ suc (n + k) = omega arith in
    ap (λ i. copies i bytes) e ∙ ap (λ z. bytes ++ z) (copies_front n k bytes) ∙ sym (append_assoc bytes (copies n bytes) (copies k bytes))

pub flat_copies : (n : ℕ) (row : List Bool) → flat_map packed_row (replicate n row) ≡ copies n (packed_row row)
flat_copies zero row = refl
flat_copies (suc n) row = ap (λ z. packed_row row ++ z) (flat_copies n row)
