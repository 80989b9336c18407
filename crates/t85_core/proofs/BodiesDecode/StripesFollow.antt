-- Stripes that a decoder ran through, as the definitions see them in the whole image.
use Rattle.std.proofs.Common.{◌≡◌, ℕ, zero, suc, ◌+◌, ◌-◌, ◌*◌, ◌<◌, ◌≤◌, ◌⊎◌, inl, inr, nat_eq, Bool, true, false, List, [], ◌∷◌, ◌++◌, length, map, refl, sym, ◌∙◌, ap, subst, arith, None, length-append}
use Rattle.std.specs.Prelude.{slice_index_or, if◌then◌else◌, flat_map, filter_map, min}
use Rattle.std.specs.List.{AllByRecursion}
use Rattle.std.proofs.lemmas.Bool.{cases_lt}
use Rattle.std.proofs.lemmas.Bool.Decides.{nat_tests}
use Rattle.qm_core.specs.Place.{after, fresh}
use Rattle.qm_core.specs.Code.{Lies}
use Rattle.raster_core.specs.Raster.{row_above, white_row}
use Rattle.raster_core.specs.Lines.{numbers_from, IsLegalFlag}
use Rattle.t85_core.specs.Header.{Fields}
use Rattle.t85_core.specs.Grammar.{Stripe}
use Rattle.t85_core.specs.Coding.{Coding, fresh_stripe, lines_of, moved_at, last_or, flag_of, events_of_row, learned_at, place_of, begun, mode_of, move_of, flagged}
use Rattle.t85_core.specs.Denotes.{coding_in}
use Rattle.t85_core.specs.States.State.{RowStart, StripeStart, first_row_start, next_stripe_start, after_row, Run, StripeRun, StripesRun, RowCoding, stripe_coding}
use Rattle.t85_core.proofs.StreamsDenote.StateIsCarried.{row_above_top}
use Rattle.t85_core.proofs.BytesJoin.ListsKeepElements.{Continues, continues_left, continues_right, continues_first, continues_rest}
use Rattle.t85_core.specs.States.Looked.{CarryAt, offset_before, flag_before}
use Rattle.t85_core.proofs.StreamsDenote.StateIsLookedUp.{CarriedAt, Ran, stripe_begins, rows_run}

-- as many flags as rows, each as wide as it should be
pub run_flags : (coding : RowCoding) (r : ℕ) (b : RowStart) (rows : List (List Bool)) (flags : List Bool) (last : RowStart) → Run coding r b rows flags last → length flags ≡ length rows
run_flags coding r b [] [] last h = refl
run_flags coding r b (row ∷ rows) (f ∷ flags) last h = ap suc (run_flags coding (r + 1) (after_row coding.mode coding.move r b row f) rows flags last h.1)
run_flags coding r b rows flags last h = absurd h

pub run_wide : (coding : RowCoding) (r : ℕ) (b : RowStart) (rows : List (List Bool)) (flags : List Bool) (last : RowStart) → Run coding r b rows flags last →
    AllByRecursion (λ row. length row ≡ coding.width) rows
run_wide coding r b [] [] last h = tt
run_wide coding r b (row ∷ rows) (f ∷ flags) last h = (h.0.wide, run_wide coding (r + 1) (after_row coding.mode coding.move r b row f) rows flags last h.1)
run_wide coding r b rows flags last h = absurd h

module _ (h : Fields) (some : 0 < h.l0) (all : List Stripe) (all_flags : List Bool) (all_rows : List (List Bool)) where
  abbrev c : Coding
  c = coding_in h all all_flags all_rows

  -- a stripe ends, and the next begins
  next_carry : (i : ℕ) (reset : Bool) (last : RowStart) → slice_index_or c.resets i false ≡ reset → (suc i * h.l0 ≤ length all_rows) →
      CarriedAt c i h.l0 (suc i * h.l0) last → CarryAt c (suc i) (suc i * h.l0) (next_stripe_start h.xd reset last)
  next_carry i true last reset_is long k =
      let fresh_here : fresh_stripe c (suc i) ≡ suc i = ap (λ b. if b then suc i else fresh_stripe c i) reset_is in
      let none : suc i * h.l0 - suc i * h.l0 ≡ 0 = omega arith in
      let test : nat_eq (suc i * h.l0) (suc i * h.l0) ≡ true = grind (arith, nat_tests) in
      record {
        learned = sym (ap (λ b. if b then fresh else (after (begun (learned_at c i)) (Rattle.t85_core.specs.Coding.events_of c i)).learned) reset_is);
        offset = sym (ap (λ j. offset_before c (j * h.l0) (suc i * h.l0)) fresh_here ∙ ap (λ n. last_or 0 (filter_map (moved_at c) (numbers_from (suc i * h.l0) n))) none);
        previous = sym (ap (λ j. flag_before c (j * h.l0) (suc i * h.l0)) fresh_here ∙ ap (λ b. if b then false else slice_index_or c.flags (suc i * h.l0 - 1) false) test);
        above = sym (ap (λ j. row_above c.raster (j * h.l0) (suc i * h.l0) 1) fresh_here ∙ row_above_top c.raster (suc i * h.l0) 1 (omega arith));
        second = sym (ap (λ j. row_above c.raster (j * h.l0) (suc i * h.l0) 2) fresh_here ∙ row_above_top c.raster (suc i * h.l0) 2 (omega arith));
      }
  next_carry i false last reset_is long k =
      let fresh_before : fresh_stripe c i ≡ fresh_stripe c (suc i) = sym (ap (λ b. if b then suc i else fresh_stripe c i) reset_is) in
      let many : h.l0 ≡ min h.l0 (length all_rows - i * h.l0) = omega (arith, long) in
      record {
        learned =
            ap (λ s. s.learned) k.state
            ∙ ap (λ n. (after (begun (learned_at c i)) (flat_map (events_of_row c) (numbers_from (i * h.l0) n))).learned) many
            ∙ sym (ap (λ b. if b then fresh else (after (begun (learned_at c i)) (Rattle.t85_core.specs.Coding.events_of c i)).learned) reset_is);
        offset = k.offset ∙ ap (λ j. offset_before c (j * h.l0) (suc i * h.l0)) fresh_before;
        previous = k.previous ∙ ap (λ j. flag_before c (j * h.l0) (suc i * h.l0)) fresh_before;
        above = k.above ∙ ap (λ j. row_above c.raster (j * h.l0) (suc i * h.l0) 1) fresh_before;
        second = k.second ∙ ap (λ j. row_above c.raster (j * h.l0) (suc i * h.l0) 2) fresh_before;
      }

  -- a stripe that was run through
  pub record Followed (i : ℕ) (s : Stripe) (n : ℕ) (next : StripeStart) : Type 0 where
    pub legal : (k : ℕ) → k < n → IsLegalFlag (mode_of h.options) (lines_of c (i * h.l0 + k)) (flag_of c (i * h.l0 + k))
    pub lies : Lies s.code (place_of c i)
    pub carried : suc i * h.l0 ≤ length all_rows → CarryAt c (suc i) (suc i * h.l0) next

  pub stripe_follows : (i n : ℕ) (b : StripeStart) (s : Stripe) (rows : List (List Bool)) (flags : List Bool) (next : StripeStart) →
      n ≡ min h.l0 (length all_rows - i * h.l0) → CarryAt c i (i * h.l0) b →
      slice_index_or c.moves i None ≡ move_of s.segments → slice_index_or c.resets i false ≡ s.reset →
      Continues (white_row h.xd) all_rows (i * h.l0) rows → Continues false all_flags (i * h.l0) flags →
      StripeRun h n b s (flagged rows flags) next → Followed i s n next
  stripe_follows i n b s rows flags next n_is k move_is reset_is rows_at flags_at run =
      let y : i * h.l0 ≡ i * h.l0 + 0 = omega arith in
      let ran : Ran c i 0 (i * h.l0) (length rows) run.last = rows_run rows flags
      (record { few = omega (arith, n_is, run.many); y_is = y; move_is = move_is; carried = stripe_begins c i b k; rows_at = rows_at; flags_at = flags_at }) run.run in
      let zero_n : 0 + length rows ≡ n = omega (arith, run.many) in
      record {
        legal = λ j lt. ran.legal j (omega (arith, lt, run.many));
        lies = subst (λ m. Lies s.code (after (begun (learned_at c i)) (flat_map (events_of_row c) (numbers_from (i * h.l0) m))).place) (zero_n ∙ n_is)
            (subst (λ z. Lies s.code z.place) ran.carried.state run.lies);
        carried = λ long.
            let r_is : 0 + length rows ≡ h.l0 = omega (arith, zero_n, n_is, long) in
            let y_is : i * h.l0 + length rows ≡ suc i * h.l0 = omega (arith, r_is) in
            subst (CarryAt c (suc i) (suc i * h.l0)) (sym run.next_is)
            (next_carry i s.reset run.last reset_is long
            (subst (λ z. CarriedAt c i h.l0 z run.last) y_is (subst (λ z. CarriedAt c i z (i * h.l0 + length rows) run.last) r_is ran.carried)));
      }

  -- what is carried to stripe i, and the rows and flags from there on
  pub record Ahead (i : ℕ) (b : StripeStart) (rows : List (List Bool)) (flags : List Bool) : Type 0 where
    pub carry : CarryAt c i (i * h.l0) b
    pub rows_at : Continues (white_row h.xd) all_rows (i * h.l0) rows
    pub flags_at : Continues false all_flags (i * h.l0) flags

  -- stripes that were run through, from stripe i on, where so many rows were still to come
  pub record AllFollowed (i left : ℕ) (todo : List Stripe) (n : ℕ) (next : StripeStart) : Type 0 where
    pub legal : (k : ℕ) → k < n → IsLegalFlag (mode_of h.options) (lines_of c (i * h.l0 + k)) (flag_of c (i * h.l0 + k))
    pub lies : (j : ℕ) → j < length todo → Lies (slice_index_or (map (λ (s : Stripe). s.code) todo) j []) (place_of c (i + j))
    pub carried : (i + length todo) * h.l0 ≤ length all_rows → CarryAt c (i + length todo) ((i + length todo) * h.l0) next
    pub many : n ≡ min left (length todo * h.l0)

  pub stripes_follow : (i left : ℕ) (b : StripeStart) (todo : List Stripe) (rows : List (List Bool)) (flags : List Bool) (next : StripeStart) →
      length todo * h.l0 < left + h.l0 → min left (length todo * h.l0) ≡ min (length all_rows - i * h.l0) (length todo * h.l0) →
      (i * h.l0 ≤ length all_rows → Ahead i b rows flags) →
      Continues None c.moves i (map (λ (s : Stripe). move_of s.segments) todo) → Continues false c.resets i (map (λ (s : Stripe). s.reset) todo) →
      StripesRun h left b todo (flagged rows flags) next → AllFollowed i left todo (length rows) next
  stripes_follow i left b [] rows flags next enough alike ahead moves_at resets_at run =
      let none : length rows ≡ 0 = ap length run.0 in
      let i0 : i ≡ i + 0 = omega arith in
      record {
        legal = λ j lt. absurd (omega (arith, lt, none));
        lies = λ j lt. absurd (omega (arith, lt));
        carried = λ long. subst (λ z. CarryAt c z (z * h.l0) next) i0 (subst (CarryAt c i (i * h.l0)) run.2 (ahead (subst (λ z. z * h.l0 ≤ length all_rows) (sym i0) long)).carry);
        many = omega (arith, none);
      }
  stripes_follow i left b (s ∷ todo) rows flags next enough alike ahead moves_at resets_at run =
      joined (stripes_follow (suc i) (left - h.l0) run.4 todo run.1 run.3 next (omega (arith, enough)) (omega (arith, alike, enough)) ahead_next
      (subst (λ z. Continues None c.moves z (map (λ (s : Stripe). move_of s.segments) todo)) i_next
      (continues_rest None c.moves i (move_of s.segments) (map (λ (s : Stripe). move_of s.segments) todo) moves_at))
      (subst (λ z. Continues false c.resets z (map (λ (s : Stripe). s.reset) todo)) i_next (continues_rest false c.resets i s.reset (map (λ (s : Stripe). s.reset) todo) resets_at))
      run.8)
    where
      lengths : length rows ≡ length run.0 + length run.1
      lengths = ap length run.5 ∙ length-append run.0 run.1

      flags_many : length run.2 ≡ length run.0
      flags_many = run_flags (stripe_coding h s.segments) 0 (first_row_start b) run.0 run.2 run.7.last run.7.run

      i_next : i + 1 ≡ suc i
      i_next = omega arith

      from : i * h.l0 ≤ length all_rows
      from = omega (arith, alike, enough)

      ahead_rows : Continues (white_row h.xd) all_rows (i * h.l0) (run.0 ++ run.1)
      ahead_rows = subst (Continues (white_row h.xd) all_rows (i * h.l0)) run.5 (ahead from).rows_at

      ahead_flags : Continues false all_flags (i * h.l0) (run.2 ++ run.3)
      ahead_flags = subst (Continues false all_flags (i * h.l0)) run.6 (ahead from).flags_at

      here : Followed i s (min left h.l0) run.4
      here = stripe_follows i (min left h.l0) b s run.0 run.2 run.4 (omega (arith, alike)) (ahead from).carry
          (continues_first None c.moves i (move_of s.segments) (map (λ (s : Stripe). move_of s.segments) todo) moves_at)
          (continues_first false c.resets i s.reset (map (λ (s : Stripe). s.reset) todo) resets_at)
          (continues_left (white_row h.xd) all_rows (i * h.l0) run.0 run.1 ahead_rows)
          (continues_left false all_flags (i * h.l0) run.2 run.3 ahead_flags)
          run.7

      ahead_next : suc i * h.l0 ≤ length all_rows → Ahead (suc i) run.4 run.1 run.3
      ahead_next long =
          let whole : length run.0 ≡ h.l0 = omega (arith, run.7.many, alike, long) in
          let y_next : i * h.l0 + length run.0 ≡ suc i * h.l0 = omega (arith, whole) in
          let y_flags : i * h.l0 + length run.2 ≡ suc i * h.l0 = omega (arith, whole, flags_many) in
          record {
            carry = here.carried long;
            rows_at = subst (λ z. Continues (white_row h.xd) all_rows z run.1) y_next (continues_right (white_row h.xd) all_rows (i * h.l0) run.0 run.1 ahead_rows);
            flags_at = subst (λ z. Continues false all_flags z run.3) y_flags (continues_right false all_flags (i * h.l0) run.2 run.3 ahead_flags);
          }

      joined : AllFollowed (suc i) (left - h.l0) todo (length run.1) next → AllFollowed i left (s ∷ todo) (length rows) next
      joined others = record {
        legal = λ k lt. legal_at k lt (cases_lt k (length run.0));
        lies = lies_at;
        carried = λ long. subst (λ z. CarryAt c z (z * h.l0) next) i_more (others.carried (subst (λ z. z * h.l0 ≤ length all_rows) (sym i_more) long));
        many = omega (arith, lengths, run.7.many, others.many);
      } where
        i_more : suc i + length todo ≡ i + length (s ∷ todo)
        i_more = omega arith

        legal_at : (k : ℕ) → k < length rows → (k < length run.0) ⊎ (length run.0 ≤ k) → IsLegalFlag (mode_of h.options) (lines_of c (i * h.l0 + k)) (flag_of c (i * h.l0 + k))
        legal_at k lt (inl less) = here.legal k (omega (arith, less, run.7.many))
        legal_at k lt (inr ge) =
            let k_less : k - h.l0 < length run.1 = omega (arith, lt, lengths, ge, run.7.many, others.many) in
            let at : suc i * h.l0 + (k - h.l0) ≡ i * h.l0 + k = omega (arith, lt, lengths, ge, run.7.many, others.many) in
            subst (λ z. IsLegalFlag (mode_of h.options) (lines_of c z) (flag_of c z)) at (others.legal (k - h.l0) k_less)

        lies_at : (j : ℕ) → j < length (s ∷ todo) → Lies (slice_index_or (map (λ (s : Stripe). s.code) (s ∷ todo)) j []) (place_of c (i + j))
        lies_at zero lt = let i0 : i ≡ i + 0 = omega arith in subst (λ z. Lies s.code (place_of c z)) i0 here.lies
        lies_at (suc j) lt =
            let at : suc i + j ≡ i + suc j = omega arith in
            subst (λ z. Lies (slice_index_or (map (λ (s : Stripe). s.code) todo) j []) (place_of c z)) at (others.lies j (omega (arith, lt)))
